-- Four stores, one after another.
use Rattle.verdicts.proofs.ReleasingLaws.{room_1, room_2, room_3, put_is}
use Rattle.verdicts.proofs.releasing.put_answer.Goals as goal

pub bounds-row-first-2 : goal.bounds-row-first-2
bounds-row-first-2 c = search room_1

pub bounds-row-first-3 : goal.bounds-row-first-3
bounds-row-first-3 c = search room_2

pub bounds-row-first-4 : goal.bounds-row-first-4
bounds-row-first-4 c = search room_3

pub returns : goal.returns
returns c = search put_is
