-- The item has a slot for what follows it, and what follows fits there.
use Rattle.reading.proofs.NotingLaws.{next_fits}
use Rattle.reading.proofs.NotingLaws.{next_noted}
use borrow.Author.Rules.{rules}
use Rattle.reading.proofs.plan.note_next.Goals as goal

pub put-requires : goal.put-requires
put-requires c = search (rules, next_fits)

pub returns : goal.returns
returns c = search next_noted
