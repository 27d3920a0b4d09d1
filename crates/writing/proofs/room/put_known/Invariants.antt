-- A turn puts the literal of one fluent, if the state knows it; what is left then makes of the room what the whole makes of it.
use Rattle.writing.proofs.RoomLaws.{Listing}
use Rattle.writing.proofs.room.put_known.Given as goal

abbrev pub invariant-loop-f : goal.invariant-loop-f
invariant-loop-f l = Listing l.marks l.initial.room l.q l.room l.p l.count l.f
