-- What is still to be stored makes of the room what the whole part makes of it as it was lent.
use Prim.Native.Nat.{◌+◌}
use Rattle.writing.proofs.RoomLaws.{Copying}
use Rattle.writing.proofs.room.put_part.Given as goal

abbrev pub invariant-loop-i : goal.invariant-loop-i
invariant-loop-i l = Copying l.s l.initial.room l.p l.e l.q l.room (l.p + l.i) (l.q + l.i)
