-- An action ends behind its byte; a branching behind its branches, which are passed one by one.
use Prim.Native.Nat.{◌-◌}
use Rattle.writing.proofs.ItemEndLaws.{Ending}
use Rattle.writing.proofs.rests.item_end.Given as goal

abbrev pub invariant-loop : goal.invariant-loop
invariant-loop l = Ending l.r.bytes.now l.r.notes.now l.i (l.branches - l.counter) l.p l.item
