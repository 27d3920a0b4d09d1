use Prim.Native.Nat.{◌-◌}
use Rattle.steps.proofs.OnwardLaws.{Choosing}
use Rattle.steps.proofs.onward.chosen.Given as goal

abbrev pub invariant-loop : goal.invariant-loop
invariant-loop g l = Choosing g.S.Shape.FORM l.r.bytes.now l.r.notes.now l.i l.marks (l.end - l.counter) l.p l.item
