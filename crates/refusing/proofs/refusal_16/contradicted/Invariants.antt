-- The links lead to each earlier effect in the same bucket, and no other can be contradicted; they fall, so the loop ends.
use Rattle.refusing.specs.Refusal16.{Sought}
use Rattle.refusing.proofs.refusal_16.contradicted.Given as goal

abbrev pub invariant-loop-i : goal.invariant-loop-i
invariant-loop-i g l = Sought g.H.Held.FORM l.s l.t l.k l.i

abbrev pub decreases-loop-i : goal.decreases-loop-i
decreases-loop-i g l = l.i
