-- At each turn the first overlap of the plan is the first among the items left.
use Prim.Native.Nat.{◌-◌}
use mathlib.Core.Path.{◌≡◌}
use Rattle.finding.specs.Places.{found}
use Rattle.refusing.specs.Refusal18.{first_overlap}
use Rattle.refusing.proofs.refusal_18.first_overlap.Given as goal

abbrev pub invariant-loop-i : goal.invariant-loop-i
invariant-loop-i g l = let form = g.H.Held.FORM in found (first_overlap form l.s l.t l.count 0) ≡ found (first_overlap form l.s l.t (l.count - l.i) l.i)
