-- At each turn every two conditions are exclusive exactly where every two of those left are.
use Prim.Native.Nat.{◌-◌}
use Rattle.finding.specs.Branches.{conditions_from}
use Rattle.refusing.specs.Refusal18.{all_apart}
use Rattle.refusing.proofs.Laws18.{Left}
use Rattle.refusing.proofs.refusal_18.exclusive.Given as goal

abbrev pub invariant-loop-k : goal.invariant-loop-k
invariant-loop-k g l = let form = g.H.Held.FORM in Left form l.s l.t (all_apart form l.s) (all_apart form l.s (conditions_from form l.s l.t l.count l.place l.item)) (l.count - l.k) l.p l.i
