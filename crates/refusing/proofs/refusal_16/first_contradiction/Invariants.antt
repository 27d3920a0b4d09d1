-- At each turn no effect so far contradicts one before it, and the links lead to all of them.
use Prim.Native.Nat.{◌-◌}
use mathlib.Core.Path.{◌≡◌}
use mathlib.Core.List.{[]}
use Rattle.meaning.specs.Refusals.{first_against}
use Rattle.finding.specs.LinesHere.{effects_in}
use Rattle.refusing.specs.Refusal16.{contradictory_as, effects_before, Linked}
use Rattle.refusing.proofs.refusal_16.first_contradiction.Given as goal

abbrev pub invariant-loop-k : goal.invariant-loop-k
invariant-loop-k g l = let form = g.H.Held.FORM in Linked form l.s l.t l.same l.k × (first_against (contradictory_as form l.s) [] (effects_in form l.s l.t 0 l.count) ≡ first_against (contradictory_as form l.s) (effects_before form l.s l.t l.k) (effects_in form l.s l.t l.k (l.count - l.k)))
