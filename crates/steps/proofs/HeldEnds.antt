-- What is so of the end of the walk of what is held, whatever its mode: what its steps keep, and what is so of each miss and of each stop. By `KeptEnds`.
-- Assumes nothing.
use Prim.Native.Nat.{ℕ}
use mathlib.Core.Path.{◌≡◌}
use mathlib.Core.List.{List}
use Rattle.meaning.specs.Limits
use Rattle.meaning.specs.Limits.{format}
use Rattle.meaning.specs.Refusals.{at}
use Rattle.meaning.specs.States.{State, first_state, state_after, outcome_to, outcome}
use Rattle.meaning.specs.Walk.{Concerned, no_state, in_state, walk, missed_in}
use Rattle.meaning.specs.Requests.{Table}
use Rattle.meaning.specs.Schemes.{narrow_does}
use Rattle.meaning.specs.ByCases.{after_cases}
use Rattle.meaning.proofs.PickLaws.{pick_has}
use Rattle.meaning.proofs.KeptEnds.{OnPlaces, OutcomeHas, EndSo, StepSo, meet_so, walk_so, end_of_so, table_does_so, cases_does_so}
use Rattle.steps.specs.Held.{table_in, plan_in, request_in}
use Rattle.steps.specs.Steps.{does_in, step_in, judged_in, walk_held}
use Rattle.meaning.specs.declared.Form.TheVariants.{Flags}

module _ (Miss : ℕ → State → Type 0) (Stop : ℕ → ℕ → Concerned State → Type 0) (P : State → Type 0) (Place : ℕ → Type 0) where
  -- The step that refuses with 37 and no state what is too wide, and does else what the table's does.
  pub narrow_does_so : ((s : State) → P s → (p : ℕ) → Place p → Stop Limits.not_executable p (in_state s)) → ((p : ℕ) → Place p → Stop Limits.sensing_too_wide p no_state)
      → (t : Table) (a : ℕ) (s : State) → P s → OutcomeHas P (outcome t a s) → StepSo Miss Stop P Place (narrow_does t a s)
  unfolding narrow_does
  narrow_does_so stuck wide t a s has leads = pick_has (StepSo Miss Stop P Place) _ _ _ (λ _. wide) (λ _. table_does_so Miss Stop P Place stuck t a s has leads)

  -- What is so of each end.
  pub record HoldsSo : Type 0 where
    pub misses : (s : State) → P s → (p : ℕ) → Miss p s
    pub stuck : (s : State) → P s → (p : ℕ) → Place p → Stop Limits.not_executable p (in_state s)
    pub wide : (p : ℕ) → Place p → Stop Limits.sensing_too_wide p no_state
    pub many : (p : ℕ) → Place p → Stop Limits.too_many_cases p no_state
    pub breaks : (s : State) → P s → (p : ℕ) → Stop Limits.guard_broken p (in_state s)

  module _ (so : HoldsSo) where
    pub held_so : (s t : List ℕ)
        → ((a : ℕ) (u : State) → P u → OutcomeHas P (outcome_to (table_in Flags s) a u (state_after (table_in Flags s) a u)))
        → ((a : ℕ) (u : State) → P u → OutcomeHas P (outcome_to (table_in Flags s) a u (after_cases (table_in Flags s) a u)))
        → OnPlaces Place (plan_in Flags s t) → P (first_state format (table_in Flags s)) → EndSo Miss Stop (walk_held Flags s t).end
    unfolding walk_held step_in does_in judged_in outcome
    held_so s t known by_cases on first =
        let step = step_in Flags s t in
        let does : (a : ℕ) (u : State) → P u → StepSo Miss Stop P Place (step.does a u) =
        λ a u has. pick_has (StepSo Miss Stop P Place) _ _ _ (λ _. table_does_so Miss Stop P Place so.stuck (table_in Flags s) a u has (known a u has))
        (λ _. pick_has (StepSo Miss Stop P Place) _ _ _ (λ _. narrow_does_so so.stuck so.wide (table_in Flags s) a u has (known a u has))
        (λ _. cases_does_so Miss Stop P Place so.stuck so.many (table_in Flags s) a u has (by_cases a u has))) in
        let broken : (u : State) → P u → (p : ℕ) → step.lacks u ≡ at p → Stop Limits.guard_broken p (in_state u) = λ u has p _. so.breaks u has p in
        meet_so Miss Stop P Place step does so.stuck broken (walk step (plan_in Flags s t) (judged_in Flags s t))
        (walk_so Miss Stop P Place step does so.stuck broken (plan_in Flags s t) on (judged_in Flags s t) (λ u has. end_of_so Miss Stop (missed_in (request_in Flags s t) u) u (λ p _. so.misses u has p)))
        (first_state format (table_in Flags s)) first
