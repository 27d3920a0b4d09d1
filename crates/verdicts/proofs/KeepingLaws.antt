-- What every step of a walk keeps, the walk keeps: whatever is so of the state it starts from, and stays so of each reading and of each state
-- after an action, is so of the state where it misses or stops. The walk goes by what its steps lead to (`KeptEnds`). Assumes nothing.
use Prim.Native.Nat.{ℕ}
use mathlib.Core.Path.{◌≡◌, refl}
use mathlib.Core.List.{List, [], ◌∷◌}
use mathlib.Core.Logic.{inl, inr}
use Rattle.meaning.specs.Tests.{Has}
use Rattle.meaning.specs.Literals.{says_true, says_false}
use Rattle.meaning.specs.Requests.{Table, Request}
use Rattle.meaning.specs.Refusals.{at}
use Rattle.meaning.specs.States.{State, told, state_after, unknown_sensed, readings, outcome_to, outcome}
use Rattle.meaning.specs.Walk.{Concerned, no_state, in_state, End, fine, missed, stopped, Walked, Step, Steps, meet, walk, table_does, missed_in, judged}
use Rattle.meaning.specs.ByCases.{after_cases, cases_does}
use Rattle.meaning.specs.Schemes.{narrow_does}
use Rattle.meaning.proofs.PickLaws.{pick_has}
use Rattle.meaning.proofs.KeptEnds.{on_places, OutcomeHas, EndSo, StepSo, meet_so, walk_so, end_of_so, table_does_so, cases_does_so}
use Rattle.meaning.specs.declared.Form.{Form}
use Rattle.steps.specs.Held.{plan_in}
use Rattle.steps.specs.Steps.{step_in, judged_in, missed_as, first_in, walk_held}
use Rattle.steps.proofs.HeldEnds.{narrow_does_so}

module _ (P : State → Type 0) where
  -- ENDS: each state in them.
  abbrev pub ConcernedHas : Concerned State → Type 0
  ConcernedHas no_state = Unit {0}
  ConcernedHas (in_state s) = P s

  abbrev pub EndHas : End State → Type 0
  EndHas = EndSo (λ _ s. P s) (λ _ _ u. ConcernedHas u)

  -- What a table's actions lead to keeps it: its readings, and the state after one that does not sense.
  pub record KeptBy (t : Table) (after : ℕ → State → State) : Type 0 where
    pub reads : (a : ℕ) (s : State) (f : ℕ) → Has (unknown_sensed t a s) f → (u : State) → P u → P (told (says_true f) u) × P (told (says_false f) u)
    pub acts : (a : ℕ) (s : State) → P s → P (after a s)

  readings_kept : (fs : List ℕ) → ((f : ℕ) → Has fs f → (u : State) → P u → P (told (says_true f) u) × P (told (says_false f) u))
      → (s : State) → P s → OutcomeHas P (readings fs s)
  unfolding readings
  readings_kept [] reads s has = has
  readings_kept (f ∷ fs) reads s has = (
    readings_kept fs (λ g h. reads g (inr h)) (told (says_true f) s) (reads f (inl refl) s has).0,
    readings_kept fs (λ g h. reads g (inr h)) (told (says_false f) s) (reads f (inl refl) s has).1,
  )

  outcome_kept : (t : Table) (after : ℕ → State → State) → KeptBy t after → (a : ℕ) (s : State) → P s → OutcomeHas P (outcome_to t a s (after a s))
  outcome_kept t after kept a s has = pick_has (OutcomeHas P) _ _ _ (λ _. readings_kept (unknown_sensed t a s) (kept.reads a s) s has) (λ _. kept.acts a s has)

  -- THE WALK by a step that keeps it.
  abbrev pub Keeps : (State → Walked State) → Type 0
  Keeps k = (s : State) → P s → EndHas (k s).end

  abbrev pub DoesKeep : Step State → Type 0
  DoesKeep = StepSo (λ _ s. P s) (λ _ _ u. ConcernedHas u) P (λ _. Unit {0})

  pub table_keeps : (t : Table) → KeptBy t (state_after t) → (a : ℕ) (s : State) → P s → DoesKeep (table_does t a s)
  unfolding outcome
  table_keeps t kept a s has = table_does_so (λ _ u. P u) (λ _ _ u. ConcernedHas u) P (λ _. Unit {0}) (λ _ has p _. has) t a s has (outcome_kept t (state_after t) kept a s has)

  pub narrow_keeps : (t : Table) → KeptBy t (state_after t) → (a : ℕ) (s : State) → P s → DoesKeep (narrow_does t a s)
  unfolding outcome
  narrow_keeps t kept a s has = narrow_does_so (λ _ u. P u) (λ _ _ u. ConcernedHas u) P (λ _. Unit {0}) (λ _ has p _. has) (λ p _. tt) t a s has (outcome_kept t (state_after t) kept a s has)

  pub cases_keep : (t : Table) → KeptBy t (after_cases t) → (a : ℕ) (s : State) → P s → DoesKeep (cases_does t a s)
  cases_keep t kept a s has = cases_does_so (λ _ u. P u) (λ _ _ u. ConcernedHas u) P (λ _. Unit {0}) (λ _ has p _. has) (λ p _. tt) t a s has (outcome_kept t (after_cases t) kept a s has)

  pub walked_kept : (r : Request) (step : Steps State ℕ) → ((a : ℕ) (s : State) → P s → DoesKeep (step.does a s)) → Keeps (meet step (walk step r.plan (judged r)))
  unfolding judged
  walked_kept r step keeps =
      let stuck : (s : State) → P s → (p : ℕ) → Unit {0} → P s = λ s has _ _. has in
      let broken : (s : State) → P s → (p : ℕ) → step.lacks s ≡ at p → P s = λ s has _ _. has in
      meet_so _ _ P (λ _. Unit {0}) step keeps stuck broken (walk step r.plan (judged r))
      (walk_so _ _ P (λ _. Unit {0}) step keeps stuck broken r.plan (on_places (λ _. Unit {0}) (λ _. tt) r.plan) (judged r) (λ s has. end_of_so _ _ (missed_in r s) s (λ p _. has)))

  -- Of what is held, in either form.
  pub held_kept : (form : Form) (s t : List ℕ) → ((a : ℕ) (u : State) → P u → DoesKeep ((step_in form s t).does a u)) → P (first_in form s) → EndHas (walk_held form s t).end
  unfolding walk_held judged_in
  held_kept form s t keeps first =
      let step = step_in form s t in
      let stuck : (u : State) → P u → (p : ℕ) → Unit {0} → P u = λ u has _ _. has in
      let broken : (u : State) → P u → (p : ℕ) → step.lacks u ≡ at p → P u = λ u has _ _. has in
      meet_so _ _ P (λ _. Unit {0}) step keeps stuck broken (walk step (plan_in form s t) (judged_in form s t))
      (walk_so _ _ P (λ _. Unit {0}) step keeps stuck broken (plan_in form s t) (on_places (λ _. Unit {0}) (λ _. tt) (plan_in form s t)) (judged_in form s t)
      (λ u has. end_of_so _ _ (missed_as form s t u) u (λ p _. has))) (first_in form s) first

-- What has the one has the other too, where each state that has the one does.
pub end_weaker : (P Q : State → Type 0) → ((s : State) → P s → Q s) → (e : End State) → EndHas P e → EndHas Q e
end_weaker P Q also fine p = tt
end_weaker P Q also (missed i s) p = also s p
end_weaker P Q also (stopped n i no_state) p = tt
end_weaker P Q also (stopped n i (in_state s)) p = also s p

-- An end that has the one and the other has both.
pub end_both : (P Q : State → Type 0) (e : End State) → EndHas P e → EndHas Q e → EndHas (λ (s : State). P s × Q s) e
end_both P Q fine p q = tt
end_both P Q (missed i s) p q = (p, q)
end_both P Q (stopped n i no_state) p q = tt
end_both P Q (stopped n i (in_state s)) p q = (p, q)
