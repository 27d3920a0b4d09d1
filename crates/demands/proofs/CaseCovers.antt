-- The step by cases without its limit goes together with the 1-transition function: what can be run in every complete filling of a state can be run in every
-- completion of whatever extends it, and what all results share there is among what all share above. Assumes nothing.
use Prim.Native.Nat.{ℕ, ◌*◌, ◌≤◌, ◌<◌}
use native.Mathlib.Omega.{arith}
use native.Mathlib.Decide.{dec_lt}
use mathlib.Core.Path.{◌≡◌, refl, sym, ◌∙◌, ap}
use mathlib.Core.Bool.{true, false}
use mathlib.Core.List.{[], ◌∷◌}
use mathlib.Core.Logic.{inl, inr, ⊎_elim, ◌↔◌}
use lib.ListN.{length}
use Rattle.meaning.specs.Tests.{either, Has}
use Rattle.meaning.specs.Limits
use Rattle.meaning.specs.Literals.{says_true, says_false, fluent_of}
use Rattle.meaning.specs.Requests.{Effect, Knowledge, Table, act}
use Rattle.meaning.specs.Refusals.{nowhere}
use Rattle.meaning.specs.States.{State, known, can_be_run, state_after, outcome_to}
use Rattle.meaning.specs.Walk.{in_state, Step, refuses}
use Rattle.meaning.specs.ByCases.{upward, complete, runs_by_cases, after_cases}
use Rattle.meaning.specs.Paths.{Ending, first_ran, arrivals, paths_step, paths, paths_item}
use Rattle.meaning.specs.Approximation.{Pair, Disjoint, true_in, ◌≼◌, executable, Res, Result, failed, state}
use Rattle.meaning.specs.CaseApproximation.{Completes, Shared, Φ₁}
use Rattle.meaning.specs.Reported.{pair_of}
use Rattle.meaning.proofs.TestLaws.{by-test, clash, both_left, both_right, both_true, not_each, each_has, has_each, has_map, map_has}
use Rattle.meaning.proofs.PickLaws.{pick_has, has-picked}
use Rattle.meaning.proofs.LiteralLaws.{fluent_true, fluent_false, by_literal}
use Rattle.meaning.proofs.StateLaws.{unknown_far, after_length}
use Rattle.meaning.proofs.PairLaws.{≼_trans, true_in_true, true_in_false, true_in_pair, true_grows, executable_grows, ResGrows, ResDisjoint, runs_pair, pair_after}
use Rattle.meaning.proofs.FillingLaws.{filling_length, some_filling, cases_length, cases_known}
use Rattle.demands.proofs.CompleteLaws.{filling_completes, filling_below, completed, some_completion}
use Rattle.meaning.proofs.EndLaws.{Ends, ends_one}
use Rattle.meaning.proofs.CoverLaws.{result_of, step_by, Sized, Below, Covered, stops_cover, Together, outcome_reaches, outcome_covers}
use Rattle.meaning.proofs.CaseSteps.{unlimited_does}

-- Nothing is known of a literal past the state's end.
far_unknown : (s : State) (l : ℕ) → length s ≤ fluent_of l → known s l ≡ false
far_unknown s =
    by_literal (λ l. length s ≤ fluent_of l → known s l ≡ false)
    (λ f. rw (fluent_true f) (λ far. (unknown_far s f far).0))
    (λ f. rw (fluent_false f) (λ far. (unknown_far s f far).1))

-- ONE ACTION in a state that has all fluents of the table.
module _ (t : Table) (a : ℕ) (s : State) (wide : t.fluents ≤ length s) where
  -- Whatever extends the state and has each fluent of the table true or false.
  abbrev Above : Pair → Type 0
  Above δ = (pair_of s ≼ δ) × ((f : ℕ) → f < t.fluents → either (δ.T f) (δ.F f) ≡ true)

  completion_above : (σ δ : Pair) → pair_of s ≼ σ → Completes t σ δ → Above δ
  completion_above σ δ more c = (≼_trans more c.extends, completed t σ δ c)

  -- What can be run by cases can be run there.
  runs_above : runs_by_cases t a s ≡ true → (δ : Pair) → Above δ → executable t a δ ≡ true
  unfolding runs_by_cases
  runs_above runs δ above =
      let w = filling_below t s wide δ above.0 above.1 in
      executable_grows t a w.2 (runs_pair t a w.0 ∙ each_has (can_be_run t a) (complete t s) w.0 runs w.1)

  -- What can't, can't be run in some completion.
  not_runs : runs_by_cases t a s ≡ false → (δ : Pair) × Completes t (pair_of s) δ × (executable t a δ ≡ false)
  unfolding runs_by_cases
  not_runs stuck =
      let w = not_each (can_be_run t a) (complete t s) stuck in
      (pair_of w.0, filling_completes t s wide w.0 w.1, runs_pair t a w.0 ∙ w.2)

  -- THE STATE AFTER knows what is known after the action in each complete filling.
  after_known : (l : ℕ) → (known (after_cases t a s) l ≡ true) ↔ ((u : State) → Has (complete t s) u → known (state_after t a u) l ≡ true)
  unfolding complete
  after_known l = elim (dec_lt (fluent_of l) (length s)) [ yes near ↦ by_near near | no far ↦ by_far (omega arith) ]
    where
      by_near : fluent_of l < length s → (known (after_cases t a s) l ≡ true) ↔ ((u : State) → Has (complete t s) u → known (state_after t a u) l ≡ true)
      by_near near = (
        λ e u h. each_has (λ (v : State). known v l) _ (state_after t a u) (sym (cases_known t a s l near) ∙ e) (has_map (state_after t a) (complete t s) u h),
        λ all. cases_known t a s l near ∙ has_each _ _ (λ v h. let w = map_has (state_after t a) (complete t s) v h in ap (λ (x : State). known x l) w.2 ∙ all w.0 w.1),
      )

      by_far : length s ≤ fluent_of l → (known (after_cases t a s) l ≡ true) ↔ ((u : State) → Has (complete t s) u → known (state_after t a u) l ≡ true)
      by_far far =
          let u = some_filling (upward 0 t.fluents) s in (
            λ e. clash e (far_unknown (after_cases t a s) l (rw (cases_length t a s) far)),
            λ all. clash (all u.0 u.1) (far_unknown (state_after t a u.0) l (rw (after_length t a u.0, filling_length (upward 0 t.fluents) s u.0 u.1) far)),
          )

  module _ (effects_within : (e : Effect) → Has t.effects e → e.literal < 2 * length s) where
    -- After the action in a complete filling the state is the action's result.
    filling_after : (u : State) → Has (complete t s) u → (l : ℕ) → known (state_after t a u) l ≡ true_in (Res t a (pair_of u)) l
    unfolding complete
    filling_after u h l =
        sym (true_in_pair (state_after t a u) l)
        ∙ ap (λ (σ : Pair). true_in σ l) (pair_after t a u (λ e m. rw (filling_length (upward 0 t.fluents) s u h) (effects_within e m)))

    -- What is known after it by cases is true in the result of whatever is above.
    after_above : (δ : Pair) → Above δ → (l : ℕ) → known (after_cases t a s) l ≡ true → true_in (Res t a δ) l ≡ true
    after_above δ above l e =
        let w = filling_below t s wide δ above.0 above.1 in
        true_grows (ResGrows t a w.2) l (sym (filling_after w.0 w.1 l) ∙ (after_known l).0 e w.0 w.1)

    -- It is what the results share.
    after_shared : Shared t a (pair_of s) (pair_of (after_cases t a s))
    unfolding pair_of
    after_shared = record {
      T = λ f. (
        λ e δ c. sym (true_in_true (Res t a δ) f) ∙ shown (says_true f) e δ c,
        λ all. known_so (says_true f) (λ u c. true_in_true (Res t a (pair_of u)) f ∙ all (pair_of u) c),
      );
      F = λ f. (
        λ e δ c. sym (true_in_false (Res t a δ) f) ∙ shown (says_false f) e δ c,
        λ all. known_so (says_false f) (λ u c. true_in_false (Res t a (pair_of u)) f ∙ all (pair_of u) c),
      );
    }
      where
        shown : (l : ℕ) → known (after_cases t a s) l ≡ true → (δ : Pair) → Completes t (pair_of s) δ → true_in (Res t a δ) l ≡ true
        shown l e δ c = after_above δ (c.extends, completed t (pair_of s) δ c) l e

        known_so : (l : ℕ) → ((u : State) → Completes t (pair_of s) (pair_of u) → true_in (Res t a (pair_of u)) l ≡ true) → known (after_cases t a s) l ≡ true
        known_so l all = (after_known l).1 (λ u h. filling_after u h l ∙ all u (filling_completes t s wide u h))

    -- Below what is shared above.
    shared_below : (δ ρ : Pair) → pair_of s ≼ δ → Shared t a δ ρ → pair_of (after_cases t a s) ≼ ρ
    unfolding pair_of
    shared_below δ ρ more shared = record {
      T = λ f e. (shared.T f).1 (λ ε c. sym (true_in_true (Res t a ε) f) ∙ after_above ε (completion_above δ ε more c) (says_true f) e);
      F = λ f e. (shared.F f).1 (λ ε c. sym (true_in_false (Res t a ε) f) ∙ after_above ε (completion_above δ ε more c) (says_false f) e);
    }

-- What the results share is disjoint, as each of them is, and there is one.
shared_disjoint : (t : Table) (a : ℕ) (δ ρ : Pair) → Disjoint δ → Shared t a δ ρ → Disjoint ρ
shared_disjoint t a δ ρ apart shared f =
    let c = some_completion t δ apart in
    by-test _
    (λ e. clash (both_true _ _ ((shared.T f).0 (both_left _ _ e) c.0 c.1) ((shared.F f).0 (both_right _ _ e) c.0 c.1)) (ResDisjoint t a c.0 c.1.disjoint f))
    (λ e. e)

-- THE STEP and the 1-transition function.
module _ (t : Table) (size : ℕ) (wide : t.fluents ≤ size) (effects_within : (e : Effect) → Has t.effects e → e.literal < 2 * size) (knowledge_within : (k : Knowledge) → Has t.knowledge k → k.fluent < size) where
  cases_reach : (p a : ℕ) (s : State) → length s ≡ size → (e : Ending State) → Ends (paths_item (step_by (unlimited_does t)) (act p a) s) e → Φ₁ t a (pair_of s) (result_of e) × Sized size e
  unfolding paths paths_step unlimited_does
  cases_reach p a s sized e h =
      has-picked (λ (x : Step State). Ends (paths_step (λ _. nowhere) p a x) e) (runs_by_cases t a s) _ _ h ran (λ stuck k. rw (ends_one k) (not_runs t a s wide_here stuck, tt))
    where
      wide_here : t.fluents ≤ length s
      wide_here = rw sized wide

      ran : runs_by_cases t a s ≡ true → Ends (first_ran (a ∷ []) (arrivals (outcome_to t a s (after_cases t a s)))) e → Φ₁ t a (pair_of s) (result_of e) × Sized size e
      ran runs k =
          let w = outcome_reaches t size knowledge_within a s (after_cases t a s) (cases_length t a s ∙ sized) sized e k in
          rw w.1 (
            (
              λ δ c. runs_above t a s wide_here runs δ (c.extends, completed t (pair_of s) δ c),
              ⊎_elim (λ m. inl (m.0, rw m.1 (after_shared t a s wide_here (λ n i. rw sized (effects_within n i))))) inr w.3,
            ),
            w.2,
          )

  cases_cover : (p a : ℕ) (s : State) (δ : Pair) → Below size s δ → (x : Result) → Φ₁ t a δ x → Covered size (paths_item (step_by (unlimited_does t)) (act p a) s) x
  unfolding paths paths_step unlimited_does
  cases_cover p a s δ below x h =
      pick_has (λ (y : Step State). Covered size (paths_step (λ _. nowhere) p a y) x) (runs_by_cases t a s) _ _
      (λ runs. ran runs x h)
      (λ stuck. stops_cover size (paths_step (λ _. nowhere) p a (refuses Limits.not_executable (in_state s))) (Limits.not_executable, p, in_state s, inl refl) x)
    where
      wide_here : t.fluents ≤ length s
      wide_here = rw below.sized wide

      moved : (ε : Pair) → Shared t a δ ε → (pair_of (after_cases t a s) ≼ ε) × Disjoint ε
      moved ε shared = (shared_below t a s wide_here (λ n m. rw below.sized (effects_within n m)) δ ε below.extends shared, shared_disjoint t a δ ε below.disjoint shared)

      ran : runs_by_cases t a s ≡ true → (x : Result) → Φ₁ t a δ x → Covered size (first_ran (a ∷ []) (arrivals (outcome_to t a s (after_cases t a s)))) x
      ran runs failed h = clash (runs_above t a s wide_here runs h.0 (completion_above t a s wide_here δ h.0 below.extends h.1)) h.2
      ran runs (state ε) h =
          inr (outcome_covers t size knowledge_within a s (after_cases t a s) (cases_length t a s ∙ below.sized) δ below ε (⊎_elim (λ w. let m = moved ε w.1 in inl (w.0, m.0, m.1)) inr h.1))

  pub cases_together : Together size (unlimited_does t) (Φ₁ t)
  cases_together = record { reach = cases_reach; cover = cases_cover }
