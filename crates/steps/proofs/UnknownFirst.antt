-- Fluents from one up that pass a test, where each adds itself to those above it or does not: the first of them, and what comes behind it. Assumes nothing.
use Prim.Native.Nat.{ℕ, zero, suc, ◌+◌, ◌≤◌, ◌<◌}
use native.Mathlib.Omega.{arith}
use native.Mathlib.Decide.{dec_lt}
use mathlib.Core.Path.{◌≡◌, refl, sym, ◌∙◌, ap, subst}
use mathlib.Core.Bool.{Bool, true, false}
use mathlib.Core.List.{List, [], ◌∷◌}
use mathlib.Core.Logic.{◌⊎◌, inl, inr, ⊎_elim}
use Rattle.meaning.specs.Tests.{pick}
use Rattle.meaning.specs.Limits.{format}
use Rattle.meaning.proofs.TestLaws.{by-test, pick_true, pick_false}
use Rattle.steps.specs.Steps.{first_of}

module _ (unknown : ℕ → List ℕ) (reads : ℕ → Bool) (step : (f : ℕ) → f < format.fluents → unknown f ≡ pick (reads f) (λ _. f ∷ unknown (f + 1)) (λ _. unknown (f + 1))) (far : (f : ℕ) → format.fluents ≤ f → unknown f ≡ []) where
  -- Where none below a fluent passes, those from there up are all.
  pub skipped : (n : ℕ) → n ≤ format.fluents → ((g : ℕ) → g < n → reads g ≡ false) → unknown 0 ≡ unknown n
  skipped zero most none = refl
  skipped (suc n) most none =
      let up : n + 1 ≡ suc n = omega arith in
      skipped n (omega arith) (λ g h. none g (omega arith)) ∙ step n (omega arith) ∙ pick_false _ _ _ (none n (omega arith)) ∙ ap unknown up

  -- Where none from a fluent up passes, there are none.
  none_up : (n f : ℕ) → format.fluents ≤ f + n → ((g : ℕ) → f ≤ g → reads g ≡ false) → unknown f ≡ []
  none_up zero f past none = far f (omega arith)
  none_up (suc n) f past none =
      elim (dec_lt f format.fluents) [
        | yes near ↦ step f near ∙ pick_false _ _ _ (none f (omega arith)) ∙ none_up n (f + 1) (omega arith) (λ g h. none g (omega arith))
        | no h ↦ far f (omega arith)
      ]

  pub none_from : (f : ℕ) → ((g : ℕ) → f ≤ g → reads g ≡ false) → unknown f ≡ []
  none_from f none = none_up format.fluents f (omega arith) none

  -- The first of them from f up, where there is one.
  record ReadFirst (f : ℕ) : Type 0 where
    fluent : ℕ
    is : unknown f ≡ fluent ∷ unknown (fluent + 1)
    above : f ≤ fluent
    below : fluent < format.fluents
    passes : reads fluent ≡ true

  unknown_cases : (n f : ℕ) → format.fluents ≤ f + n → (unknown f ≡ []) ⊎ ReadFirst f
  unknown_cases zero f past = inl (far f (omega arith))
  unknown_cases (suc n) f past =
      elim (dec_lt f format.fluents) [
        | yes near ↦ by-test (reads f)
            (λ e. inr (record { fluent = f; is = step f near ∙ pick_true _ _ _ e; above = omega arith; below = near; passes = e }))
            (λ e.
            let same = step f near ∙ pick_false _ _ _ e in
            ⊎_elim (λ none. inl (same ∙ none))
            (λ (r : ReadFirst (f + 1)). inr (record { fluent = r.fluent; is = same ∙ r.is; above = let above = r.above in omega arith; below = r.below; passes = r.passes }))
            (unknown_cases n (f + 1) (omega arith)))
        | no h ↦ inl (far f (omega arith))
      ]

  module _ (f g : ℕ) (first : g ≡ first_of (unknown f)) where
    read_first : g < format.fluents → ReadFirst f
    unfolding first_of
    read_first near = ⊎_elim (λ none. let at : g ≡ format.fluents = first ∙ ap first_of none in absurd (omega arith)) (λ r. r) (unknown_cases format.fluents f (omega arith))

    first_is : (near : g < format.fluents) → (read_first near).fluent ≡ g
    unfolding first_of
    first_is near = sym (first ∙ ap first_of (read_first near).is)

    pub unknown_first : g < format.fluents → unknown f ≡ g ∷ unknown (g + 1)
    unknown_first near = (read_first near).is ∙ ap (λ (h : ℕ). h ∷ unknown (h + 1)) (first_is near)

    pub unknown_first_above : g < format.fluents → f ≤ g
    unknown_first_above near = let above = (read_first near).above in let e = first_is near in omega arith

    pub unknown_first_passes : g < format.fluents → reads g ≡ true
    unknown_first_passes near = subst (λ (h : ℕ). reads h ≡ true) (first_is near) (read_first near).passes

    pub unknown_no_first : format.fluents ≤ g → unknown f ≡ []
    unfolding first_of
    unknown_no_first past =
        ⊎_elim (λ none. none) (λ (r : ReadFirst f). let below = r.below in let e = first ∙ ap first_of r.is in absurd (omega arith)) (unknown_cases format.fluents f (omega arith))
