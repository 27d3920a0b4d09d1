-- What a state knows as a list, fluent by fluent: nothing beyond the last fluent, and before that the literal that the mark says, if any. Assumes nothing.
use Prim.Native.Nat.{ℕ, suc, ◌+◌, ◌-◌, ◌*◌, ◌≤◌, ◌<◌}
use native.Mathlib.Omega.{arith}
use mathlib.Core.Path.{◌≡◌, ◌∙◌, ap}
use mathlib.Core.List.{List, [], ◌∷◌}
use lib.ListN.{length, get_or, drop, drop_of_length-le}
use lib.Seq.{drop-cons}
use lib.Dec.{eqb}
use borrow.Author.Tests.{eqb-true, eqb-false, eq-eqb}
use Rattle.meaning.specs.Tests.{pick}
use Rattle.meaning.specs.Limits.{format}
use Rattle.meaning.specs.Literals.{says_true, says_false}
use Rattle.meaning.specs.States.{State, known}
use Rattle.meaning.specs.Derivations.{known_from}
use Rattle.meaning.proofs.TestLaws.{by-test, pick_true, pick_false}
use Rattle.meaning.proofs.StateLaws.{known_true, known_false}
use Rattle.steps.specs.AtHand.{Marked}

-- From fluent f up.
abbrev pub known_above : State → ℕ → List ℕ
known_above marks f = known_from marks f (drop f marks)

module _ (marks : State) (marked : Marked marks) (f : ℕ) where
  pub known_far : format.fluents ≤ f → known_above marks f ≡ []
  unfolding known_from
  known_far far = ap (known_from marks f) (drop_of_length-le marks {i = f} (rw marked.sized far))

  module _ (near : f < format.fluents) where
    known_step : known_above marks f
        ≡ pick (known marks (says_true f)) (λ _. says_true f ∷ known_above marks (f + 1)) (λ _. pick (known marks (says_false f)) (λ _. says_false f ∷ known_above marks (f + 1)) (λ _. known_above marks (f + 1)))
    unfolding known_from
    known_step =
        let on : f + 1 ≡ suc f = omega arith in
        let there : f < length marks = rw marked.sized near in
        rw (drop-cons marks f 0 there, on)

    pub unmarked_step : get_or marks f 0 ≡ 0 → known_above marks f ≡ known_above marks (f + 1)
    unmarked_step none = known_step ∙ pick_false _ _ _ (known_true marks f ∙ rw none) ∙ pick_false _ _ _ (known_false marks f ∙ rw none)

    pub marked_step : (get_or marks f 0 ≡ 0 → ⊥) → known_above marks f ≡ (2 * f + get_or marks f 0 - 1) ∷ known_above marks (f + 1)
    unfolding says_true says_false
    marked_step some =
        by-test (eqb (get_or marks f 0) 1)
        (λ t.
        let one = eqb-true (get_or marks f 0) 1 t in
        let is : 2 * f ≡ 2 * f + get_or marks f 0 - 1 = omega (arith, one) in
        known_step ∙ pick_true _ _ _ (known_true marks f ∙ t) ∙ ap (λ (l : ℕ). l ∷ known_above marks (f + 1)) is)
        (λ u.
        let other = eqb-false (get_or marks f 0) 1 u in
        let most = marked.small f in
        let two : get_or marks f 0 ≡ 2 = omega (arith, some, other, most) in
        let is : 2 * f + 1 ≡ 2 * f + get_or marks f 0 - 1 = omega (arith, two) in
        known_step ∙ pick_false _ _ _ (known_true marks f ∙ u) ∙ pick_true _ _ _ (known_false marks f ∙ eq-eqb _ _ two) ∙ ap (λ (l : ℕ). l ∷ known_above marks (f + 1)) is)
