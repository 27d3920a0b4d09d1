-- The first difference of two strings of bytes: there is none exactly where they are the same, and else it is the one place at which they differ first. By their bytes,
-- one after another. Assumes nothing.
use Prim.Native.Nat.{ℕ, zero, suc, ◌+◌, ◌<◌}
use native.Mathlib.Omega.{arith}
use mathlib.Core.Path.{◌≡◌, refl, sym, ◌∙◌, ap, ap₂, subst}
use mathlib.Core.List.{List, [], ◌∷◌, ◌++◌}
use mathlib.Core.Logic.{◌⊎◌, inl, inr, ⊎_elim, ◌↔◌}
use lib.ListN.{length, get_or, take}
use lib.Seq.{get_or-take}
use lib.Dec.{eqb}
use borrow.Author.Tests.{eqb-true, eqb-false, eq-eqb}
use Rattle.meaning.specs.Tests.{pick}
use Rattle.meaning.specs.Refusals.{Found, nowhere, at}
use Rattle.meaning.specs.Indexes.{difference_from, first_difference, Differs}
use Rattle.meaning.proofs.TestLaws.{by-test, pick_true, pick_false}
use Rattle.meaning.proofs.RefusalLaws.{at_same, at≢nowhere}

-- Bytes that both begin with are passed.
pub difference_past : (p : ℕ) (before xs ys : List ℕ) → difference_from p (before ++ xs) (before ++ ys) ≡ difference_from (p + length before) xs ys
unfolding difference_from
difference_past p [] xs ys = ap (λ (q : ℕ). difference_from q xs ys) {x = p} {y = p + 0} (omega arith)
difference_past p (b ∷ before) xs ys =
    let on : p + 1 + length before ≡ p + suc (length before) = omega arith in
    pick_true _ _ _ (eq-eqb b b refl) ∙ difference_past (p + 1) before xs ys ∙ ap (λ (q : ℕ). difference_from q xs ys) on

-- Where one is shorter than so many bytes, no byte of the other behind these is asked.
pub difference_cut : (n p : ℕ) (xs ys : List ℕ) → length xs < n → difference_from p xs (take n ys) ≡ difference_from p xs ys
unfolding difference_from
difference_cut zero p xs ys less = absurd (omega (arith, less))
difference_cut (suc n) p [] [] less = refl
difference_cut (suc n) p [] (y ∷ ys) less = refl
difference_cut (suc n) p (x ∷ xs) [] less = refl
difference_cut (suc n) p (x ∷ xs) (y ∷ ys) less = ap (λ (f : Found). pick (eqb x y) (λ _. f) (λ _. at p)) (difference_cut n (p + 1) xs ys (omega (arith, less)))

-- One byte further on.
further : (x y : ℕ) (xs ys : List ℕ) (p : ℕ) → x ≡ y → Differs xs ys p → Differs (x ∷ xs) (y ∷ ys) (suc p)
further x y xs ys p same d =
    let one = d.in_one in
    let other = d.in_other in
    record {
      in_one = omega (arith, one);
      in_other = omega (arith, other);
      before = ap₂ {C = List ℕ} (λ z zs. z ∷ zs) same d.before;
      there =
          ⊎_elim
          (λ w. let a = w.0 in let b = w.1 in inl (omega (arith, a), omega (arith, b), w.2))
          (⊎_elim
          (λ w. let a = w.0 in let b = w.1 in inr (inl (omega (arith, a), omega (arith, b))))
          (λ w. let a = w.0 in let b = w.1 in inr (inr (omega (arith, a), omega (arith, b)))))
          d.there;
    }

-- Either they are the same, or there is a place at which they differ first; and the definition tells which.
abbrev Decided : ℕ → List ℕ → List ℕ → Type 0
Decided k xs ys = ((xs ≡ ys) × (difference_from k xs ys ≡ nowhere)) ⊎ ((p : ℕ) × Differs xs ys p × (difference_from k xs ys ≡ at (k + p)))

decided : (k : ℕ) (xs ys : List ℕ) → Decided k xs ys
unfolding difference_from
decided k [] [] = inl (refl, refl)
decided k [] (y ∷ ys) =
    inr (0, record { in_one = omega arith; in_other = omega arith; before = refl; there = inr (inl (refl, omega arith)) }, ap at {x = k} {y = k + 0} (omega arith))
decided k (x ∷ xs) [] =
    inr (0, record { in_one = omega arith; in_other = omega arith; before = refl; there = inr (inr (refl, omega arith)) }, ap at {x = k} {y = k + 0} (omega arith))
decided k (x ∷ xs) (y ∷ ys) =
    by-test (eqb x y)
    (λ t.
    let same = eqb-true x y t in
    ⊎_elim
    (λ w. inl (ap₂ {C = List ℕ} (λ z zs. z ∷ zs) same w.0, pick_true _ _ _ t ∙ w.1))
    (λ w. let on : k + 1 + w.0 ≡ k + suc w.0 = omega arith in inr (suc w.0, further x y xs ys w.0 same w.1, pick_true _ _ _ t ∙ w.2 ∙ ap at on))
    (decided (k + 1) xs ys))
    (λ f.
    inr (
      0,
      record { in_one = omega arith; in_other = omega arith; before = refl; there = inl (omega arith, omega arith, eqb-false x y f) },
      pick_false _ _ _ f ∙ ap at {x = k} {y = k + 0} (omega arith),
    ))

module _ (xs ys : List ℕ) where
  -- They differ first at one place, and at none where they are the same.
  differs_once : (p q : ℕ) → Differs xs ys p → Differs xs ys q → p < q → ⊥
  differs_once p q d e less =
      let one = e.in_one in
      let other = e.in_other in
      ⊎_elim
      (λ w. w.2 (sym (get_or-take q xs p 0 less) ∙ ap (λ (zs : List ℕ). get_or zs p 0) e.before ∙ get_or-take q ys p 0 less))
      (⊎_elim (λ w. let a = w.0 in omega (arith, one, less, a)) (λ w. let a = w.0 in omega (arith, other, less, a)))
      d.there

  pub differs_apart : (p : ℕ) → Differs xs ys p → xs ≡ ys → ⊥
  differs_apart p d same =
      let long = ap length same in
      ⊎_elim (λ w. w.2 (ap (λ (zs : List ℕ). get_or zs p 0) same))
      (⊎_elim (λ w. let a = w.0 in let b = w.1 in omega (arith, long, a, b)) (λ w. let a = w.0 in let b = w.1 in omega (arith, long, a, b)))
      d.there

  pub same_difference : (first_difference xs ys ≡ nowhere) ↔ (xs ≡ ys)
  unfolding first_difference
  same_difference = (
    λ none. ⊎_elim (λ w. w.0) (λ w. absurd (at≢nowhere (sym w.2 ∙ none))) (decided 0 xs ys),
    λ same. ⊎_elim (λ w. w.1) (λ w. absurd (differs_apart w.0 w.1 same)) (decided 0 xs ys),
  )

  pub differs_there : (p : ℕ) → (first_difference xs ys ≡ at p) ↔ Differs xs ys p
  unfolding first_difference
  differs_there p = (
    λ found.
        ⊎_elim (λ w. absurd (at≢nowhere (sym found ∙ w.1))) (λ w. let same : 0 + w.0 ≡ p = at_same (sym w.2 ∙ found) in subst (Differs xs ys) (omega (arith, same)) w.1) (decided 0 xs ys),
    λ d.
        ⊎_elim (λ w. absurd (differs_apart p d w.0))
        (λ w. w.2 ∙ ap at (one_place w.0 (differs_once p w.0 d w.1) (differs_once w.0 p w.1 d)))
        (decided 0 xs ys),
  )
    where
      one_place : (q : ℕ) → (p < q → ⊥) → (q < p → ⊥) → 0 + q ≡ p
      one_place q not-less not_more = omega (arith, not-less, not_more)
