-- Lines put together action by action: those of an action among them are those that it had, and together they are as many. An action's lines come with the action
-- and with no other. Assumes nothing.
use Prim.Native.Nat.{ℕ, zero, suc, ◌+◌, ◌≤◌, ◌<◌}
use native.Mathlib.Omega.{arith}
use mathlib.Core.Path.{◌≡◌, refl, sym, ◌∙◌, ap, ap₂}
use mathlib.Core.Bool.{Bool, true, false}
use mathlib.Core.List.{List, [], ◌∷◌, ◌++◌, append-nil}
use mathlib.Core.Logic.{inl, inr}
use lib.ListN.{length, length-append}
use lib.Dec.{ltb, eqb}
use borrow.Author.Tests.{ltb-true, ltb-false, eqb-true, eqb-false, eq-eqb, ne_eqb}
use Rattle.meaning.specs.Tests.{those_of, Has}
use Rattle.meaning.specs.Indexes.{each_action}
use Rattle.meaning.proofs.TestLaws.{by-test, pick_true, pick_false, those_has}

-- THE ENTRIES THAT PASS a test: in two lists, where all pass, and where none does.
module _ {A : Type 0} (p : A → Bool) where
  pub those_append : (xs ys : List A) → those_of p (xs ++ ys) ≡ those_of p xs ++ those_of p ys
  unfolding those_of
  those_append [] ys = refl
  those_append (x ∷ xs) ys =
      by-test (p x)
      (λ t. pick_true (p x) _ _ t ∙ ap {B = List A} (λ zs. x ∷ zs) (those_append xs ys) ∙ ap (λ (zs : List A). zs ++ those_of p ys) (sym (pick_true (p x) _ _ t)))
      (λ f. pick_false (p x) _ _ f ∙ those_append xs ys ∙ ap (λ (zs : List A). zs ++ those_of p ys) (sym (pick_false (p x) _ _ f)))

  those_all : (xs : List A) → ((x : A) → Has xs x → p x ≡ true) → those_of p xs ≡ xs
  unfolding those_of
  those_all [] each = refl
  those_all (x ∷ xs) each = pick_true (p x) _ _ (each x (inl refl)) ∙ ap {B = List A} (λ zs. x ∷ zs) (those_all xs (λ y h. each y (inr h)))

  those_none : (xs : List A) → ((x : A) → Has xs x → p x ≡ false) → those_of p xs ≡ []
  unfolding those_of
  those_none [] each = refl
  those_none (x ∷ xs) each = pick_false (p x) _ _ (each x (inl refl)) ∙ those_none xs (λ y h. each y (inr h))

-- ACTION BY ACTION, from number b up.
module _ {A : Type 0} where
  pub each_same : (f g : ℕ → List A) (b left : ℕ) → ((c : ℕ) → b ≤ c → c < b + left → f c ≡ g c) → each_action f b left ≡ each_action g b left
  unfolding each_action
  each_same f g b zero same = refl
  each_same f g b (suc left) same =
      ap₂ (λ (xs ys : List A). xs ++ ys) (same b (omega arith) (omega arith))
      (each_same f g (b + 1) left (λ c least most. same c (omega (arith, least)) (omega (arith, most))))

module _ {A : Type 0} (action : A → ℕ) where
  -- The lines of action a.
  abbrev of_action : List A → ℕ → List A
  of_action xs a = those_of (λ (x : A). eqb (action x) a) xs

  of_same : (xs : List A) (a : ℕ) → of_action (of_action xs a) a ≡ of_action xs a
  of_same xs a = those_all _ (of_action xs a) (λ x h. (those_has _ xs x h).1)

  of_other : (xs : List A) (a b : ℕ) → (a ≡ b → ⊥) → of_action (of_action xs b) a ≡ []
  of_other xs a b apart = those_none _ (of_action xs b) (λ x h. ne_eqb (action x) a (λ e. apart (sym e ∙ eqb-true (action x) b (those_has _ xs x h).1)))

  module _ (xs : List A) (a : ℕ) where
    abbrev parted : (b left : ℕ) → List A
    parted = each_action (of_action xs)

    of_outside : (b left : ℕ) → (b ≤ a → a < b + left → ⊥) → of_action (parted b left) a ≡ []
    unfolding each_action those_of
    of_outside b zero out = refl
    of_outside b (suc left) out =
        those_append _ (of_action xs b) (parted (b + 1) left)
        ∙ ap₂ (λ (ys zs : List A). ys ++ zs) (of_other xs a b (λ e. out (omega (arith, e)) (omega (arith, e)))) (of_outside (b + 1) left (λ least most. out (omega (arith, least)) (omega (arith, most))))

    of_inside : (b left : ℕ) → b ≤ a → a < b + left → of_action (parted b left) a ≡ of_action xs a
    unfolding each_action
    of_inside b zero least most = absurd (omega (arith, least, most))
    of_inside b (suc left) least most =
        those_append _ (of_action xs b) (parted (b + 1) left)
        ∙ by-test (eqb a b)
        (λ t.
        let here = eqb-true a b t in
        ap₂ (λ (ys zs : List A). ys ++ zs) (ap (λ (c : ℕ). of_action (of_action xs c) a) (sym here) ∙ of_same xs a) (of_outside (b + 1) left (λ more _. omega (arith, here, more)))
        ∙ append-nil (of_action xs a))
        (λ f.
        let apart = eqb-false a b f in
        ap₂ (λ (ys zs : List A). ys ++ zs) (of_other xs a b apart) (of_inside (b + 1) left (omega (arith, apart, least)) (omega (arith, most))))

  -- Where each line's action is below m, no other action has a line, and those of an action among the lines of the first m actions are those of the list.
  module _ (m : ℕ) (xs : List A) (below : (x : A) → Has xs x → action x < m) (a : ℕ) where
    pub of_none : m ≤ a → of_action xs a ≡ []
    of_none more = those_none _ xs (λ x h. let less = below x h in ne_eqb (action x) a (λ e. omega (arith, more, less, e)))

    pub of_parted : of_action (each_action (of_action xs) 0 m) a ≡ of_action xs a
    of_parted =
        by-test (ltb a m)
        (λ t. let less = ltb-true a m t in of_inside xs a 0 m (omega arith) (omega (arith, less)))
        (λ f. let more = ltb-false a m f in of_outside xs a 0 m (λ _ less. omega (arith, more, less)) ∙ sym (of_none more))

  -- HOW MANY. A line is counted with its action and with no other.
  module _ (x : A) (xs : List A) where
    one_more : (a : ℕ) → action x ≡ a → length (of_action (x ∷ xs) a) ≡ 1 + length (of_action xs a)
    unfolding those_of
    one_more a is =
        let same : suc (length (of_action xs a)) ≡ 1 + length (of_action xs a) = omega arith in
        ap length (pick_true {A = List A} _ _ _ (eq-eqb (action x) a is)) ∙ same

    no_more : (a : ℕ) → (action x ≡ a → ⊥) → length (of_action (x ∷ xs) a) ≡ length (of_action xs a)
    unfolding those_of
    no_more a apart = ap length (pick_false {A = List A} _ _ _ (ne_eqb (action x) a apart))

    outside_more : (b left : ℕ) → (b ≤ action x → action x < b + left → ⊥) → length (each_action (of_action (x ∷ xs)) b left) ≡ length (each_action (of_action xs) b left)
    unfolding each_action
    outside_more b zero out = refl
    outside_more b (suc left) out =
        let first = no_more b (λ e. out (omega (arith, e)) (omega (arith, e))) in
        let rest = outside_more (b + 1) left (λ least most. out (omega (arith, least)) (omega (arith, most))) in
        let one = length-append (of_action (x ∷ xs) b) (each_action (of_action (x ∷ xs)) (b + 1) left) in
        let two = length-append (of_action xs b) (each_action (of_action xs) (b + 1) left) in
        omega (arith, first, rest, one, two)

    inside_more : (b left : ℕ) → b ≤ action x → action x < b + left → length (each_action (of_action (x ∷ xs)) b left) ≡ 1 + length (each_action (of_action xs) b left)
    unfolding each_action
    inside_more b zero least most = absurd (omega (arith, least, most))
    inside_more b (suc left) least most =
        let one = length-append (of_action (x ∷ xs) b) (each_action (of_action (x ∷ xs)) (b + 1) left) in
        let two = length-append (of_action xs b) (each_action (of_action xs) (b + 1) left) in
        by-test (eqb (action x) b)
        (λ t.
        let here = eqb-true (action x) b t in
        let first = one_more b here in
        let rest = outside_more (b + 1) left (λ more _. omega (arith, here, more)) in
        omega (arith, first, rest, one, two))
        (λ f.
        let apart = eqb-false (action x) b f in
        let first = no_more b apart in
        let rest = inside_more (b + 1) left (omega (arith, apart, least)) (omega (arith, most)) in
        omega (arith, first, rest, one, two))

  none_parted : (b left : ℕ) → length (each_action (of_action []) b left) ≡ 0
  unfolding each_action those_of
  none_parted b zero = refl
  none_parted b (suc left) = none_parted (b + 1) left

  pub length_parted : (m : ℕ) (xs : List A) → ((x : A) → Has xs x → action x < m) → length (each_action (of_action xs) 0 m) ≡ length xs
  length_parted m [] below = none_parted 0 m
  length_parted m (x ∷ xs) below =
      let less = below x (inl refl) in
      let rest = length_parted m xs (λ y h. below y (inr h)) in
      let more = inside_more x xs 0 m (omega arith) (omega (arith, less)) in
      omega (arith, rest, more)
