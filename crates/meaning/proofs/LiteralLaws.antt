-- Literals: the two of a fluent, complements, and that every literal is one of the two. By remainders of 2. Numbers among those of a list.
-- Assumes nothing.
use Prim.Native.Nat.{ℕ, ◌+◌, ◌-◌, ◌*◌, ◌/◌, ◌%◌}
use native.Mathlib.Omega.{arith}
use mathlib.Core.Path.{◌≡◌, refl, sym, ◌∙◌, ap, subst}
use mathlib.Core.Bool.{Bool, true, false}
use mathlib.Core.List.{List}
use mathlib.Core.Logic.{◌⊎◌, inl, inr}
use lib.Dec.{eqb}
use borrow.Author.Tests.{eqb-true, eqb-false, eq-eqb, ne_eqb}
use Rattle.meaning.specs.Tests.{each_of, Has}
use Rattle.meaning.specs.Literals.{says_true, says_false, fluent_of, positive, complement, among}
use Rattle.meaning.proofs.TestLaws.{by-test, pick_true, pick_false, some_has, has_some, each_has}

-- COMPLEMENTS.
pub complement_even : (l : ℕ) → l % 2 ≡ 0 → complement l ≡ l + 1
unfolding complement positive
complement_even l e = pick_true _ _ _ (eq-eqb (l % 2) 0 e)

pub complement_odd : (l : ℕ) → (l % 2 ≡ 0 → ⊥) → complement l ≡ l - 1
unfolding complement positive
complement_odd l e = pick_false _ _ _ (ne_eqb (l % 2) 0 e)

pub complement_twice : (l : ℕ) → complement (complement l) ≡ l
complement_twice l =
    by-test (eqb (l % 2) 0)
    (λ t. let m : l % 2 ≡ 0 = eqb-true _ _ t in rw (complement_even l m) (complement_odd (l + 1) (λ (q : (l + 1) % 2 ≡ 0). omega arith) ∙ omega arith))
    (λ u. let m : l % 2 ≡ 0 → ⊥ = eqb-false _ _ u in rw (complement_odd l m) (complement_even (l - 1) (omega arith) ∙ omega arith))

pub complement_other : (l : ℕ) → complement l ≡ l → ⊥
complement_other l e =
    by-test (eqb (l % 2) 0)
    (λ t. let q = complement_even l (eqb-true _ _ t) in omega arith)
    (λ u. let m : l % 2 ≡ 0 → ⊥ = eqb-false _ _ u in let q = complement_odd l m in omega arith)

-- THE TWO LITERALS OF A FLUENT.
pub positive_true : (f : ℕ) → positive (says_true f) ≡ true
unfolding positive says_true
positive_true f = eq-eqb (2 * f % 2) 0 (omega arith)

pub positive_false : (f : ℕ) → positive (says_false f) ≡ false
unfolding positive says_false
positive_false f = ne_eqb ((2 * f + 1) % 2) 0 (λ (q : (2 * f + 1) % 2 ≡ 0). omega arith)

pub fluent_true : (f : ℕ) → fluent_of (says_true f) ≡ f
unfolding fluent_of says_true
fluent_true f = omega arith

pub fluent_false : (f : ℕ) → fluent_of (says_false f) ≡ f
unfolding fluent_of says_false
fluent_false f = omega arith

pub complement_true : (f : ℕ) → complement (says_true f) ≡ says_false f
unfolding says_true says_false
complement_true f = complement_even (2 * f) (omega arith)

pub complement_false : (f : ℕ) → complement (says_false f) ≡ says_true f
unfolding says_true says_false
complement_false f = complement_odd (2 * f + 1) (λ (q : (2 * f + 1) % 2 ≡ 0). omega arith) ∙ omega arith

-- Every literal is one of the two.
pub by_literal {ℓ} : (P : ℕ → Type ℓ) → ((f : ℕ) → P (says_true f)) → ((f : ℕ) → P (says_false f)) → (l : ℕ) → P l
unfolding says_true says_false
by_literal P t u l =
    by-test (eqb (l % 2) 0)
    (λ e. let m : l % 2 ≡ 0 = eqb-true _ _ e in subst P (omega arith) (t (l / 2)))
    (λ e. let m : l % 2 ≡ 0 → ⊥ = eqb-false _ _ e in subst P (omega arith) (u (l / 2)))

pub one_of_two : (l : ℕ) → (l ≡ says_true (fluent_of l)) ⊎ (l ≡ says_false (fluent_of l))
one_of_two =
    by_literal (λ l. (l ≡ says_true (fluent_of l)) ⊎ (l ≡ says_false (fluent_of l)))
    (λ f. inl (ap says_true (sym (fluent_true f))))
    (λ f. inr (ap says_false (sym (fluent_false f))))

-- COMPLEMENTS have one fluent and two marks.
pub fluent_complement : (l : ℕ) → fluent_of (complement l) ≡ fluent_of l
fluent_complement =
    by_literal (λ l. fluent_of (complement l) ≡ fluent_of l)
    (λ f. rw (complement_true f) (fluent_false f ∙ sym (fluent_true f)))
    (λ f. rw (complement_false f) (fluent_true f ∙ sym (fluent_false f)))

-- Two literals of one fluent are the same or complements.
pub same_fluent : (k l : ℕ) → fluent_of k ≡ fluent_of l → (k ≡ l) ⊎ (k ≡ complement l)
same_fluent =
    by_literal (λ k. (l : ℕ) → fluent_of k ≡ fluent_of l → (k ≡ l) ⊎ (k ≡ complement l))
    (λ f. by_literal (λ l. fluent_of (says_true f) ≡ fluent_of l → (says_true f ≡ l) ⊎ (says_true f ≡ complement l))
    (λ g. rw (fluent_true f, fluent_true g) (λ q. inl (ap says_true q)))
    (λ g. rw (fluent_true f, fluent_false g, complement_false g) (λ q. inr (ap says_true q))))
    (λ f. by_literal (λ l. fluent_of (says_false f) ≡ fluent_of l → (says_false f ≡ l) ⊎ (says_false f ≡ complement l))
    (λ g. rw (fluent_false f, fluent_true g, complement_true g) (λ q. inr (ap says_false q)))
    (λ g. rw (fluent_false f, fluent_false g) (λ q. inl (ap says_false q))))

-- A number is among those of a list where the list has it.
pub among_has : (l : ℕ) (X : List ℕ) → among l X ≡ true → Has X l
unfolding among
among_has l X e = let w = some_has _ X e in subst (Has X) (sym (eqb-true _ _ w.2)) w.1

pub has_among : (l : ℕ) (X : List ℕ) → Has X l → among l X ≡ true
unfolding among
has_among l X h = has_some _ X l h (eq-eqb l l refl)

-- What each number of a list passes, a number among them passes.
pub among_each : (test : ℕ → Bool) (ns : List ℕ) → each_of test ns ≡ true → (n : ℕ) → among n ns ≡ true → test n ≡ true
among_each test ns each n is = each_has test ns n each (among_has n ns is)
