-- How many fluents are unknown: a reading makes one known, and an action that doesn't sense makes none unknown where all are known. For then a
-- body that is possible is known true, and by refusal 16 no two bodies known true give a literal and its complement where the action can be run.
-- Assumes nothing.
use Prim.Native.Nat.{ℕ, zero, suc, ◌*◌, ◌≤◌, ◌<◌}
use native.Mathlib.Omega.{arith}
use native.Mathlib.Decide.{ℕ_discrete, dec_lt}
use native.Mathlib.Nat.{not-suc-le-zero}
use mathlib.Core.Path.{◌≡◌, refl, sym, ◌∙◌, ap, subst}
use mathlib.Core.Bool.{Bool, true, false}
use mathlib.Core.Logic.{◌⊎◌, inl, inr, ⊎_elim}
use lib.ListN.{length}
use lib.Dec.{eqb}
use Rattle.meaning.specs.Tests.{either, pick, Has}
use Rattle.meaning.specs.Limits
use Rattle.meaning.specs.Literals.{says_true, says_false, fluent_of}
use Rattle.meaning.specs.Requests.{Effect, Table}
use Rattle.meaning.specs.Refusals.{nowhere, contradiction_in}
use Rattle.meaning.specs.Lines.{effects_of, given}
use Rattle.meaning.specs.States.{State, known, possible, known_whether, told, can_be_run, known_after, mark_after, state_after}
use Rattle.meaning.proofs.TestLaws.{by-test, clash, both_left, both_right, both_true, either_left, either_right, either_split, fails_true, fails_false, pick_true, pick_false, some_has, has_some, each_has, has_each, those_has}
use Rattle.meaning.proofs.PickLaws.{pick_has}
use Rattle.meaning.proofs.LiteralLaws.{by_literal, complement_true, complement_false, fluent_true, fluent_false}
use Rattle.meaning.proofs.ApartLaws.{given_apart}
use Rattle.meaning.proofs.StateLaws.{known_true, known_false, unknown_far}
use Rattle.meaning.proofs.PairLaws.{after_mark}
use Rattle.meaning.proofs.ToldLaws.{told_here, whether_keeps}

-- HOW MANY numbers below n fail a test.
unfoldable pub failing : (ℕ → Bool) → ℕ → ℕ
failing test zero = 0
failing test (suc n) = pick (test n) (λ _. failing test n) (λ _. suc (failing test n))

failing_most : (test : ℕ → Bool) (n : ℕ) → failing test n ≤ n
unfolding failing
failing_most test zero = omega arith
failing_most test (suc n) = let h = failing_most test n in pick_has (λ (c : ℕ). c ≤ suc n) _ _ _ (λ _. omega arith) (λ _. omega arith)

none_fails : (test : ℕ → Bool) (n : ℕ) → ((f : ℕ) → f < n → test f ≡ true) → failing test n ≡ 0
unfolding failing
none_fails test zero all = refl
none_fails test (suc n) all = pick_true _ _ _ (all n (omega arith)) ∙ none_fails test n (λ f h. all f (omega arith))

all_pass : (test : ℕ → Bool) (n : ℕ) → failing test n ≡ 0 → (f : ℕ) → f < n → test f ≡ true
unfolding failing
all_pass test zero e f h = absurd (not-suc-le-zero h)
all_pass test (suc n) e f h =
    by-test (test n)
    (λ t. elim (ℕ_discrete f n) [ yes q ↦ rw q t | no q ↦ all_pass test n (sym (pick_true _ _ _ t) ∙ e) f (omega arith) ])
    (λ u. let none : suc (failing test n) ≡ 0 = sym (pick_false _ _ _ u) ∙ e in absurd (omega arith))

same_failing : (p q : ℕ → Bool) (n : ℕ) → ((g : ℕ) → g < n → q g ≡ p g) → failing q n ≡ failing p n
unfolding failing
same_failing p q zero same = refl
same_failing p q (suc n) same = rw (same n (omega arith), same_failing p q n (λ g h. same g (omega arith)))

-- One fewer fails where one passes that did not, and the others are as they were.
one_fewer : (p q : ℕ → Bool) (f : ℕ) → p f ≡ false → q f ≡ true → ((g : ℕ) → (g ≡ f → ⊥) → q g ≡ p g) → (n : ℕ) → f < n → suc (failing q n) ≡ failing p n
unfolding failing
one_fewer p q f before after same zero h = absurd (not-suc-le-zero h)
one_fewer p q f before after same (suc n) h =
    elim (ℕ_discrete f n) [
      | yes is ↦
          ap suc (pick_true _ _ _ (subst (λ (g : ℕ). q g ≡ true) is after) ∙ same_failing p q n (λ g m. same g (λ r. omega arith)))
          ∙ sym (pick_false _ _ _ (subst (λ (g : ℕ). p g ≡ false) is before))
      | no other ↦
          let less = one_fewer p q f before after same n (omega arith) in
          rw (same n (λ r. other (sym r)))
          (by-test (p n) (λ t. ap suc (pick_true _ _ _ t) ∙ less ∙ sym (pick_true _ _ _ t)) (λ u. ap suc (pick_false _ _ _ u ∙ less) ∙ sym (pick_false _ _ _ u)))
    ]

-- UNKNOWN FLUENTS below n.
abbrev pub unknown_below : ℕ → State → ℕ
unknown_below n s = failing (known_whether s) n

pub unknown_most : (n : ℕ) (s : State) → unknown_below n s ≤ n
unknown_most n s = failing_most (known_whether s) n

-- A LITERAL TOLD of an unknown fluent.
module _ (l : ℕ) (s : State) (within : fluent_of l < length s) where
  known_then : known_whether (told l s) (fluent_of l) ≡ true
  unfolding known_whether
  known_then =
      by_literal (λ k. known (told l s) k ≡ true → known_whether (told l s) (fluent_of k) ≡ true)
      (λ f e. rw (fluent_true f) (either_left _ _ e)) (λ f e. rw (fluent_false f) (either_right _ _ e)) l (told_here l s within)

  pub whether_elsewhere : (g : ℕ) → (g ≡ fluent_of l → ⊥) → known_whether (told l s) g ≡ known_whether s g
  whether_elsewhere = whether_keeps l s

  pub one_known : known_whether s (fluent_of l) ≡ false → (n : ℕ) → fluent_of l < n → suc (unknown_below n (told l s)) ≡ unknown_below n s
  one_known unknown = one_fewer (known_whether s) (known_whether (told l s)) (fluent_of l) unknown known_then whether_elsewhere

-- ALL KNOWN.
possible_known : (s : State) (l : ℕ) → known_whether s (fluent_of l) ≡ true → possible s l ≡ true → known s l ≡ true
unfolding known_whether possible
possible_known s =
    by_literal (λ l. known_whether s (fluent_of l) ≡ true → possible s l ≡ true → known s l ≡ true)
    (λ f. rw (fluent_true f, complement_true f) (λ e p. ⊎_elim (λ k. k) (λ k. clash k (fails_true _ p)) (either_split _ _ e)))
    (λ f. rw (fluent_false f, complement_false f) (λ e p. ⊎_elim (λ k. clash k (fails_true _ p)) (λ k. k) (either_split _ _ e)))

marked : (x y : Bool) (m : ℕ) → m ≡ pick x (λ _. Limits.true_mark) (λ _. pick y (λ _. Limits.false_mark) (λ _. Limits.unknown_mark))
    → (x ≡ true) ⊎ (y ≡ true) → either (eqb m Limits.true_mark) (eqb m Limits.false_mark) ≡ true
unfolding pick either
marked true y m e h = rw e
marked false true m e h = rw e
marked false false m e h = ⊎_elim (λ q. clash q refl) (λ q. clash q refl) h

module _ (t : Table) (n : ℕ) (bodies : (e : Effect) → Has t.effects e → (l : ℕ) → Has e.body l → l < 2 * n)
    (passed : contradiction_in t ≡ nowhere) (a : ℕ) (s : State) (runs : can_be_run t a s ≡ true) where
  module _ (all : (f : ℕ) → f < n → known_whether s f ≡ true) where
    given_known : (l : ℕ) → given (possible s) (effects_of t a) l ≡ true → given (known s) (effects_of t a) l ≡ true
    unfolding given effects_of fluent_of
    given_known l h =
        let e = some_has _ (effects_of t a) h in
        let he = those_has _ t.effects e.0 e.1 in
        has_some _ (effects_of t a) e.0 e.1
        (both_true _ _ (both_left _ _ e.2) (has_each _ e.0.body λ k m.
        possible_known s k (all (fluent_of k) (let near = bodies e.0 he.0 k m in omega arith)) (each_has _ e.0.body k (both_right _ _ e.2) m)))

    -- One of the two literals is known afterwards.
    one_after : (f : ℕ) → f < n → (known_after (effects_of t a) s (says_true f) ≡ true) ⊎ (known_after (effects_of t a) s (says_false f) ≡ true)
    unfolding known_after known_whether
    one_after f near =
        rw (complement_true f, complement_false f)
        (by-test (given (possible s) (effects_of t a) (says_false f))
        (λ gf. inr (both_true _ _ (either_right _ _ (given_known _ gf)) (fails_false _ (by-test _ (λ gt. absurd (given_apart t passed a s runs (says_true f) (given_known _ gt) (rw (complement_true f) gf))) (λ x. x)))))
        (λ nf. by-test (given (possible s) (effects_of t a) (says_true f))
        (λ gt. inl (both_true _ _ (either_right _ _ (given_known _ gt)) (fails_false _ nf)))
        (λ nt. ⊎_elim (λ k. inl (both_true _ _ (either_left _ _ k) (fails_false _ nf))) (λ k. inr (both_true _ _ (either_left _ _ k) (fails_false _ nt))) (either_split _ _ (all f near)))))

    known_again : (f : ℕ) → f < n → known_whether (state_after t a s) f ≡ true
    unfolding known_whether mark_after
    known_again f near =
        rw (known_true (state_after t a s) f, known_false (state_after t a s) f)
        (marked _ _ _ (after_mark t a s f inside) (one_after f near))
      where
        inside : f < length s
        inside =
            elim (dec_lt f (length s)) [
              | yes h ↦ h
              | no h ↦ let u = unknown_far s f (omega arith) in ⊎_elim (λ k. clash k u.0) (λ k. clash k u.1) (either_split _ _ (all f near))
            ]

  -- Where nothing is unknown, nothing is afterwards.
  pub still_known : unknown_below n s ≡ 0 → unknown_below n (state_after t a s) ≡ 0
  still_known e = none_fails (known_whether (state_after t a s)) n (known_again (all_pass (known_whether s) n e))
