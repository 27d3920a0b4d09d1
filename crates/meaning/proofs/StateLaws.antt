-- Marks of partial states: what a mark says of the two literals of its fluent, where marks stand after an action, and where none is known.
-- Assumes nothing.
use Prim.Native.Nat.{ℕ, zero, suc, ◌+◌, ◌≤◌, ◌<◌}
use native.Mathlib.Omega.{arith}
use native.Mathlib.Decide.{dec_lt}
use native.Mathlib.Nat.{not-suc-le-zero, le_of_suc-le-suc}
use mathlib.Core.Path.{◌≡◌, refl, sym, ◌∙◌, ap}
use mathlib.Core.Bool.{true, false}
use mathlib.Core.List.{List, [], ◌∷◌}
use lib.ListN.{length, get_or, replicate, get_or-replicate, length-replicate, get_or-eq_default}
use lib.Dec.{eqb}
use borrow.Author.Tests.{eqb-true, ne_eqb}
use Rattle.meaning.specs.Limits
use Rattle.meaning.specs.Literals.{says_true, says_false, fluent_of, complement}
use Rattle.meaning.specs.Requests.{Effect, Table}
use Rattle.meaning.specs.Lines.{effects_of}
use Rattle.meaning.specs.States.{State, mark_of, known, possible, mark_after, marks_after, state_after}
use Rattle.meaning.proofs.TestLaws.{clash, fails_false, pick_true, pick_false}
use Rattle.meaning.proofs.LiteralLaws.{positive_true, positive_false, fluent_true, fluent_false, fluent_complement, complement_true, complement_false, by_literal}

pub mark_true : (f : ℕ) → mark_of (says_true f) ≡ Limits.true_mark
unfolding mark_of
mark_true f = pick_true _ _ _ (positive_true f)

pub mark_false : (f : ℕ) → mark_of (says_false f) ≡ Limits.false_mark
unfolding mark_of
mark_false f = pick_false _ _ _ (positive_false f)

pub mark_complement : (l : ℕ) → mark_of l ≡ mark_of (complement l) → ⊥
mark_complement =
    by_literal (λ l. mark_of l ≡ mark_of (complement l) → ⊥)
    (λ f. rw (complement_true f, mark_true f, mark_false f) (λ q. omega arith))
    (λ f. rw (complement_false f, mark_true f, mark_false f) (λ q. omega arith))

pub known_true : (s : State) (f : ℕ) → known s (says_true f) ≡ eqb (get_or s f Limits.unknown_mark) Limits.true_mark
unfolding known
known_true s f = rw (fluent_true f, mark_true f)

pub known_false : (s : State) (f : ℕ) → known s (says_false f) ≡ eqb (get_or s f Limits.unknown_mark) Limits.false_mark
unfolding known
known_false s f = rw (fluent_false f, mark_false f)

-- What is known is not known false, so it is possible: a fluent has one mark.
pub known_one : (s : State) (l : ℕ) → known s l ≡ true → known s (complement l) ≡ false
unfolding known
known_one s l e = ne_eqb _ _ (λ q. mark_complement l (sym (eqb-true _ _ e) ∙ ap (λ (f : ℕ). get_or s f Limits.unknown_mark) (sym (fluent_complement l)) ∙ q))

pub known_possible : (s : State) (l : ℕ) → known s l ≡ true → possible s l ≡ true
unfolding possible
known_possible s l e = fails_false _ (known_one s l e)

-- Nothing is known of a fluent past the state's end.
pub unknown_far : (s : State) (f : ℕ) → length s ≤ f → (known s (says_true f) ≡ false) × (known s (says_false f) ≡ false)
unknown_far s f far = let none = get_or-eq_default s Limits.unknown_mark {n = f} far in (known_true s f ∙ rw none, known_false s f ∙ rw none)

-- So what is known is of a fluent within it.
pub known_within : (s : State) (l : ℕ) → known s l ≡ true → fluent_of l < length s
known_within s =
    by_literal (λ l. known s l ≡ true → fluent_of l < length s)
    (λ f. rw (fluent_true f) λ e. elim (dec_lt f (length s)) [ yes near ↦ near | no far ↦ clash e (unknown_far s f (omega arith)).0 ])
    (λ f. rw (fluent_false f) λ e. elim (dec_lt f (length s)) [ yes near ↦ near | no far ↦ clash e (unknown_far s f (omega arith)).1 ])

-- A state in which nothing is known.
abbrev pub nothing_told : ℕ → State
nothing_told n = replicate n Limits.unknown_mark

pub unknown_mark : (n f : ℕ) → get_or (nothing_told n) f Limits.unknown_mark ≡ Limits.unknown_mark
unknown_mark n f =
    elim (dec_lt f n) [
      | yes near ↦ get_or-replicate n f Limits.unknown_mark Limits.unknown_mark near
      | no far ↦ get_or-eq_default (nothing_told n) Limits.unknown_mark {n = f} (rw (length-replicate n Limits.unknown_mark) (omega arith))
    ]

pub none_known : (n l : ℕ) → known (nothing_told n) l ≡ false
none_known n =
    by_literal (λ l. known (nothing_told n) l ≡ false)
    (λ f. known_true (nothing_told n) f ∙ rw (unknown_mark n f))
    (λ f. known_false (nothing_told n) f ∙ rw (unknown_mark n f))

-- THE STEP. A mark after an action, and the length of the state, which it keeps.
marks_length : (es : List Effect) (s : State) (f : ℕ) (ms : List ℕ) → length (marks_after es s f ms) ≡ length ms
unfolding marks_after
marks_length es s f [] = refl
marks_length es s f (m ∷ ms) = ap suc (marks_length es s (f + 1) ms)

pub marks_at : (es : List Effect) (s : State) (f : ℕ) (ms : List ℕ) (k : ℕ) → k < length ms → get_or (marks_after es s f ms) k Limits.unknown_mark ≡ mark_after es s (f + k)
unfolding marks_after
marks_at es s f [] k h = absurd (not-suc-le-zero h)
marks_at es s f (m ∷ ms) zero h = ap (mark_after es s) (omega arith)
marks_at es s f (m ∷ ms) (suc k) h = marks_at es s (f + 1) ms k (le_of_suc-le-suc h) ∙ ap (mark_after es s) (omega arith)

pub after_length : (t : Table) (a : ℕ) (s : State) → length (state_after t a s) ≡ length s
unfolding state_after
after_length t a s = marks_length (effects_of t a) s 0 s
