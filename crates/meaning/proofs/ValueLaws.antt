-- Laws of what fluents with any number of values are defined by: numbers in a row, the first number that passes a test, marks of a state by its
-- fluents, and a fork with one reading for each value. Assumes nothing.
use Prim.Native.Nat.{ℕ, zero, suc, ◌+◌, ◌≤◌, ◌<◌}
use native.Mathlib.Omega.{arith}
use native.Mathlib.Decide.{dec_lt, ℕ_discrete}
use native.Mathlib.Nat.{not-suc-le-zero, le_of_suc-le-suc}
use mathlib.Core.Path.{◌≡◌, refl, sym, ◌∙◌, ap}
use mathlib.Core.Bool.{Bool, true, false}
use mathlib.Core.List.{List, [], ◌∷◌, map}
use mathlib.Core.Logic.{inl, inr, ⊎_elim}
use lib.ListN.{length, get_or, set, get_or-eq_default}
use lib.Seq.{get_or-set_same, get_or-set_other, set_out}
use borrow.Author.Tests.{eqb-true}
use Rattle.meaning.specs.Tests.{Has}
use Rattle.meaning.specs.Limits
use Rattle.meaning.specs.States.{State, Outcome}
use Rattle.meaning.specs.Values.{numbers, first_such}
use Rattle.meaning.specs.ValueStates.{mark_left, told, is_known, each_value}
use Rattle.meaning.proofs.TestLaws.{by-test, pick_true, pick_false}
use Rattle.meaning.proofs.Sound.{SomeState}

-- NUMBERS IN A ROW.
pub has_numbers : (first many n : ℕ) → first ≤ n → n < first + many → Has (numbers first many) n
unfolding numbers
has_numbers first zero n low high = absurd (omega arith)
has_numbers first (suc many) n low high =
    elim (ℕ_discrete n first) [ yes q ↦ inl q | no other ↦ inr (has_numbers (first + 1) many n (omega (arith, other)) (omega arith)) ]

pub numbers_has : (first many n : ℕ) → Has (numbers first many) n → n < first + many
unfolding numbers
numbers_has first zero n h = absurd h
numbers_has first (suc many) n (inl q) = omega arith
numbers_has first (suc many) n (inr h) = let below = numbers_has (first + 1) many n h in omega arith

-- Marks by a function of the fluent.
pub numbered_length : (mark : ℕ → ℕ) (first many : ℕ) → length (map mark (numbers first many)) ≡ many
unfolding numbers
numbered_length mark first zero = refl
numbered_length mark first (suc many) = ap suc (numbered_length mark (first + 1) many)

numbered_from : (mark : ℕ → ℕ) (first many k d : ℕ) → k < many → get_or (map mark (numbers first many)) k d ≡ mark (first + k)
unfolding numbers
numbered_from mark first zero k d h = absurd (not-suc-le-zero h)
numbered_from mark first (suc many) zero d h = ap mark (omega arith)
numbered_from mark first (suc many) (suc k) d h = numbered_from mark (first + 1) many k d (le_of_suc-le-suc h) ∙ ap mark (omega arith)

pub numbered_at : (mark : ℕ → ℕ) (many f d : ℕ) → f < many → get_or (map mark (numbers 0 many)) f d ≡ mark f
numbered_at mark many f d h = numbered_from mark 0 many f d h ∙ ap mark (omega arith)

-- A value known there is the function's.
pub known_there : (mark : ℕ → ℕ) (many f v : ℕ) → is_known (map mark (numbers 0 many)) f v ≡ true → mark f ≡ v + 1
unfolding is_known
known_there mark many f v e =
    let q : get_or (map mark (numbers 0 many)) f Limits.unknown_mark ≡ v + 1 = eqb-true _ _ e in
    elim (dec_lt f many) [
      | yes h ↦ sym (numbered_at mark many f Limits.unknown_mark h) ∙ q
      | no h ↦ absurd (omega (arith, q, get_or-eq_default (map mark (numbers 0 many)) Limits.unknown_mark {n = f} (rw (numbered_length mark 0 many) (omega arith))))
    ]

-- THE FIRST NUMBER that passes a test, or none does.
pub first-such-cases {ℓ} : {C : Type ℓ} (test : ℕ → Bool) (made : ℕ → ℕ) (ns : List ℕ) (otherwise : ℕ)
    → ((n : ℕ) → Has ns n → test n ≡ true → first_such test made ns otherwise ≡ made n → C)
    → (((n : ℕ) → Has ns n → test n ≡ false) → first_such test made ns otherwise ≡ otherwise → C) → C
unfolding first_such
first-such-cases test made [] otherwise found none = none (λ n h. absurd h) refl
first-such-cases test made (m ∷ ms) otherwise found none =
    by-test (test m)
    (λ t. found m (inl refl) t (pick_true _ _ _ t))
    (λ u. first-such-cases test made ms otherwise
    (λ n h t q. found n (inr h) t (pick_false _ _ _ u ∙ q))
    (λ no-n q. none (λ n h. ⊎_elim (λ p. rw p u) (no-n n) h) (pick_false _ _ _ u ∙ q)))

-- A value known because it is the only one left is the one.
pub one_left : (vs : List ℕ) (v x : ℕ) → mark_left vs ≡ v + 1 → Has vs x → x ≡ v
unfolding mark_left
one_left [] v x e h = absurd h
one_left (u ∷ []) v x e (inl q) = omega arith
one_left (u ∷ []) v x e (inr h) = absurd h
one_left (u ∷ t ∷ vs) v x e h = absurd (omega arith)

-- A VALUE TOLD.
pub told_elsewhere : (f v : ℕ) (s : State) (g u : ℕ) → (g ≡ f → ⊥) → is_known (told f v s) g u ≡ is_known s g u
unfolding is_known told
told_elsewhere f v s g u other = rw (get_or-set_other s f g (v + 1) Limits.unknown_mark other)

pub told_there : (f v : ℕ) (s : State) (u : ℕ) → f < length s → is_known (told f v s) f u ≡ true → u ≡ v
unfolding is_known told
told_there f v s u within e = let q : get_or (set s f (v + 1)) f Limits.unknown_mark ≡ u + 1 = eqb-true _ _ e in omega (arith, q, get_or-set_same s f (v + 1) Limits.unknown_mark within)

pub told_far : (f v : ℕ) (s : State) → length s ≤ f → told f v s ≡ s
unfolding told
told_far f v s far = set_out s f (v + 1) far

-- ONE READING FOR EACH VALUE, so also for this one.
pub some_value : (vs : List ℕ) (k : ℕ → Outcome State) (s : State) (Q : State → Type 0) (v : ℕ) → Has vs v → SomeState (k v) Q → SomeState (each_value vs k s) Q
unfolding each_value
some_value [] k s Q v h x = absurd h
some_value (u ∷ []) k s Q v (inl q) x = rw q at x
some_value (u ∷ []) k s Q v (inr h) x = absurd h
some_value (u ∷ t ∷ vs) k s Q v (inl q) x = inl (rw q at x)
some_value (u ∷ t ∷ vs) k s Q v (inr h) x = inr (some_value (t ∷ vs) k s Q v h x)
