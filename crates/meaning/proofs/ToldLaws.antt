-- What a state knows once it is told literals: what it knew, and these, since one fluent has one mark and no literal is told beside its
-- complement. So the first state, which is told the facts, is the least initial a-state. Assumes nothing.
use Prim.Native.Nat.{ℕ, ◌≤◌, ◌<◌, ◌*◌}
use native.Mathlib.Omega.{arith}
use native.Mathlib.Decide.{ℕ_discrete}
use mathlib.Core.Path.{◌≡◌, refl, sym, ◌∙◌, ap, fun_ext}
use mathlib.Core.Bool.{Bool, true, false}
use mathlib.Core.List.{List, [], ◌∷◌}
use mathlib.Core.Logic.{inl, inr, ⊎_elim}
use lib.ListN.{length, length-set, length-replicate}
use lib.Seq.{get_or-set_same, get_or-set_other, set_comm}
use lib.Dec.{eqb}
use borrow.Author.Tests.{eq-eqb, ne_eqb}
use Rattle.meaning.specs.Tests.{either, some_of, Has}
use Rattle.meaning.specs.Limits
use Rattle.meaning.specs.Limits.{Limits}
use Rattle.meaning.specs.Literals.{says_true, says_false, fluent_of, complement, among}
use Rattle.meaning.specs.Requests.{Table}
use Rattle.meaning.specs.States.{State, mark_of, known, known_whether, told, told_all, state_of, first_state}
use Rattle.meaning.specs.Approximation.{least}
use Rattle.meaning.specs.Reported.{pair_of}
use Rattle.meaning.proofs.TestLaws.{either_right}
use Rattle.meaning.proofs.RangeLaws.{Ranged}
use Rattle.meaning.proofs.LiteralLaws.{complement_other, fluent_true, fluent_false, fluent_complement, same_fluent}
use Rattle.meaning.proofs.StateLaws.{nothing_told, mark_complement, none_known}

-- ONE LITERAL TOLD, whose complement was not known.
pub either_none : (b : Bool) → either b false ≡ b
unfolding either
either_none true = refl
either_none false = refl

pub either_assoc : (a b c : Bool) → either (either a b) c ≡ either a (either b c)
unfolding either
either_assoc true b c = refl
either_assoc false b c = refl

-- What is known of other fluents stays.
pub told_keeps : (l : ℕ) (s : State) (k : ℕ) → (fluent_of k ≡ fluent_of l → ⊥) → known (told l s) k ≡ known s k
unfolding known told
told_keeps l s k other = ap (λ (m : ℕ). eqb m (mark_of k)) (get_or-set_other s (fluent_of l) (fluent_of k) (mark_of l) Limits.unknown_mark other)

module _ (l : ℕ) (s : State) (within : fluent_of l < length s) where
  pub told_here : known (told l s) l ≡ true
  unfolding known told
  told_here = eq-eqb _ (mark_of l) (get_or-set_same s (fluent_of l) (mark_of l) Limits.unknown_mark within)

  pub told_beside : known (told l s) (complement l) ≡ false
  unfolding known told
  told_beside = ne_eqb _ (mark_of (complement l)) (rw (fluent_complement l, get_or-set_same s (fluent_of l) (mark_of l) Limits.unknown_mark within) (mark_complement l))

  pub told_elsewhere : (k : ℕ) → (fluent_of k ≡ fluent_of l → ⊥) → known (told l s) k ≡ known s k
  told_elsewhere = told_keeps l s

  told_known : known s (complement l) ≡ false → (k : ℕ) → known (told l s) k ≡ either (known s k) (eqb k l)
  told_known free k = elim (ℕ_discrete (fluent_of k) (fluent_of l)) [ yes same ↦ ⊎_elim here beside (same_fluent k l same) | no other ↦ elsewhere other ]
    where
      here : k ≡ l → known (told l s) k ≡ either (known s k) (eqb k l)
      here q = rw q (told_here ∙ sym (either_right _ _ (eq-eqb l l refl)))

      beside : k ≡ complement l → known (told l s) k ≡ either (known s k) (eqb k l)
      beside q = rw q (told_beside ∙ sym (rw (ne_eqb (complement l) l (complement_other l), free) (either_none false)))

      elsewhere : (fluent_of k ≡ fluent_of l → ⊥) → known (told l s) k ≡ either (known s k) (eqb k l)
      elsewhere other = told_elsewhere k other ∙ sym (rw (ne_eqb k l (λ q. other (ap fluent_of q))) (either_none (known s k)))

pub whether_keeps : (l : ℕ) (s : State) (g : ℕ) → (g ≡ fluent_of l → ⊥) → known_whether (told l s) g ≡ known_whether s g
unfolding known_whether
whether_keeps l s g other = rw (told_keeps l s (says_true g) (λ q. other (sym (fluent_true g) ∙ q)), told_keeps l s (says_false g) (λ q. other (sym (fluent_false g) ∙ q)))

-- Two literals of different fluents are told in either order.
pub told_swap : (l k : ℕ) (s : State) → (fluent_of l ≡ fluent_of k → ⊥) → told k (told l s) ≡ told l (told k s)
unfolding told
told_swap l k s other = set_comm s (fluent_of l) (fluent_of k) (mark_of l) (mark_of k) other

-- MANY TOLD: none has its complement known or among the others.
pub record Tellable (s : State) (ls : List ℕ) : Type 0 where
  pub within : (l : ℕ) → Has ls l → fluent_of l < length s
  pub free : (l : ℕ) → Has ls l → known s (complement l) ≡ false
  pub consistent : (l : ℕ) → Has ls l → Has ls (complement l) → ⊥

tellable_after : (l : ℕ) (ls : List ℕ) (s : State) → Tellable s (l ∷ ls) → Tellable (told l s) ls
unfolding told
tellable_after l ls s can =
    record {
      within = λ k h. rw (length-set s (fluent_of l) (mark_of l)) (can.within k (inr h));
      free = λ k h. told_known l s (can.within l (inl refl)) (can.free l (inl refl)) (complement k)
          ∙ rw (can.free k (inr h), ne_eqb (complement k) l (λ q. can.consistent k (inr h) (inl q))) (either_none false);
      consistent = λ k h c. can.consistent k (inr h) (inr c);
    }

pub told_all_length : (ls : List ℕ) (s : State) → length (told_all ls s) ≡ length s
unfolding told_all told
told_all_length [] s = refl
told_all_length (l ∷ ls) s = told_all_length ls (told l s) ∙ length-set s (fluent_of l) (mark_of l)

-- A state told some literals knows these and what it knew.
pub told_all_known : (ls : List ℕ) (s : State) → Tellable s ls → (k : ℕ) → known (told_all ls s) k ≡ either (known s k) (among k ls)
unfolding told_all among some_of
told_all_known [] s can k = sym (either_none (known s k))
told_all_known (l ∷ ls) s can k =
    told_all_known ls (told l s) (tellable_after l ls s can) k
    ∙ rw (told_known l s (can.within l (inl refl)) (can.free l (inl refl)) k) (either_assoc (known s k) (eqb k l) (among k ls))

-- STATES OF LISTS. A list of literals of a state's fluents, none beside its complement, is just what its state knows.
pub state_length : (lim : Limits) (ls : List ℕ) → length (state_of lim ls) ≡ lim.state
unfolding state_of
state_length lim ls = told_all_length ls (nothing_told lim.state) ∙ length-replicate lim.state Limits.unknown_mark

pub record Clear (lim : Limits) (ls : List ℕ) : Type 0 where
  pub within : (l : ℕ) → Has ls l → l < 2 * lim.state
  pub consistent : (l : ℕ) → Has ls l → Has ls (complement l) → ⊥

pub state_known : (lim : Limits) (ls : List ℕ) → Clear lim ls → (k : ℕ) → known (state_of lim ls) k ≡ among k ls
unfolding state_of either fluent_of
state_known lim ls clear k = told_all_known ls (nothing_told lim.state) can k ∙ rw (none_known lim.state k)
  where
    can : Tellable (nothing_told lim.state) ls
    can = record {
      within = λ l h. rw (length-replicate lim.state Limits.unknown_mark) (omega (arith, clear.within l h));
      free = λ l h. none_known lim.state (complement l);
      consistent = clear.consistent;
    }

-- THE FIRST STATE is the least initial a-state.
pub first_length : (lim : Limits) (t : Table) → length (first_state lim t) ≡ lim.state
unfolding first_state
first_length lim t = state_length lim t.facts

module _ (lim : Limits) (room : lim.fluents ≤ lim.state) (t : Table) (ranged : Ranged lim t) where
  pub first_known : (k : ℕ) → known (first_state lim t) k ≡ among k t.facts
  unfolding first_state
  first_known = state_known lim t.facts (record { within = λ l h. omega (arith, ranged.facts l h, ranged.fluents); consistent = ranged.consistent })

  pub first_least : pair_of (first_state lim t) ≡ least t
  unfolding pair_of least
  first_least = λ i. record { T = fun_ext (λ (f : ℕ). first_known (says_true f)) i; F = fun_ext (λ (f : ℕ). first_known (says_false f)) i }
