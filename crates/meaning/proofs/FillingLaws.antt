-- The fillings of a state, and what states share (FORMAT 22.2 to 22.4): a filling knows no less than its state, there is one, and a literal is known in what
-- states share exactly where it is known in each of them. By induction on the fluents that are filled, and on the marks. Assumes nothing.
use Prim.Native.Nat.{ℕ, zero, suc, ◌+◌, ◌<◌}
use native.Mathlib.Omega.{arith}
use native.Mathlib.Decide.{ℕ_discrete}
use native.Mathlib.Nat.{not-suc-le-zero, le_of_suc-le-suc}
use mathlib.Core.Path.{◌≡◌, refl, sym, ◌∙◌, ap}
use mathlib.Core.Bool.{true, false}
use mathlib.Core.List.{List, [], ◌∷◌, map}
use mathlib.Core.Logic.{inl, ⊎_elim}
use lib.ListN.{length, get_or, length-set}
use lib.Dec.{eqb}
use Rattle.meaning.specs.Tests.{both, each_of, Has}
use Rattle.meaning.specs.Limits
use Rattle.meaning.specs.Literals.{says_true, says_false, fluent_of}
use Rattle.meaning.specs.Requests.{Table}
use Rattle.meaning.specs.States.{State, mark_of, known, known_whether, told, state_after}
use Rattle.meaning.specs.ByCases.{upward, fillings, complete, shared_mark, shared_marks, after_each, after_cases}
use Rattle.meaning.proofs.TestLaws.{by-test, clash, both_left, both_right, each_has, has_left, has_split, has_map}
use Rattle.meaning.proofs.PickLaws.{pick_has, has-picked}
use Rattle.meaning.proofs.LiteralLaws.{fluent_true, fluent_false, complement_true, by_literal}
use Rattle.meaning.proofs.StateLaws.{known_true, known_false, known_one}
use Rattle.meaning.proofs.ToldLaws.{told_keeps}
use Rattle.meaning.proofs.PairLaws.{mark_by, marked_true, marked_false}
use Rattle.meaning.proofs.SensingLaws.{unknown_neither}

-- FILLINGS. What holds of a state and passes on to it told either literal of a fluent that is unknown, holds of each of its fillings.
module _ (P : State → Type 0) (tells : (l : ℕ) (s : State) → known_whether s (fluent_of l) ≡ false → P s → P (told l s)) where
  pub each_filling : (fs : List ℕ) (s : State) → P s → (u : State) → Has (fillings fs s) u → P u
  unfolding fillings
  each_filling [] s so u h = ⊎_elim (λ q. rw q so) absurd h
  each_filling (f ∷ fs) s so u h =
      has-picked (λ (xs : List State). Has xs u) (known_whether s f) _ _ h
      (λ _ k. each_filling fs s so u k)
      (λ off k.
      ⊎_elim
      (each_filling fs (told (says_true f) s) (tells (says_true f) s (rw (fluent_true f) off) so) u)
      (each_filling fs (told (says_false f) s) (tells (says_false f) s (rw (fluent_false f) off) so) u)
      (has_split (fillings fs (told (says_true f) s)) (fillings fs (told (says_false f) s)) u k))

-- A filling has the length of its state, and knows no less.
pub filling_length : (fs : List ℕ) (s u : State) → Has (fillings fs s) u → length u ≡ length s
unfolding told
filling_length fs s = each_filling (λ u. length u ≡ length s) (λ l v _ same. length-set v (fluent_of l) (mark_of l) ∙ same) fs s refl

pub filling_more : (fs : List ℕ) (s u : State) → Has (fillings fs s) u → (k : ℕ) → known s k ≡ true → known u k ≡ true
filling_more fs s u h k e = each_filling (λ v. known v k ≡ true) told_more fs s e u h
  where
    told_more : (l : ℕ) (v : State) → known_whether v (fluent_of l) ≡ false → known v k ≡ true → known (told l v) k ≡ true
    told_more l v off on =
        elim (ℕ_discrete (fluent_of k) (fluent_of l)) [
          | yes same ↦ clash on (unknown_neither v k (rw same off))
          | no other ↦ told_keeps l v k other ∙ on
        ]

-- There is one.
pub some_filling : (fs : List ℕ) (s : State) → (u : State) × Has (fillings fs s) u
unfolding fillings
some_filling [] s = (s, inl refl)
some_filling (f ∷ fs) s =
    pick_has (λ (xs : List State). (u : State) × Has xs u) (known_whether s f) _ _
    (λ _. some_filling fs s)
    (λ _. let w = some_filling fs (told (says_true f) s) in (w.0, has_left (fillings fs (told (says_true f) s)) (fillings fs (told (says_false f) s)) w.0 w.1))

-- WHAT STATES SHARE. The length, and each mark.
pub shared_length : (us : List State) (f : ℕ) (ms : List ℕ) → length (shared_marks us f ms) ≡ length ms
unfolding shared_marks
shared_length us f [] = refl
shared_length us f (m ∷ ms) = ap suc (shared_length us (f + 1) ms)

shared_from : (us : List State) (f : ℕ) (ms : List ℕ) (k : ℕ) → k < length ms → get_or (shared_marks us f ms) k Limits.unknown_mark ≡ shared_mark us (f + k)
unfolding shared_marks
shared_from us f [] k h = absurd (not-suc-le-zero h)
shared_from us f (m ∷ ms) zero h = ap (shared_mark us) (omega arith)
shared_from us f (m ∷ ms) (suc k) h = shared_from us (f + 1) ms k (le_of_suc-le-suc h) ∙ ap (shared_mark us) (omega arith)

module _ (us : List State) (s : State) where
  pub shared_at : (f : ℕ) → f < length s → get_or (shared_marks us 0 s) f Limits.unknown_mark ≡ mark_by (each_of (λ (u : State). known u (says_true f)) us) (each_of (λ (u : State). known u (says_false f)) us)
  unfolding shared_mark
  shared_at f near = shared_from us 0 s f near ∙ ap (shared_mark us) (omega arith)

  -- A literal of the state's fluents is known exactly where each of them, of which there is one, knows it.
  pub shared_known : (x : State) → Has us x → (l : ℕ) → fluent_of l < length s → known (shared_marks us 0 s) l ≡ each_of (λ (u : State). known u l) us
  shared_known x here =
      by_literal (λ l. fluent_of l < length s → known (shared_marks us 0 s) l ≡ each_of (λ (u : State). known u l) us)
      (λ f. rw (fluent_true f) λ near. known_true (shared_marks us 0 s) f ∙ ap (λ (m : ℕ). eqb m Limits.true_mark) (shared_at f near) ∙ marked_true _ _)
      (λ f. rw (fluent_false f) λ near. known_false (shared_marks us 0 s) f ∙ ap (λ (m : ℕ). eqb m Limits.false_mark) (shared_at f near) ∙ marked_false _ _ (not_both f))
    where
      not_both : (f : ℕ) → both (each_of (λ (u : State). known u (says_true f)) us) (each_of (λ (u : State). known u (says_false f)) us) ≡ false
      not_both f =
          by-test _
          (λ e. clash (each_has _ us x (both_right _ _ e) here) (sym (ap (known x) (complement_true f)) ∙ known_one x (says_true f) (each_has _ us x (both_left _ _ e) here)))
          (λ e. e)

-- THE STATE AFTER an action, by cases.
module _ (t : Table) (a : ℕ) (s : State) where
  pub cases_length : length (after_cases t a s) ≡ length s
  unfolding after_cases after_each
  cases_length = shared_length (map (state_after t a) (complete t s)) 0 s

  pub cases_known : (l : ℕ) → fluent_of l < length s → known (after_cases t a s) l ≡ each_of (λ (u : State). known u l) (map (state_after t a) (complete t s))
  unfolding after_cases after_each complete
  cases_known =
      let w = some_filling (upward 0 t.fluents) s in
      shared_known (map (state_after t a) (complete t s)) s (state_after t a w.0) (has_map (state_after t a) (complete t s) w.0 w.1)
