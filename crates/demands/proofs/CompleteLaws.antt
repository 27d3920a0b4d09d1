-- Complete fillings and completions (FORMAT 22.2): as an a-state each complete filling of a state completes it, and below whatever extends the state and has
-- every fluent of the table true or false there is one. By induction on the fluents that are filled. Assumes nothing.
use Prim.Native.Nat.{ℕ, zero, suc, ◌+◌, ◌≤◌, ◌<◌}
use native.Mathlib.Omega.{arith}
use native.Mathlib.Decide.{ℕ_discrete}
use mathlib.Core.Path.{◌≡◌, refl, sym, ◌∙◌, ap}
use mathlib.Core.Bool.{Bool, true, false}
use mathlib.Core.List.{List, [], ◌∷◌}
use mathlib.Core.Logic.{inl, inr, ⊎_elim}
use lib.ListN.{length, length-set}
use lib.Dec.{ltb, eqb}
use borrow.Author.Tests.{eqb-true, eq-eqb, ne_eqb, ltb-true, lt-ltb}
use Rattle.meaning.specs.Tests.{both, either, fails, some_of, Has}
use Rattle.meaning.specs.Literals.{says_true, says_false, fluent_of, among}
use Rattle.meaning.specs.Requests.{Table}
use Rattle.meaning.specs.States.{State, mark_of, known, known_whether, told}
use Rattle.meaning.specs.ByCases.{upward, fillings, complete}
use Rattle.meaning.specs.Approximation.{Pair, Disjoint, true_in, ◌≼◌}
use Rattle.meaning.specs.CaseApproximation.{Completes}
use Rattle.meaning.specs.Reported.{pair_of}
use Rattle.meaning.proofs.TestLaws.{by-test, clash, same_test, both_left, both_right, both_true, either_left, either_right, either_split, fails_true, has_left, has_right, has_split}
use Rattle.meaning.proofs.PickLaws.{pick_has, has-picked}
use Rattle.meaning.proofs.LiteralLaws.{fluent_true, fluent_false, one_of_two, same_fluent, among_has, has_among}
use Rattle.meaning.proofs.StateLaws.{known_one}
use Rattle.meaning.proofs.ToldLaws.{either_none, either_assoc, told_here, told_keeps}
use Rattle.meaning.proofs.PairLaws.{true_in_true, true_in_false, true_grows, pair_disjoint, true_in_pair}
use Rattle.meaning.proofs.FillingLaws.{filling_more}

-- THE FLUENTS of a table.
upward_has : (f n g : ℕ) → Has (upward f n) g → (f ≤ g) × (g < f + n)
unfolding upward
upward_has f zero g h = absurd h
upward_has f (suc n) g (inl q) = (omega (arith, q), omega (arith, q))
upward_has f (suc n) g (inr h) = let w = upward_has (f + 1) n g h in (omega (arith, w.0), omega (arith, w.1))

has_upward : (f n g : ℕ) → f ≤ g → g < f + n → Has (upward f n) g
unfolding upward
has_upward f zero g low high = absurd (omega (arith, low, high))
has_upward f (suc n) g low high = elim (ℕ_discrete g f) [ yes q ↦ inl q | no other ↦ inr (has_upward (f + 1) n g (omega (arith, low, other)) (omega (arith, high))) ]

among_upward : (n g : ℕ) → among g (upward 0 n) ≡ ltb g n
among_upward n g =
    same_test _ _
    (λ e. let w = upward_has 0 n g (among_has g (upward 0 n) e) in lt-ltb g n (omega (arith, w.1)))
    (λ e. has_among g (upward 0 n) (has_upward 0 n g (omega arith) (omega (arith, ltb-true g n e))))

-- ONE LITERAL TOLD, of a fluent within the state.
module _ (l : ℕ) (s : State) (near : fluent_of l < length s) where
  told_whether : (g : ℕ) → known_whether (told l s) g ≡ either (known_whether s g) (eqb g (fluent_of l))
  unfolding known_whether
  told_whether g = elim (ℕ_discrete g (fluent_of l)) [ yes same ↦ here same | no other ↦ elsewhere other ]
    where
      here : g ≡ fluent_of l → known_whether (told l s) g ≡ either (known_whether s g) (eqb g (fluent_of l))
      here same =
          ⊎_elim
          (λ q. either_left _ _ (ap (known (told l s)) (ap says_true same ∙ sym q) ∙ told_here l s near))
          (λ q. either_right _ _ (ap (known (told l s)) (ap says_false same ∙ sym q) ∙ told_here l s near))
          (one_of_two l)
          ∙ sym (either_right _ _ (eq-eqb g (fluent_of l) same))

      elsewhere : (g ≡ fluent_of l → ⊥) → known_whether (told l s) g ≡ either (known_whether s g) (eqb g (fluent_of l))
      elsewhere other =
          rw (told_keeps l s (says_true g) (λ q. other (sym (fluent_true g) ∙ q)), told_keeps l s (says_false g) (λ q. other (sym (fluent_false g) ∙ q)), ne_eqb g (fluent_of l) other)
          (sym (either_none _))

  -- What holds of it and of what the state knows, holds of what is then known.
  told_passes : (test : ℕ → Bool) → test l ≡ true → ((k : ℕ) → known s k ≡ true → test k ≡ true) → (k : ℕ) → known (told l s) k ≡ true → test k ≡ true
  told_passes test holds passes k e =
      elim (ℕ_discrete (fluent_of k) (fluent_of l)) [
        | yes same ↦ ⊎_elim (λ q. rw q holds) (λ q. clash (rw q at e) (known_one (told l s) l (told_here l s near))) (same_fluent k l same)
        | no other ↦ passes k (sym (told_keeps l s k other) ∙ e)
      ]

-- FILLINGS over fluents within the state.
abbrev Within : List ℕ → State → Type 0
Within fs s = (f : ℕ) → Has fs f → f < length s

told_within : (l : ℕ) (fs : List ℕ) (s : State) → Within fs s → Within fs (told l s)
unfolding told
told_within l fs s within f h = rw (length-set s (fluent_of l) (mark_of l)) (within f h)

-- Known whether are the fluents that were, and those that are filled.
filling_whether : (fs : List ℕ) (s : State) → Within fs s → (u : State) → Has (fillings fs s) u → (g : ℕ) → known_whether u g ≡ either (known_whether s g) (among g fs)
unfolding fillings among some_of either
filling_whether [] s within u h g = ⊎_elim (λ q. rw q (sym (either_none (known_whether s g)))) absurd h
filling_whether (f ∷ fs) s within u h g =
    has-picked (λ (us : List State). Has us u) (known_whether s f) _ _ h
    (λ on k. filling_whether fs s (λ i m. within i (inr m)) u k g ∙ already on)
    (λ _ k.
    ⊎_elim
    (λ m. filling_whether fs (told (says_true f) s) (told_within (says_true f) fs s (λ i n. within i (inr n))) u m g ∙ side (says_true f) (fluent_true f))
    (λ m. filling_whether fs (told (says_false f) s) (told_within (says_false f) fs s (λ i n. within i (inr n))) u m g ∙ side (says_false f) (fluent_false f))
    (has_split (fillings fs (told (says_true f) s)) (fillings fs (told (says_false f) s)) u k))
  where
    already : known_whether s f ≡ true → either (known_whether s g) (among g fs) ≡ either (known_whether s g) (either (eqb g f) (among g fs))
    already on =
        by-test (eqb g f)
        (λ e. let here : known_whether s g ≡ true = ap (known_whether s) (eqb-true g f e) ∙ on in either_left _ _ here ∙ sym (either_left _ _ here))
        (λ e. rw e)

    side : (l : ℕ) → fluent_of l ≡ f → either (known_whether (told l s) g) (among g fs) ≡ either (known_whether s g) (either (eqb g f) (among g fs))
    side l q =
        ap (λ (x : Bool). either x (among g fs)) (told_whether l s (rw q (within f (inl refl))) g ∙ ap (λ (i : ℕ). either (known_whether s g) (eqb g i)) q)
        ∙ either_assoc (known_whether s g) (eqb g f) (among g fs)

-- Where a test holds of what the state knows, and of a literal of each of the fluents, it holds of what some filling knows.
filling_passes : (test : ℕ → Bool) (fs : List ℕ) (s : State) → Within fs s → ((k : ℕ) → known s k ≡ true → test k ≡ true)
    → ((f : ℕ) → Has fs f → either (test (says_true f)) (test (says_false f)) ≡ true) → (u : State) × Has (fillings fs s) u × ((k : ℕ) → known u k ≡ true → test k ≡ true)
unfolding fillings
filling_passes test [] s within passes valued = (s, inl refl, passes)
filling_passes test (f ∷ fs) s within passes valued =
    pick_has (λ (us : List State). (u : State) × Has us u × ((k : ℕ) → known u k ≡ true → test k ≡ true)) (known_whether s f) _ _
    (λ _. filling_passes test fs s (λ i m. within i (inr m)) passes (λ i m. valued i (inr m)))
    (λ _.
    ⊎_elim
    (λ e. let w = filling_passes test fs (told (says_true f) s) (told_within (says_true f) fs s (λ i m. within i (inr m))) (told_passes (says_true f) s (rw (fluent_true f) (within f (inl refl))) test e passes) (λ i m. valued i (inr m)) in
    (w.0, has_left (fillings fs (told (says_true f) s)) (fillings fs (told (says_false f) s)) w.0 w.1, w.2))
    (λ e. let w = filling_passes test fs (told (says_false f) s) (told_within (says_false f) fs s (λ i m. within i (inr m))) (told_passes (says_false f) s (rw (fluent_false f) (within f (inl refl))) test e passes) (λ i m. valued i (inr m)) in
    (w.0, has_right (fillings fs (told (says_true f) s)) (fillings fs (told (says_false f) s)) w.0 w.1, w.2))
    (either_split _ _ (valued f (inl refl))))

-- COMPLETE FILLINGS of a state that has all fluents of the table.
module _ (t : Table) (s : State) (wide : t.fluents ≤ length s) where
  fluents_within : Within (upward 0 t.fluents) s
  fluents_within f h = omega (arith, (upward_has 0 t.fluents f h).1, wide)

  -- Each completes the state.
  pub filling_completes : (u : State) → Has (complete t s) u → Completes t (pair_of s) (pair_of u)
  unfolding complete pair_of known_whether
  filling_completes u h = record {
    disjoint = pair_disjoint u;
    extends = record { T = λ f. filling_more (upward 0 t.fluents) s u h (says_true f); F = λ f. filling_more (upward 0 t.fluents) s u h (says_false f) };
    domain = λ f. filling_whether (upward 0 t.fluents) s fluents_within u h f ∙ ap (either (known_whether s f)) (among_upward t.fluents f);
  }

  -- There is one below whatever extends the state and has each fluent of the table true or false.
  pub filling_below : (δ : Pair) → pair_of s ≼ δ → ((f : ℕ) → f < t.fluents → either (δ.T f) (δ.F f) ≡ true) → (u : State) × Has (complete t s) u × (pair_of u ≼ δ)
  unfolding complete pair_of
  filling_below δ more valued =
      let w =
      filling_passes (true_in δ) (upward 0 t.fluents) s fluents_within (λ k e. true_grows more k (true_in_pair s k ∙ e))
      (λ f h. rw (true_in_true δ f, true_in_false δ f) (valued f (omega (arith, (upward_has 0 t.fluents f h).1)))) in
      (w.0, w.1, record { T = λ f e. sym (true_in_true δ f) ∙ w.2 (says_true f) e; F = λ f e. sym (true_in_false δ f) ∙ w.2 (says_false f) e })

-- COMPLETIONS have each fluent of the table true or false.
pub completed : (t : Table) (σ δ : Pair) → Completes t σ δ → (f : ℕ) → f < t.fluents → either (δ.T f) (δ.F f) ≡ true
completed t σ δ c f near = c.domain f ∙ either_right _ _ (lt-ltb f t.fluents near)

-- Each a-state has one.
filled : (x y z : Bool) → either (either x (both z (fails y))) y ≡ either (either x y) z
unfolding either both fails
filled true y z = refl
filled false true true = refl
filled false true false = refl
filled false false true = refl
filled false false false = refl

pub some_completion : (t : Table) (σ : Pair) → Disjoint σ → (δ : Pair) × Completes t σ δ
some_completion t σ apart = (
  record { T = λ f. either (σ.T f) (both (ltb f t.fluents) (fails (σ.F f))); F = σ.F },
  record {
    disjoint = λ f. by-test _
        (λ e. ⊎_elim (λ x. clash (both_true _ _ x (both_right _ _ e)) (apart f)) (λ x. clash (both_right _ _ e) (fails_true _ (both_right _ _ x))) (either_split _ _ (both_left _ _ e)))
        (λ e. e);
    extends = record { T = λ f e. either_left _ _ e; F = λ f e. e };
    domain = λ f. filled (σ.T f) (σ.F f) (ltb f t.fluents);
  },
)
