-- A sensing action: the readings of a state are the states told one literal of each sensed fluent that was unknown. So each is one of the
-- action's a-states, and whatever extends the state and has the sensed fluents true or false extends one of them. Assumes nothing.
use Prim.Native.Nat.{ℕ, suc, ◌+◌, ◌≤◌, ◌<◌}
use native.Mathlib.Omega.{arith}
use native.Mathlib.Decide.{ℕ_discrete}
use mathlib.Core.Path.{◌≡◌, refl, sym, ◌∙◌, ap, subst}
use mathlib.Core.Bool.{true, false}
use mathlib.Core.List.{List, [], ◌∷◌, map}
use mathlib.Core.Logic.{◌⊎◌, inl, inr, ⊎_elim}
use lib.ListN.{length}
use lib.Dec.{eqb}
use borrow.Author.Tests.{eqb-true, eq-eqb}
use Rattle.meaning.specs.Tests.{both, either, fails, Has}
use Rattle.meaning.specs.Literals.{says_true, says_false, fluent_of, complement, among}
use Rattle.meaning.specs.Requests.{Knowledge, Table}
use Rattle.meaning.specs.Lines.{knowledge_of, senses}
use Rattle.meaning.specs.States.{State, known, known_whether, told, told_all, unknown_from, unknown_sensed, Outcome, single, fork, readings}
use Rattle.meaning.specs.Paths.{Ending, arrives, meetings, arrivals}
use Rattle.meaning.specs.Approximation.{Pair, true_in, ◌≼◌, K, Sensed}
use Rattle.meaning.specs.Reported.{pair_of}
use Rattle.meaning.specs.Derivations.{states_of}
use Rattle.meaning.proofs.TestLaws.{by-test, clash, same_test, both_left, both_right, both_true, either_left, either_right, either_split, fails_true, fails_false, has_left, has_right, has_split, some_has, has_some, has_map, map_has}
use Rattle.meaning.proofs.PickLaws.{pick_has, has-picked}
use Rattle.meaning.proofs.ToldLaws.{Tellable, told_all_length, told_all_known}
use Rattle.meaning.proofs.EndLaws.{Ends, arrives_same, ends_one, ends_left, ends_right, ends_split}
use Rattle.meaning.proofs.PairLaws.{true_in_true, true_in_false, pair_disjoint, senses_pair}
use Rattle.meaning.proofs.LiteralLaws.{complement_other, fluent_true, fluent_false, by_literal, one_of_two, fluent_complement}

-- THE FLUENTS READ. No fluent stands twice.
abbrev pub Distinct : List ℕ → Type 0
Distinct [] = Unit {0}
Distinct (f ∷ fs) = (Has fs f → ⊥) × Distinct fs

-- A fluent, from low up to high, that is sensed and unknown.
record Unread (ks : List Knowledge) (s : State) (low high f : ℕ) : Type 0 where
  above : low ≤ f
  below : f < high
  sensed : senses ks f ≡ true
  unknown : known_whether s f ≡ false

module _ (ks : List Knowledge) (s : State) where
  unknown_has : (f : ℕ) (ms : List ℕ) (g : ℕ) → Has (unknown_from ks s f ms) g → Unread ks s f (f + length ms) g
  unfolding unknown_from
  unknown_has f [] g h = absurd h
  unknown_has f (m ∷ ms) g h =
      has-picked (λ xs. Has xs g) (both (senses ks f) (fails (known_whether s f))) _ _ h
      (λ e there. ⊎_elim (here e) (λ later. further (unknown_has (f + 1) ms g later)) there)
      (λ _ later. further (unknown_has (f + 1) ms g later))
    where
      here : both (senses ks f) (fails (known_whether s f)) ≡ true → g ≡ f → Unread ks s f (f + suc (length ms)) g
      here e q = record { above = omega arith; below = omega arith; sensed = rw q (both_left _ _ e); unknown = rw q (fails_true _ (both_right _ _ e)) }

      further : Unread ks s (f + 1) (f + 1 + length ms) g → Unread ks s f (f + suc (length ms)) g
      further u = record { above = omega arith; below = omega arith; sensed = u.sensed; unknown = u.unknown }

  has_unknown : (f : ℕ) (ms : List ℕ) (g : ℕ) → Unread ks s f (f + length ms) g → Has (unknown_from ks s f ms) g
  unfolding unknown_from
  has_unknown f [] g u = absurd (omega arith)
  has_unknown f (m ∷ ms) g u =
      elim (ℕ_discrete g f) [
        | yes q ↦ pick_has (λ xs. Has xs g) _ _ _ (λ _. inl q) (λ e. clash (rw q at reads) e)
        | no q ↦ pick_has (λ xs. Has xs g) _ _ _ (λ _. inr (has_unknown (f + 1) ms g (further q))) (λ _. has_unknown (f + 1) ms g (further q))
      ]
    where
      reads : both (senses ks g) (fails (known_whether s g)) ≡ true
      reads = both_true _ _ u.sensed (fails_false _ u.unknown)

      further : (g ≡ f → ⊥) → Unread ks s (f + 1) (f + 1 + length ms) g
      further q = record { above = omega arith; below = omega arith; sensed = u.sensed; unknown = u.unknown }

  pub unknown_distinct : (f : ℕ) (ms : List ℕ) → Distinct (unknown_from ks s f ms)
  unfolding unknown_from
  unknown_distinct f [] = tt
  unknown_distinct f (m ∷ ms) =
      pick_has Distinct _ _ _ (λ _. (λ h. let u = (unknown_has (f + 1) ms f h).above in omega arith, unknown_distinct (f + 1) ms)) (λ _. unknown_distinct (f + 1) ms)

-- Literals of distinct fluents are consistent.
distinct_consistent : (ls : List ℕ) → Distinct (map fluent_of ls) → (l : ℕ) → Has ls l → Has ls (complement l) → ⊥
distinct_consistent [] d l h k = h
distinct_consistent (x ∷ ls) d l (inl p) (inl q) = complement_other l (q ∙ sym p)
distinct_consistent (x ∷ ls) d l (inl p) (inr k) = d.0 (subst (Has (map fluent_of ls)) (fluent_complement l ∙ ap fluent_of p) (has_map fluent_of ls (complement l) k))
distinct_consistent (x ∷ ls) d l (inr h) (inl q) = d.0 (subst (Has (map fluent_of ls)) (sym (fluent_complement l) ∙ ap fluent_of q) (has_map fluent_of ls l h))
distinct_consistent (x ∷ ls) d l (inr h) (inr k) = distinct_consistent ls d.1 l h k

-- Each reading tells a literal of each fluent read.
readings_end : (fs : List ℕ) (s : State) (e : Ending State) → Ends (arrivals (readings fs s)) e → (ls : List ℕ) × (map fluent_of ls ≡ fs) × (e ≡ arrives (told_all ls s))
unfolding meetings readings told_all
readings_end [] s e (inl q) = ([], refl, q)
readings_end [] s e (inr none) = elim none [ ]
readings_end (f ∷ fs) s e h =
    ⊎_elim
    (λ k. let w = readings_end fs (told (says_true f) s) e k in (says_true f ∷ w.0, rw (fluent_true f, w.1), w.2))
    (λ k. let w = readings_end fs (told (says_false f) s) e k in (says_false f ∷ w.0, rw (fluent_false f, w.1), w.2))
    (ends_split (arrivals (readings fs (told (says_true f) s))) _ e h)

-- Whichever are told, a reading tells them.
readings_to : (ls : List ℕ) (s : State) → Ends (arrivals (readings (map fluent_of ls) s)) (arrives (told_all ls s))
unfolding meetings readings told_all
readings_to [] s = inl refl
readings_to (l ∷ ls) s =
    by_literal (λ k. Ends (arrivals (readings (fluent_of k ∷ map fluent_of ls) s)) (arrives (told_all ls (told k s))))
    (λ f. rw (fluent_true f) (ends_left (arrivals (readings (map fluent_of ls) (told (says_true f) s))) _ _ (readings_to ls (told (says_true f) s))))
    (λ f. rw (fluent_false f) (ends_right (arrivals (readings (map fluent_of ls) (told (says_true f) s))) _ _ (readings_to ls (told (says_false f) s))))
    l

-- Of fluents that a pair has true or false, it has a literal of each true.
followed : (δ : Pair) (fs : List ℕ) → ((f : ℕ) → Has fs f → either (δ.T f) (δ.F f) ≡ true) → (ls : List ℕ) × (map fluent_of ls ≡ fs) × ((l : ℕ) → Has ls l → true_in δ l ≡ true)
followed δ [] valued = ([], refl, λ l h. absurd h)
followed δ (f ∷ fs) valued =
    let w = followed δ fs (λ g h. valued g (inr h)) in
    ⊎_elim
    (λ e. (says_true f ∷ w.0, rw (fluent_true f, w.1), λ l. ⊎_elim (λ q. rw q (true_in_true δ f ∙ e)) (w.2 l)))
    (λ e. (says_false f ∷ w.0, rw (fluent_false f, w.1), λ l. ⊎_elim (λ q. rw q (true_in_false δ f ∙ e)) (w.2 l)))
    (either_split _ _ (valued f (inl refl)))

pub unknown_neither : (s : State) (l : ℕ) → known_whether s (fluent_of l) ≡ false → known s l ≡ false
unfolding known_whether
unknown_neither s =
    by_literal (λ l. known_whether s (fluent_of l) ≡ false → known s l ≡ false)
    (λ f. rw (fluent_true f) (λ e. by-test _ (λ k. clash (either_left _ _ k) e) (λ k. k)))
    (λ f. rw (fluent_false f) (λ e. by-test _ (λ k. clash (either_right _ _ k) e) (λ k. k)))

-- What is sensed is below the bound of the fluents of knowledge lines.
pub sensed_within : (t : Table) (a n : ℕ) → ((k : Knowledge) → Has t.knowledge k → k.fluent < n) → (f : ℕ) → K t a f ≡ true → f < n
unfolding K
sensed_within t a n within f e = let w = some_has _ t.knowledge e in subst (λ (g : ℕ). g < n) (eqb-true _ _ (both_right _ _ w.2)) (within w.0 w.1)

-- What is read is within the state, sensed and unknown.
pub read_is : (t : Table) (a : ℕ) (s : State) (f : ℕ) → Has (unknown_sensed t a s) f → (f < length s) × (K t a f ≡ true) × (known_whether s f ≡ false)
unfolding unknown_sensed
read_is t a s f h = let u = unknown_has (knowledge_of t a) s 0 s f h in (omega (arith, u.below), senses_pair t a f ∙ u.sensed, u.unknown)

module _ (t : Table) (a : ℕ) (s : State) (within : (k : Knowledge) → Has t.knowledge k → k.fluent < length s) where
  -- And whatever is sensed and unknown is read.
  is_read : (f : ℕ) → K t a f ≡ true → known_whether s f ≡ false → Has (unknown_sensed t a s) f
  unfolding unknown_sensed
  is_read f e u =
      has_unknown (knowledge_of t a) s 0 s f
      (record { above = omega arith; below = omega (arith, sensed_within t a (length s) within f e); sensed = sym (senses_pair t a f) ∙ e; unknown = u })

  module _ (ls : List ℕ) (one_each : map fluent_of ls ≡ unknown_sensed t a s) where
    told_read : (l : ℕ) → Has ls l → (fluent_of l < length s) × (K t a (fluent_of l) ≡ true) × (known_whether s (fluent_of l) ≡ false)
    told_read l h = read_is t a s (fluent_of l) (subst (λ (fs : List ℕ). Has fs (fluent_of l)) one_each (has_map fluent_of ls l h))

    can_be_told : Tellable s ls
    unfolding unknown_sensed
    can_be_told = record {
      within = λ l h. (told_read l h).0;
      free = λ l h. unknown_neither s (complement l) (rw (fluent_complement l) (told_read l h).2);
      consistent = distinct_consistent ls (subst Distinct (sym one_each) (unknown_distinct (knowledge_of t a) s 0 s));
    }

    -- A reading knows what the state knew and what it is told.
    known_split : (k : ℕ) → known (told_all ls s) k ≡ true → (known s k ≡ true) ⊎ Has ls k
    unfolding among
    known_split k e =
        ⊎_elim inl
        (λ m. let w = some_has _ ls m in inr (subst (Has ls) (sym (eqb-true _ _ w.2)) w.1))
        (either_split _ _ (sym (told_all_known ls s can_be_told k) ∙ e))

    known_kept : (k : ℕ) → known s k ≡ true → known (told_all ls s) k ≡ true
    known_kept k e = told_all_known ls s can_be_told k ∙ either_left _ _ e

    known_told : (k : ℕ) → Has ls k → known (told_all ls s) k ≡ true
    unfolding among
    known_told k h = told_all_known ls s can_be_told k ∙ either_right _ _ (has_some (eqb k) ls k h (eq-eqb k k refl))

    -- The fluents known are those known before and those sensed.
    domain_grows : (f : ℕ) → known_whether (told_all ls s) f ≡ either (known_whether s f) (K t a f)
    unfolding known_whether
    domain_grows f =
        same_test _ _
        (λ e. ⊎_elim (from _ (fluent_true f) (either_left _ _)) (from _ (fluent_false f) (either_right _ _)) (either_split _ _ e))
        (λ e. ⊎_elim kept sensed (either_split _ _ e))
      where
        from : (l : ℕ) → fluent_of l ≡ f → (known s l ≡ true → known_whether s f ≡ true)
            → known (told_all ls s) l ≡ true → either (known_whether s f) (K t a f) ≡ true
        from l q up e = ⊎_elim (λ k. either_left _ _ (up k)) (λ h. either_right _ _ (subst (λ (g : ℕ). K t a g ≡ true) q (told_read l h).1)) (known_split l e)

        kept : known_whether s f ≡ true → known_whether (told_all ls s) f ≡ true
        kept e = ⊎_elim (λ k. either_left _ _ (known_kept _ k)) (λ k. either_right _ _ (known_kept _ k)) (either_split _ _ e)

        sensed : K t a f ≡ true → known_whether (told_all ls s) f ≡ true
        sensed e =
            by-test _ kept λ unread.
            let w = map_has fluent_of ls f (subst (λ (fs : List ℕ). Has fs f) (sym one_each) (is_read f e unread)) in
            ⊎_elim
            (λ q. either_left _ _ (known_told (says_true f) (subst (Has ls) (q ∙ ap says_true (sym w.2)) w.1)))
            (λ q. either_right _ _ (known_told (says_false f) (subst (Has ls) (q ∙ ap says_false (sym w.2)) w.1)))
            (one_of_two w.0)

    -- It is one of the action's a-states.
    reading_sensed : Sensed t a (pair_of s) (pair_of (told_all ls s))
    unfolding pair_of known_whether
    reading_sensed = record {
      disjoint = pair_disjoint (told_all ls s);
      extends = record { T = λ f. known_kept (says_true f); F = λ f. known_kept (says_false f) };
      domain = domain_grows;
    }

    reading_below : (δ : Pair) → pair_of s ≼ δ → ((l : ℕ) → Has ls l → true_in δ l ≡ true) → pair_of (told_all ls s) ≼ δ
    unfolding pair_of
    reading_below δ more there = record {
      T = λ f e. ⊎_elim (more.T f) (λ h. sym (true_in_true δ f) ∙ there (says_true f) h) (known_split (says_true f) e);
      F = λ f e. ⊎_elim (more.F f) (λ h. sym (true_in_false δ f) ∙ there (says_false f) h) (known_split (says_false f) e);
    }

  -- Each reading is one of the action's a-states.
  pub reading_is : (e : Ending State) → Ends (arrivals (readings (unknown_sensed t a s) s)) e → (u : State) × (e ≡ arrives u) × (length u ≡ length s) × Sensed t a (pair_of s) (pair_of u)
  reading_is e h =
      let w = readings_end (unknown_sensed t a s) s e h in
      (told_all w.0 s, w.2, told_all_length w.0 s, reading_sensed w.0 w.1)

  -- Above the state, where the sensed fluents are known, there is a reading below.
  pub reading_follows : (δ : Pair) → pair_of s ≼ δ → ((f : ℕ) → K t a f ≡ true → either (δ.T f) (δ.F f) ≡ true)
      → (u : State) × Ends (arrivals (readings (unknown_sensed t a s) s)) (arrives u) × (length u ≡ length s) × (pair_of u ≼ δ)
  reading_follows δ more valued =
      let w = followed δ (unknown_sensed t a s) (λ f h. valued f (read_is t a s f h).1) in
      (told_all w.0 s, subst (λ (fs : List ℕ). Ends (arrivals (readings fs s)) (arrives (told_all w.0 s))) w.1 (readings_to w.0 s), told_all_length w.0 s, reading_below w.0 w.1 δ more w.2)

-- The states that paths arrive in are those of the outcome.
pub arrived : (o : Outcome State) (u : State) → Ends (arrivals o) (arrives u) → Has (states_of o) u
unfolding meetings states_of
arrived (single s) u h = inl (arrives_same (ends_one h))
arrived (fork o p) u h = ⊎_elim (λ k. has_left (states_of o) (states_of (p tt)) u (arrived o u k)) (λ k. has_right (states_of o) (states_of (p tt)) u (arrived (p tt) u k)) (ends_split (arrivals o) (arrivals (p tt)) (arrives u) h)

pub arrives_in : (o : Outcome State) (u : State) → Has (states_of o) u → Ends (arrivals o) (arrives u)
unfolding meetings states_of
arrives_in (single s) u h = ⊎_elim (λ q. inl (ap arrives q)) absurd h
arrives_in (fork o p) u h =
    ⊎_elim (λ k. ends_left (arrivals o) (arrivals (p tt)) (arrives u) (arrives_in o u k)) (λ k. ends_right (arrivals o) (arrivals (p tt)) (arrives u) (arrives_in (p tt) u k))
    (has_split (states_of o) (states_of (p tt)) u h)
