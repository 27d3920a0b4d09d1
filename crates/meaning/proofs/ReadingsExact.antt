-- Rules 3 and 10: the test is the relation. The readings that the test goes through, each with what it says of the sensed fluents, are all the
-- sets of the relation, and they come in its order; two lists of all these sets in this order are the same, since the first of each could
-- only come later in the other. Assumes nothing.
use Prim.Native.Nat.{ℕ, suc, ◌+◌, ◌^◌, ◌<◌}
use native.Mathlib.Omega.{arith}
use native.Mathlib.Nat.{pow-suc}
use native.Mathlib.Decide.{dec_lt}
use mathlib.Core.Path.{◌≡◌, refl, sym, ◌∙◌, ap, subst}
use mathlib.Core.Bool.{Bool, true, false, false≢true}
use mathlib.Core.List.{List, [], ◌∷◌, ◌++◌, map}
use mathlib.Core.Logic.{◌⊎◌, ◌↔◌, inl, inr, ⊎_elim}
use lib.ListN.{length, length-append, length-set}
use lib.Dec.{eqb}
use borrow.Author.Tests.{eqb-true, eqb-false}
use Rattle.meaning.specs.Tests.{both, either, pick, those_of, Each, Some, Has}
use Rattle.meaning.specs.Limits.{Limits}
use Rattle.meaning.specs.Literals.{says_true, says_false, fluent_of, complement, among}
use Rattle.meaning.specs.Requests.{Knowledge, Table, Sequence, done, item, act, branching, unplaced}
use Rattle.meaning.specs.Lines.{knowledge_of, senses}
use Rattle.meaning.specs.States.{State, mark_of, known, told, state_of, unknown_from, unknown_sensed, readings}
use Rattle.meaning.specs.Approximation.{Pair, ◌≼◌, K, Sensed}
use Rattle.meaning.specs.Derivations.{Conclusion, Line, literals_of, states_of, each_reads, reads, senses_first, rule_3}
use Rattle.meaning.specs.Rules.{◌∈◌, ◌≐◌, Consistent, fln, a_state, SamePlan, SameConclusion, ReadingOf, Before, Ordered, AllReadings, EachClaims, Rule3}
use Rattle.meaning.specs.Reported.{pair_of}
use Rattle.meaning.proofs.TestLaws.{by-test, clash, same_test, both_left, both_right, both_true, either_left, either_right, either_split, pick_true, pick_false, has_split, some_has, has_some, some_those}
use Rattle.meaning.proofs.PickLaws.{pick_has}
use Rattle.meaning.proofs.LiteralLaws.{fluent_true, fluent_false, complement_true, complement_false, by_literal}
use Rattle.meaning.proofs.PairLaws.{true_in_pair, pair_disjoint, not_both, sensing_pair}
use Rattle.meaning.proofs.ToldLaws.{told_here, told_elsewhere, state_length}
use Rattle.meaning.proofs.SensingLaws.{read_is, reading_is, reading_follows, arrived, arrives_in}
use Rattle.meaning.proofs.EndLaws.{arrives_same}
use Rattle.meaning.proofs.PlacelessLaws.{unplaced_line, unplaced_lines, senses_placeless}
use Rattle.meaning.proofs.SetLaws.{among_left, among_right, among_split, ≐_refl, ≐_sym, ≐_trans, ≐_among, Ascending, ascending_from, literals_ascend, literals_among}
use Rattle.meaning.proofs.RulesExact.{ConclusionAscends, Proper, conclusion_self, conclusions_meet, says_exactly, start_state, runs_exactly}

-- THE ORDER of sets, none of which holds a literal beside its complement.
before_same : (U U' W W' : List ℕ) → U ≐ U' → W ≐ W' → Before U W → Before U' W'
before_same U U' W W' u w b = record {
  fluent = b.fluent;
  true_first = u.0 _ b.true_first;
  false_second = w.0 _ b.false_second;
  alike = λ f h. let a = b.alike f h in (sym (≐_among U U' u _) ∙ a.0 ∙ ≐_among W W' w _, sym (≐_among U U' u _) ∙ a.1 ∙ ≐_among W W' w _);
}

not_both_of : (U : List ℕ) → Consistent U → (f : ℕ) → says_true f ∈ U → says_false f ∈ U → ⊥
not_both_of U c f t u = c (says_true f) t (subst (λ (l : ℕ). l ∈ U) (sym (complement_true f)) u)

before_other : (U W : List ℕ) → Consistent U → Before U W → U ≐ W → ⊥
before_other U W c b e = not_both_of U c b.fluent b.true_first (e.1 _ b.false_second)

-- No two sets are each before the other: at the smaller of the two fluents they differ by the one order and agree by the other.
before_once : (U W : List ℕ) → Consistent U → Consistent W → Before U W → Before W U → ⊥
before_once U W c d b r =
    elim (dec_lt b.fluent r.fluent) [
      | yes less ↦ not_both_of W d b.fluent ((r.alike b.fluent less).0 ∙ b.true_first) b.false_second
      | no not-less ↦ elim (dec_lt r.fluent b.fluent) [
        | yes less ↦ not_both_of U c r.fluent ((b.alike r.fluent less).0 ∙ r.true_first) r.false_second
        | no neither ↦ not_both_of U c b.fluent b.true_first (subst (λ (f : ℕ). says_false f ∈ U) (omega arith) r.false_second)
      ]
    ]

later_before : (U : List ℕ) (Us : List (List ℕ)) → Each (Before U) Us → (Z : List ℕ) → Some (λ W. Z ≐ W) Us → Before U Z
later_before U [] b Z s = absurd s
later_before U (W ∷ Us) b Z (inl e) = before_same U U W Z (≐_refl U) (≐_sym Z W e) b.0
later_before U (W ∷ Us) b Z (inr s) = later_before U Us b.1 Z s

-- The same sets one by one.
abbrev Alike : List (List ℕ) → List (List ℕ) → Type 0
Alike [] [] = Unit {0}
Alike [] (W ∷ Ws) = ⊥
Alike (U ∷ Us) [] = ⊥
Alike (U ∷ Us) (W ∷ Ws) = (U ≐ W) × Alike Us Ws

abbrev Within : List (List ℕ) → List (List ℕ) → Type 0
Within Us Ws = (Z : List ℕ) → Some (λ U. Z ≐ U) Us → Some (λ W. Z ≐ W) Ws

ordered_once : (Us Ws : List (List ℕ)) → Each Consistent Us → Each Consistent Ws → Ordered Us → Ordered Ws → Within Us Ws → Within Ws Us → Alike Us Ws
ordered_once [] [] c d a b there back = tt
ordered_once [] (W ∷ Ws) c d a b there back = absurd (back W (inl (≐_refl W)))
ordered_once (U ∷ Us) [] c d a b there back = absurd (there U (inl (≐_refl U)))
ordered_once (U ∷ Us) (W ∷ Ws) c d a b there back =
    (same, ordered_once Us Ws c.1 d.1 a.1 b.1 (later U W Us Ws c.0 same a.0 there) (later W U Ws Us d.0 (≐_sym U W same) b.0 back))
  where
    same : U ≐ W
    same =
        ⊎_elim (λ e. e)
        (λ s. ⊎_elim (≐_sym W U) (λ r. absurd (before_once U W c.0 d.0 (later_before U Us a.0 W r) (later_before W Ws b.0 U s))) (back W (inl (≐_refl W))))
        (there U (inl (≐_refl U)))

    later : (U W : List ℕ) (Us Ws : List (List ℕ)) → Consistent U → U ≐ W → Each (Before U) Us → Within (U ∷ Us) (W ∷ Ws) → Within Us Ws
    later U W Us Ws c e b into Z s = ⊎_elim (λ q. absurd (before_other U Z c (later_before U Us b Z s) (≐_trans U W Z e (≐_sym Z W q)))) (λ r. r) (into Z (inr s))

-- Two ordered lists, the first of them before the second, are one.
module _ {A : Type 0} (g : A → List ℕ) where
  each_joined : (P : List ℕ → Type 0) (xs ys : List A) → Each P (map g xs) → ((y : A) → Has ys y → P (g y)) → Each P (map g (xs ++ ys))
  each_joined P [] [] h k = tt
  each_joined P [] (y ∷ ys) h k = (k y (inl refl), each_joined P [] ys tt (λ z m. k z (inr m)))
  each_joined P (x ∷ xs) ys h k = (h.0, each_joined P xs ys h.1 k)

  ordered_joined : (xs ys : List A) → Ordered (map g xs) → Ordered (map g ys) → ((x y : A) → Has xs x → Has ys y → Before (g x) (g y)) → Ordered (map g (xs ++ ys))
  ordered_joined [] ys a b h = b
  ordered_joined (x ∷ xs) ys a b h = (each_joined (Before (g x)) xs ys a.0 (λ y m. h x y (inl refl) m), ordered_joined xs ys a.1 b (λ z y m n. h z y (inr m) n))

  each_mapped : (P : List ℕ → Type 0) (xs : List A) → ((x : A) → Has xs x → P (g x)) → Each P (map g xs)
  each_mapped P [] h = tt
  each_mapped P (x ∷ xs) h = (h x (inl refl), each_mapped P xs (λ y m. h y (inr m)))

  some_mapped : (P : List ℕ → Type 0) (xs : List A) (x : A) → Has xs x → P (g x) → Some P (map g xs)
  some_mapped P [] x h p = absurd h
  some_mapped P (y ∷ ys) x (inl q) p = inl (subst (λ (z : A). P (g z)) q p)
  some_mapped P (y ∷ ys) x (inr h) p = inr (some_mapped P ys x h p)

-- THE FLUENTS READ ascend.
unknown_ascends : (ks : List Knowledge) (s : State) (f : ℕ) (ms : List ℕ) → Ascending f (unknown_from ks s f ms)
unfolding unknown_from
unknown_ascends ks s f [] = tt
unknown_ascends ks s f (m ∷ ms) =
    let rest = unknown_from ks s (f + 1) ms in
    let ascends = unknown_ascends ks s (f + 1) ms in
    pick_has (Ascending f) _ _ _ (λ _. (omega arith, ascends)) (λ _. ascending_from (f + 1) f rest (omega arith) ascends)

-- A reading leaves all as it was below the fluents read.
reading_keeps : (fs : List ℕ) (floor : ℕ) (s u : State) → Ascending floor fs → ((f : ℕ) → Has fs f → f < length s) → Has (states_of (readings fs s)) u
    → (l : ℕ) → fluent_of l < floor → known u l ≡ known s l
unfolding states_of readings told
reading_keeps [] floor s u a near h l low = ap (λ (v : State). known v l) (⊎_elim (λ q. q) absurd h)
reading_keeps (f ∷ fs) floor s u a near h l low =
    ⊎_elim
    (λ k. reading_keeps fs (f + 1) (told (says_true f) s) u a.1 (kept (says_true f)) k l (let g = a.0 in omega arith) ∙ told_elsewhere (says_true f) s (at (says_true f) (fluent_true f)) l (other (says_true f) (fluent_true f)))
    (λ k. reading_keeps fs (f + 1) (told (says_false f) s) u a.1 (kept (says_false f)) k l (let g = a.0 in omega arith) ∙ told_elsewhere (says_false f) s (at (says_false f) (fluent_false f)) l (other (says_false f) (fluent_false f)))
    (has_split (states_of (readings fs (told (says_true f) s))) _ u h)
  where
    kept : (k g : ℕ) → Has fs g → g < length (told k s)
    kept k g m = subst (λ (n : ℕ). g < n) (sym (length-set s (fluent_of k) (mark_of k))) (near g (inr m))

    at : (k : ℕ) → fluent_of k ≡ f → fluent_of k < length s
    at k q = subst (λ (g : ℕ). g < length s) (sym q) (near f (inl refl))

    other : (k : ℕ) → fluent_of k ≡ f → fluent_of l ≡ fluent_of k → ⊥
    other k q e = let g = a.0 in omega arith

-- THE READINGS of an action, and what each says of the fluents that the action determines.
among_those : (p : ℕ → Bool) (l : ℕ) (X : List ℕ) → among l (those_of p X) ≡ both (p l) (among l X)
unfolding among
among_those p l X =
    some_those p (eqb l) X
    ∙ same_test _ _
    (λ e. let w = some_has _ X e in let same : l ≡ w.0 = eqb-true l w.0 (both_right _ _ w.2) in
    both_true _ _ (subst (λ (k : ℕ). p k ≡ true) (sym same) (both_left _ _ w.2)) (has_some (eqb l) X w.0 w.1 (both_right _ _ w.2)))
    (λ e. let w = some_has (eqb l) X (both_right _ _ e) in
    has_some _ X w.0 w.1 (both_true _ _ (subst (λ (k : ℕ). p k ≡ true) (eqb-true l w.0 w.2) (both_left _ _ e)) w.2))

module _ (t : Table) (a : ℕ) where
  unfoldable sensed_in : State → List ℕ
  sensed_in u = those_of (λ l. K t a (fluent_of l)) (literals_of u)

  sensed_among : (u : State) (l : ℕ) → among l (sensed_in u) ≡ both (K t a (fluent_of l)) (known u l)
  unfolding sensed_in
  sensed_among u l = among_those (λ k. K t a (fluent_of k)) l (literals_of u) ∙ ap (both (K t a (fluent_of l))) (literals_among u l)

  sensed_true : (u : State) (f : ℕ) → among (says_true f) (sensed_in u) ≡ both (K t a f) (known u (says_true f))
  sensed_true u f = sensed_among u (says_true f) ∙ ap (λ (g : ℕ). both (K t a g) (known u (says_true f))) (fluent_true f)

  sensed_false : (u : State) (f : ℕ) → among (says_false f) (sensed_in u) ≡ both (K t a f) (known u (says_false f))
  sensed_false u f = sensed_among u (says_false f) ∙ ap (λ (g : ℕ). both (K t a g) (known u (says_false f))) (fluent_false f)

  -- True before false, fluent by fluent.
  readings_ordered : (fs : List ℕ) (floor : ℕ) (s : State) → Ascending floor fs → ((f : ℕ) → Has fs f → (f < length s) × (K t a f ≡ true)) → Ordered (map sensed_in (states_of (readings fs s)))
  unfolding states_of readings told
  readings_ordered [] floor s up read = (tt, tt)
  readings_ordered (f ∷ fs) floor s up read =
      ordered_joined sensed_in (states_of (readings fs (told (says_true f) s))) (states_of (readings fs (told (says_false f) s)))
      (readings_ordered fs (f + 1) (told (says_true f) s) up.1 (kept (says_true f)))
      (readings_ordered fs (f + 1) (told (says_false f) s) up.1 (kept (says_false f)))
      λ u w at_first at_last.
      let below_first : (l : ℕ) → fluent_of l < f + 1 → known u l ≡ known (told (says_true f) s) l = λ l low. reading_keeps fs (f + 1) (told (says_true f) s) u up.1 (λ g m. (kept (says_true f) g m).0) at_first l low in
      let below_last : (l : ℕ) → fluent_of l < f + 1 → known w l ≡ known (told (says_false f) s) l = λ l low. reading_keeps fs (f + 1) (told (says_false f) s) w up.1 (λ g m. (kept (says_false f) g m).0) at_last l low in
      record {
        fluent = f;
        true_first = sensed_true u f ∙ both_true _ _ (read f (inl refl)).1 (below_first (says_true f) (next (fluent_true f)) ∙ told_here (says_true f) s (at (says_true f) (fluent_true f)));
        false_second = sensed_false w f ∙ both_true _ _ (read f (inl refl)).1 (below_last (says_false f) (next (fluent_false f)) ∙ told_here (says_false f) s (at (says_false f) (fluent_false f)));
        alike = λ g less. (
          sensed_true u g ∙ ap (both (K t a g)) (same u w (says_true g) g (fluent_true g) less (below_first _) (below_last _)) ∙ sym (sensed_true w g),
          sensed_false u g ∙ ap (both (K t a g)) (same u w (says_false g) g (fluent_false g) less (below_first _) (below_last _)) ∙ sym (sensed_false w g),
        );
      }
    where
      kept : (k g : ℕ) → Has fs g → (g < length (told k s)) × (K t a g ≡ true)
      kept k g m = let r = read g (inr m) in (subst (λ (n : ℕ). g < n) (sym (length-set s (fluent_of k) (mark_of k))) r.0, r.1)

      at : (k : ℕ) → fluent_of k ≡ f → fluent_of k < length s
      at k q = subst (λ (g : ℕ). g < length s) (sym q) (read f (inl refl)).0

      next : {k : ℕ} → k ≡ f → k < f + 1
      next q = omega arith

      elsewhere : (k l g : ℕ) → fluent_of k ≡ f → fluent_of l ≡ g → g < f → known (told k s) l ≡ known s l
      elsewhere k l g q e less = told_elsewhere k s (at k q) l (λ same. omega arith)

      same : (u w : State) (l g : ℕ) → fluent_of l ≡ g → g < f → (fluent_of l < f + 1 → known u l ≡ known (told (says_true f) s) l) → (fluent_of l < f + 1 → known w l ≡ known (told (says_false f) s) l) → known u l ≡ known w l
      same u w l g e less one two =
          one (omega arith) ∙ elsewhere (says_true f) l g (fluent_true f) e less ∙ sym (elsewhere (says_false f) l g (fluent_false f) e less) ∙ sym (two (omega arith))

-- What each reading says of them.
abbrev read_sets : Table → ℕ → State → List (List ℕ)
read_sets t a s = map (sensed_in t a) (states_of (readings (unknown_sensed t a s) s))

module _ (t : Table) (a : ℕ) (s : State) (X : List ℕ) (start : pair_of s ≡ a_state X) where
  known_start : (l : ℕ) → known s l ≡ among l X
  unfolding pair_of a_state
  known_start = by_literal (λ l. known s l ≡ among l X) (λ f. ap (λ (σ : Pair). σ.T f) start) (λ f. ap (λ (σ : Pair). σ.F f) start)

  -- A state that the action leads to knows X and what it says of the sensed fluents, and nothing else.
  module _ (u : State) (seen : Sensed t a (pair_of s) (pair_of u)) where
    extended : (l : ℕ) → l ∈ X → known u l ≡ true
    unfolding pair_of
    extended =
        by_literal (λ l. l ∈ X → known u l ≡ true)
        (λ f m. seen.extends.T f (known_start (says_true f) ∙ m))
        (λ f m. seen.extends.F f (known_start (says_false f) ∙ m))

    apart : (l : ℕ) → known u l ≡ true → known u (complement l) ≡ true → ⊥
    apart l e c = not_both (pair_of u) (pair_disjoint u) l (true_in_pair u l ∙ e) (true_in_pair u (complement l) ∙ c)

    determined : (f : ℕ) → K t a f ≡ true → (known u (says_true f) ≡ true) ⊎ (known u (says_false f) ≡ true)
    unfolding pair_of
    determined f e = either_split _ _ (seen.domain f ∙ either_right _ _ e)

    -- What is known of a fluent was known before, or the fluent is sensed.
    known_by : (f l : ℕ) → fluent_of l ≡ f → (says_true f ∈ X → l ∈ X) → (says_false f ∈ X → l ∈ X) → either (known u (says_true f)) (known u (says_false f)) ≡ true → known u l ≡ true → l ∈ X ++ sensed_in t a u
    unfolding pair_of
    known_by f l q one two some e =
        ⊎_elim
        (λ k. among_left l X _ (⊎_elim (λ h. one (sym (known_start _) ∙ h)) (λ h. two (sym (known_start _) ∙ h)) (either_split _ _ k)))
        (λ k. among_right l X _ (sensed_among t a u l ∙ both_true _ _ (ap (K t a) q ∙ k) e))
        (either_split _ _ (sym (seen.domain f) ∙ some))

    union_known : (l : ℕ) → l ∈ X ++ sensed_in t a u → known u l ≡ true
    union_known l m = ⊎_elim (extended l) (λ k. both_right _ _ (sym (sensed_among t a u l) ∙ k)) (among_split l X _ m)

    known_union : (l : ℕ) → known u l ≡ true → l ∈ X ++ sensed_in t a u
    known_union =
        by_literal (λ l. known u l ≡ true → l ∈ X ++ sensed_in t a u)
        (λ f e. known_by f (says_true f) (fluent_true f) (λ m. m) (λ m. absurd (apart (says_true f) e (ap (known u) (complement_true f) ∙ extended (says_false f) m))) (either_left _ _ e) e)
        (λ f e. known_by f (says_false f) (fluent_false f) (λ m. absurd (apart (says_false f) e (ap (known u) (complement_false f) ∙ extended (says_true f) m))) (λ m. m) (either_right _ _ e) e)

    union_is : X ++ sensed_in t a u ≐ literals_of u
    union_is = (λ l m. literals_among u l ∙ union_known l m, λ l m. known_union l (sym (literals_among u l) ∙ m))

    sensed_fluents : (f : ℕ) → fln (sensed_in t a u) f ≡ K t a f
    unfolding fln
    sensed_fluents f =
        same_test _ _
        (λ e. ⊎_elim (λ k. both_left _ _ (sym (sensed_true t a u f) ∙ k)) (λ k. both_left _ _ (sym (sensed_false t a u f) ∙ k)) (either_split _ _ e))
        (λ e. ⊎_elim (λ k. either_left _ _ (sensed_true t a u f ∙ both_true _ _ e k)) (λ k. either_right _ _ (sensed_false t a u f ∙ both_true _ _ e k)) (determined f e))

    reading_of : ReadingOf t a X (sensed_in t a u)
    reading_of = record { fluents = sensed_fluents; consistent = λ l m k. apart l (union_known l m) (union_known (complement l) k) }

    -- A set of the relation above which the state stands is what the state says.
    sensed_is : (X' : List ℕ) → ReadingOf t a X X' → pair_of u ≼ a_state (X ++ X') → X' ≐ sensed_in t a u
    unfolding pair_of a_state fln
    sensed_is X' r below = (λ l m. sensed_among t a u l ∙ both_true _ _ (has_fluent l m) (holds l m), into)
      where
        has_fluent : (l : ℕ) → l ∈ X' → K t a (fluent_of l) ≡ true
        has_fluent =
            by_literal (λ l. l ∈ X' → K t a (fluent_of l) ≡ true)
            (λ f m. ap (K t a) (fluent_true f) ∙ sym (r.fluents f) ∙ either_left _ _ m)
            (λ f m. ap (K t a) (fluent_false f) ∙ sym (r.fluents f) ∙ either_right _ _ m)

        above : (l : ℕ) → known u l ≡ true → l ∈ X ++ X'
        above = by_literal (λ l. known u l ≡ true → l ∈ X ++ X') (λ f. below.T f) (λ f. below.F f)

        -- Neither literal of a fluent stands beside the other.
        holds : (l : ℕ) → l ∈ X' → known u l ≡ true
        holds =
            by_literal (λ l. l ∈ X' → known u l ≡ true)
            (λ f m. ⊎_elim (λ k. k) (λ k. absurd (r.consistent (says_true f) (among_right _ X X' m) (subst (λ (l : ℕ). l ∈ X ++ X') (sym (complement_true f)) (above (says_false f) k))))
            (determined f (ap (K t a) (sym (fluent_true f)) ∙ has_fluent (says_true f) m)))
            (λ f m. ⊎_elim (λ k. absurd (r.consistent (says_false f) (among_right _ X X' m) (subst (λ (l : ℕ). l ∈ X ++ X') (sym (complement_false f)) (above (says_true f) k)))) (λ k. k)
            (determined f (ap (K t a) (sym (fluent_false f)) ∙ has_fluent (says_false f) m)))

        read : (f : ℕ) → K t a f ≡ true → (says_true f ∈ X') ⊎ (says_false f ∈ X')
        read f e = either_split _ _ (r.fluents f ∙ e)

        into : (l : ℕ) → l ∈ sensed_in t a u → l ∈ X'
        into =
            by_literal (λ l. l ∈ sensed_in t a u → l ∈ X')
            (λ f m. let e = sym (sensed_true t a u f) ∙ m in
            ⊎_elim (λ k. k) (λ k. absurd (r.consistent (says_true f) (above (says_true f) (both_right _ _ e)) (subst (λ (l : ℕ). l ∈ X ++ X') (sym (complement_true f)) (among_right _ X X' k))))
            (read f (both_left _ _ e)))
            (λ f m. let e = sym (sensed_false t a u f) ∙ m in
            ⊎_elim (λ k. absurd (r.consistent (says_false f) (above (says_false f) (both_right _ _ e)) (subst (λ (l : ℕ). l ∈ X ++ X') (sym (complement_false f)) (among_right _ X X' k)))) (λ k. k)
            (read f (both_left _ _ e)))

  -- ALL OF THEM, in their order.
  module _ (within : (k : Knowledge) → Has t.knowledge k → k.fluent < length s) where
    seen : (u : State) → Has (states_of (readings (unknown_sensed t a s) s)) u → Sensed t a (pair_of s) (pair_of u)
    seen u h =
        let w = reading_is t a s within _ (arrives_in (readings (unknown_sensed t a s) s) u h) in
        subst (λ (v : State). Sensed t a (pair_of s) (pair_of v)) (sym (arrives_same w.1)) w.3

    each_read : Each (ReadingOf t a X) (read_sets t a s)
    each_read = each_mapped (sensed_in t a) (ReadingOf t a X) (states_of (readings (unknown_sensed t a s) s)) (λ u h. reading_of u (seen u h))

    all_read : (X' : List ℕ) → ReadingOf t a X X' → Some (λ U. X' ≐ U) (read_sets t a s)
    unfolding pair_of a_state fln
    all_read X' r =
        let v = reading_follows t a s within (a_state (X ++ X'))
        (record { T = λ f e. among_left _ X X' (sym (known_start (says_true f)) ∙ e); F = λ f e. among_left _ X X' (sym (known_start (says_false f)) ∙ e) })
        (λ f e. ⊎_elim (λ m. either_left _ _ (among_right _ X X' m)) (λ m. either_right _ _ (among_right _ X X' m)) (either_split _ _ (r.fluents f ∙ e))) in
        let h = arrived (readings (unknown_sensed t a s) s) v.0 v.1 in
        some_mapped (sensed_in t a) (λ U. X' ≐ U) (states_of (readings (unknown_sensed t a s) s)) v.0 h (sensed_is v.0 (seen v.0 h) X' r v.3)

    ordered_read : Ordered (read_sets t a s)
    unfolding unknown_sensed
    ordered_read = readings_ordered t a (unknown_sensed t a s) 0 s (unknown_ascends (knowledge_of t a) s 0 s) (λ f h. let w = read_is t a s f h in (w.0, w.1))

    all_readings : AllReadings t a X (read_sets t a s)
    all_readings = record { each = each_read; all = all_read; ordered = ordered_read }

    -- So any list of all of them in their order has these.
    readings_once : (Xs : List (List ℕ)) → AllReadings t a X Xs → Alike Xs (read_sets t a s)
    readings_once Xs r =
        ordered_once Xs (read_sets t a s) (consistent Xs r.each) (consistent (read_sets t a s) each_read) r.ordered ordered_read
        (carried Xs (read_sets t a s) r.each all_read) (carried (read_sets t a s) Xs each_read r.all)
      where
        consistent : (Us : List (List ℕ)) → Each (ReadingOf t a X) Us → Each Consistent Us
        consistent [] e = tt
        consistent (U ∷ Us) e = (λ l m k. e.0.consistent l (among_right l X U m) (among_right _ X U k), consistent Us e.1)

        carried : (Us Ws : List (List ℕ)) → Each (ReadingOf t a X) Us → ((X' : List ℕ) → ReadingOf t a X X' → Some (λ U. X' ≐ U) Ws) → Within Us Ws
        carried [] Ws e all Z h = absurd h
        carried (U ∷ Us) Ws e all Z (inl q) = same Ws (all U e.0)
          where
            same : (Vs : List (List ℕ)) → Some (λ W. U ≐ W) Vs → Some (λ W. Z ≐ W) Vs
            same [] h = absurd h
            same (W ∷ Vs) (inl p) = inl (≐_trans Z U W q p)
            same (W ∷ Vs) (inr h) = inr (same Vs h)
        carried (U ∷ Us) Ws e all Z (inr h) = carried Us Ws e.1 all Z h

-- THE NUMBER of readings is that of the citations, so that it need not be asked beforehand.
pub states_count : (fs : List ℕ) (s : State) → length (states_of (readings fs s)) ≡ 2 ^ length fs
unfolding states_of readings
states_count [] s = refl
states_count (f ∷ fs) s =
    let one = states_count fs (told (says_true f) s) in
    let two = states_count fs (told (says_false f) s) in
    let up = pow-suc 2 (length fs) in
    length-append (states_of (readings fs (told (says_true f) s))) (states_of (readings fs (told (says_false f) s))) ∙ omega (arith, one, two, up)

pub each_length : (rest : Sequence ℕ) (Y : Conclusion) (ss : List State) (ls : List Line) → each_reads rest Y ss ls ≡ true → length ss ≡ length ls
unfolding each_reads
each_length rest Y [] [] e = refl
each_length rest Y [] (l ∷ ls) e = clash e refl
each_length rest Y (s ∷ ss) [] e = clash e refl
each_length rest Y (s ∷ ss) (l ∷ ls) e = ap suc (each_length rest Y ss ls (both_right _ _ e))

pub count_settled : (rest : Sequence ℕ) (Y : Conclusion) (fs : List ℕ) (s : State) (cited : List Line)
    → pick (eqb (2 ^ length fs) (length cited)) (λ _. each_reads rest Y (states_of (readings fs s)) cited) (λ _. false) ≡ each_reads rest Y (states_of (readings fs s)) cited
count_settled rest Y fs s cited =
    by-test (eqb (2 ^ length fs) (length cited))
    (λ t. pick_true _ _ _ t)
    (λ f.
    pick_false _ _ _ f
    ∙ by-test (each_reads rest Y (states_of (readings fs s)) cited)
    (λ t. absurd (eqb-false (2 ^ length fs) (length cited) f (sym (states_count fs s) ∙ each_length rest Y (states_of (readings fs s)) cited t)))
    sym)

-- RULES 3 AND 10.
append_same : (X X' Z Z' : List ℕ) → X ≐ X' → Z ≐ Z' → X ++ Z ≐ X' ++ Z'
append_same X X' Z Z' e f = (
  λ l m. ⊎_elim (λ k. among_left l X' Z' (e.0 l k)) (λ k. among_right l X' Z' (f.0 l k)) (among_split l X Z m),
  λ l m. ⊎_elim (λ k. among_left l X Z (e.1 l k)) (λ k. among_right l X Z (f.1 l k)) (among_split l X' Z' m),
)

module _ (lim : Limits) (g : State → List ℕ) (X : List ℕ) (c : Sequence ℕ) where
  abbrev Unions : List State → Type 0
  Unions ss = (u : State) → Has ss u → X ++ g u ≐ literals_of u

  reads_claim : (Y : Conclusion) → ConclusionAscends Y → (ss : List State) (ls : List Line) → Unions ss → ((l : Line) → Has ls l → Proper lim l) → each_reads c Y ss ls ≡ true → EachClaims X c Y (map g ss) ls
  unfolding each_reads
  reads_claim Y up [] [] is proper e = tt
  reads_claim Y up [] (l ∷ ls) is proper e = absurd (false≢true e)
  reads_claim Y up (s ∷ ss) [] is proper e = absurd (false≢true e)
  reads_claim Y up (s ∷ ss) (l ∷ ls) is proper e =
      let k = (says_exactly l (proper l (inl refl)) (literals_of s) c Y (literals_ascend s) up).0 (both_left _ _ e) in (
        record { start = ≐_trans l.X (literals_of s) (X ++ g s) k.start (≐_sym (X ++ g s) (literals_of s) (is s (inl refl))); plan = k.plan; end = k.end },
        reads_claim Y up ss ls (λ u h. is u (inr h)) (λ j h. proper j (inr h)) (both_right _ _ e),
      )

  -- Claimed of a list that is the same set as X, and of a conclusion that is the same as Y.
  claims_read : (Z : List ℕ) → Z ≐ X → (Y W : Conclusion) → ConclusionAscends Y → SameConclusion Y W → (Us : List (List ℕ)) (ss : List State) (ls : List Line) → Alike Us (map g ss) → Unions ss
      → ((l : Line) → Has ls l → Proper lim l) → EachClaims Z c W Us ls → each_reads c Y ss ls ≡ true
  unfolding each_reads
  claims_read Z z Y W up y [] [] [] alike is proper k = refl
  claims_read Z z Y W up y [] [] (l ∷ ls) alike is proper k = absurd k
  claims_read Z z Y W up y [] (s ∷ ss) ls alike is proper k = absurd alike
  claims_read Z z Y W up y (U ∷ Us) [] ls alike is proper k = absurd alike
  claims_read Z z Y W up y (U ∷ Us) (s ∷ ss) [] alike is proper k = absurd k
  claims_read Z z Y W up y (U ∷ Us) (s ∷ ss) (l ∷ ls) alike is proper k =
      both_true _ _
      ((says_exactly l (proper l (inl refl)) (literals_of s) c Y (literals_ascend s) up).1 (record {
        start = ≐_trans l.X (Z ++ U) (literals_of s) k.0.start (≐_trans (Z ++ U) (X ++ g s) (literals_of s) (append_same Z X U (g s) z alike.0) (is s (inl refl)));
        plan = k.0.plan;
        end = conclusions_meet l.Y Y W k.0.end y;
      }))
      (claims_read Z z Y W up y Us ss ls alike.1 (λ u h. is u (inr h)) (λ j h. proper j (inr h)) k.1)

module _ (lim : Limits) (t : Table) (within : (k : Knowledge) → Has t.knowledge k → k.fluent < lim.state) where
  sense_alike : (cited : List Line) (l : Line) (c d : Sequence ℕ) → SamePlan c d → senses_first lim t cited l c ≡ senses_first lim t cited l d
  sense_alike cited l c d e = sym (senses_placeless lim t cited l c) ∙ ap (senses_first lim t (unplaced_lines cited) (unplaced_line l)) e ∙ senses_placeless lim t cited l d

  pub rule_3_exactly : (cited : List Line) (l : Line) → ((k : Line) → Has cited k → Proper lim k) → Proper lim l → (rule_3 lim t cited l ≡ true) ↔ ((Y : Conclusion) × Rule3 t cited l Y)
  unfolding rule_3 senses_first reads
  rule_3_exactly cited l proper own = (from l.c refl, λ w. to w.0 w.1)
    where
      s : State
      s = state_of lim l.X

      near : (k : Knowledge) → Has t.knowledge k → k.fluent < length s
      near k h = rw (state_length lim l.X) (within k h)

      -- The line's own X and any list that is the same set.
      start : (X : List ℕ) → l.X ≐ X → pair_of s ≡ a_state X
      start = start_state lim t l own

      unions : (a : ℕ) → Unions lim (sensed_in t a) l.X l.c (states_of (readings (unknown_sensed t a s) s))
      unions a u h = union_is t a s l.X (start l.X (≐_refl l.X)) u (seen t a s l.X (start l.X (≐_refl l.X)) near u h)

      from : (c : Sequence ℕ) → l.c ≡ c → senses_first lim t cited l c ≡ true → (Y : Conclusion) × Rule3 t cited l Y
      from done q e = absurd (false≢true e)
      from (item (act p a) rest) q e = (
        l.Y,
        record {
          X = l.X;
          place = p;
          a = a;
          c = rest;
          line = record { start = ≐_refl l.X; plan = ap unplaced q; end = conclusion_self l.Y };
          senses = sensing_pair t a ∙ both_left _ _ e;
          runs = sym (runs_exactly lim t l own l.X (≐_refl l.X) a) ∙ both_left _ _ (both_right _ _ e);
          Xs = map (sensed_in t a) (states_of (readings (unknown_sensed t a s) s));
          readings = all_readings t a s l.X (start l.X (≐_refl l.X)) near;
          premises =
              reads_claim lim (sensed_in t a) l.X rest l.Y own.YAscends (states_of (readings (unknown_sensed t a s) s)) cited (unions a) proper
              (sym (count_settled rest l.Y (unknown_sensed t a s) s cited) ∙ both_right _ _ (both_right _ _ e));
        },
      )
      from (item (branching p bs) rest) q e = absurd (false≢true e)

      to : (Y : Conclusion) → Rule3 t cited l Y → senses_first lim t cited l l.c ≡ true
      to Y r =
          let a = r.a in
          let here = start r.X r.line.start in
          sense_alike cited l l.c (item (act r.place a) r.c) r.line.plan
          ∙ both_true _ _ (sym (sensing_pair t a) ∙ r.senses)
          (both_true _ _ (runs_exactly lim t l own r.X r.line.start a ∙ r.runs)
          (count_settled r.c l.Y (unknown_sensed t a s) s cited
          ∙ claims_read lim (sensed_in t a) l.X r.c r.X (≐_sym l.X r.X r.line.start) l.Y Y own.YAscends r.line.end
          r.Xs (states_of (readings (unknown_sensed t a s) s)) cited (readings_once t a s r.X here near r.Xs r.readings) (unions a) proper r.premises))
