-- A line follows by the relations exactly where it passes the tests of its rule byte, of the number of its citations and of its rule. The kind of a
-- conclusion tells which layout a rule is of, each rule takes as many lines as its relation has premises, and rules 3 and 10 have a
-- power of two of them. Assumes nothing.
use Prim.Native.Nat.{ℕ, zero, suc, ◌+◌, ◌*◌, ◌^◌, ◌≤◌, ◌<◌}
use native.Mathlib.Omega.{arith}
use native.Mathlib.Nat.{pow-suc}
use native.Mathlib.Decide.{dec_lt, ℕ_discrete}
use mathlib.Core.Path.{◌≡◌, refl, sym, ◌∙◌, ap, subst}
use mathlib.Core.Bool.{Bool, true, false, false≢true}
use mathlib.Core.List.{List, [], ◌∷◌}
use mathlib.Core.Logic.{◌↔◌, inl, inr, ⊎_elim}
use lib.ListN.{length}
use borrow.Author.Tests.{eqb-true, leb-true}
use Rattle.meaning.specs.declared.Layout.{Layout}
use Rattle.meaning.specs.declared.Layout.TheVariants.{Plain, Closing}
use Rattle.meaning.specs.Tests.{both, either, pick, some_of, Has}
use Rattle.meaning.specs.Limits.{Limits}
use Rattle.meaning.specs.Literals.{among}
use Rattle.meaning.specs.Requests.{Effect, Knowledge, Table, Sequence, done, item, act, branching}
use Rattle.meaning.specs.States.{unknown_sensed, state_of}
use Rattle.meaning.specs.Derivations.{Conclusion, knows, knows_whether, Line, concludes_fluent, of_one, of_two, rule_4, rule_5, rule_6, rule_8, reads, senses_first, rule_3, given_by, for_lists, follows, citations_taken, citations_of, a_rule}
use Rattle.meaning.specs.Rules.{SameConclusion, Rule3, Rule4, Rule5, Follows, by_1, by_2, by_3, by_4, by_5, by_6, by_7, by_8, by_10, by_11, by_12}
use Rattle.meaning.proofs.TestLaws.{both_left, both_right, either_split, pick-cases}
use Rattle.meaning.proofs.RulesExact.{one_only, two_only, Proper, rule_1_exactly, rule_2_exactly, rule_4_exactly, rule_5_exactly, rule_6_exactly, rule_7_exactly, rule_8_exactly}
use Rattle.meaning.proofs.ReadingsExact.{rule_3_exactly}
use Rattle.meaning.proofs.ReadLines.{IsList, IsFluent, OfKind, ReadLine}

-- THE RULES by their numbers.
data Rule (n : ℕ) : Type 0 where
  is_1 : n ≡ 1 → Rule n
  is_2 : n ≡ 2 → Rule n
  is_3 : n ≡ 3 → Rule n
  is_4 : n ≡ 4 → Rule n
  is_5 : n ≡ 5 → Rule n
  is_6 : n ≡ 6 → Rule n
  is_7 : n ≡ 7 → Rule n
  is_8 : n ≡ 8 → Rule n
  is_10 : n ≡ 10 → Rule n
  is_11 : n ≡ 11 → Rule n
  is_12 : n ≡ 12 → Rule n

first_rule : (n : ℕ) → 1 ≤ n → n < 5 → Rule n
first_rule n least most =
    elim (ℕ_discrete n 1) [
      | yes e ↦ is_1 e
      | no n₁ ↦ elim (ℕ_discrete n 2) [
        | yes e ↦ is_2 e
        | no n₂ ↦ elim (ℕ_discrete n 3) [ yes e ↦ is_3 e | no n₃ ↦ is_4 (omega arith) ]
      ]
    ]

next_rule : (n : ℕ) → 5 ≤ n → n ≤ 8 → Rule n
next_rule n least most =
    elim (ℕ_discrete n 5) [
      | yes e ↦ is_5 e
      | no n₅ ↦ elim (ℕ_discrete n 6) [
        | yes e ↦ is_6 e
        | no n₆ ↦ elim (ℕ_discrete n 7) [ yes e ↦ is_7 e | no n₇ ↦ is_8 (omega arith) ]
      ]
    ]

low_rule : (n : ℕ) → 1 ≤ n → n ≤ 8 → Rule n
low_rule n least most = elim (dec_lt n 5) [ yes less ↦ first_rule n least less | no not-less ↦ next_rule n (omega arith) most ]

high_rule : (n : ℕ) → 10 ≤ n → n ≤ 12 → Rule n
high_rule n least most = elim (ℕ_discrete n 10) [ yes e ↦ is_10 e | no n₁ ↦ elim (ℕ_discrete n 11) [ yes e ↦ is_11 e | no n₂ ↦ is_12 (omega arith) ] ]

some_rule : (layout : Layout) (n : ℕ) → a_rule layout n ≡ true → Rule n
unfolding a_rule
some_rule Plain n h = let most = leb-true n 6 (both_right _ _ h) in low_rule n (leb-true 1 n (both_left _ _ h)) (omega arith)
some_rule Closing n h =
    ⊎_elim
    (λ k. low_rule n (leb-true 1 n (both_left _ _ k)) (leb-true n 8 (both_right _ _ k)))
    (λ k. high_rule n (leb-true 10 n (both_left _ _ k)) (leb-true n 12 (both_right _ _ k)))
    (either_split _ _ h)

-- KINDS.
like_fluent : (Y : Conclusion) (f : ℕ) → SameConclusion Y (knows_whether f) → IsFluent Y
like_fluent (knows Y) f e = absurd e
like_fluent (knows_whether g) f e = tt

not_both_kinds : (Y : Conclusion) → IsList Y → IsFluent Y → ⊥
not_both_kinds (knows Y) l f = f
not_both_kinds (knows_whether g) l f = l

lists_here : (layout : Layout) (n : ℕ) (Y : Conclusion) → concludes_fluent n ≡ false → OfKind layout n Y → IsList Y
lists_here Plain n Y none kind = kind
lists_here Closing n Y none (inl w) = absurd (false≢true (sym none ∙ w.0))
lists_here Closing n Y none (inr w) = w.1

fluent_here : (layout : Layout) (n : ℕ) (Y : Conclusion) → concludes_fluent n ≡ true → a_rule Plain n ≡ false → a_rule layout n ≡ true → OfKind layout n Y → IsFluent Y
fluent_here Plain n Y some not_plain rule kind = absurd (false≢true (sym not_plain ∙ rule))
fluent_here Closing n Y some not_plain rule (inl w) = w.1
fluent_here Closing n Y some not_plain rule (inr w) = absurd (false≢true (sym w.0 ∙ some))

-- A rule of the closing layout for a fluent stands in the closing layout.
closing_rule : (layout : Layout) (n : ℕ) (Y : Conclusion) → a_rule Closing n ≡ true → OfKind layout n Y → IsFluent Y → a_rule layout n ≡ true
closing_rule Plain n Y rule kind fluent = absurd (not_both_kinds Y kind fluent)
closing_rule Closing n Y rule kind fluent = rule

plain_rule : (layout : Layout) (n : ℕ) → a_rule Plain n ≡ true → a_rule Closing n ≡ true → a_rule layout n ≡ true
plain_rule Plain n plain closing = plain
plain_rule Closing n plain closing = closing

-- What is said of a conclusion of a kind is said of a list, or of a fluent.
of_list : (P : Conclusion → Type 0) (Z Y : Conclusion) → SameConclusion Z Y → IsList Z → P Y → (U : List ℕ) × P (knows U)
of_list P Z (knows U) same list p = (U, p)
of_list P (knows Z) (knows_whether f) same list p = absurd same
of_list P (knows_whether g) (knows_whether f) same list p = absurd list

of_fluent : (P : Conclusion → Type 0) (Z Y : Conclusion) → SameConclusion Z Y → IsFluent Z → P Y → (f : ℕ) × P (knows_whether f)
of_fluent P Z (knows_whether f) same fluent p = (f, p)
of_fluent P (knows Z) (knows U) same fluent p = absurd fluent
of_fluent P (knows_whether g) (knows U) same fluent p = absurd same

-- NUMBERS OF CITATIONS.
large_power : (j k : ℕ) → k ≡ j + 7 → 128 ≤ 2 ^ k
large_power zero k e = subst (λ (i : ℕ). 128 ≤ 2 ^ i) (sym e) (omega arith)
large_power (suc j) zero e = absurd (omega arith)
large_power (suc j) (suc k) e = let less = large_power j k (omega arith) in let up = pow-suc 2 k in omega (arith, less, up)

power_taken : (k : ℕ) → 2 ^ k ≤ 64 → among (2 ^ k) (citations_taken 3) ≡ true
unfolding among citations_taken some_of either pick
power_taken zero few = refl
power_taken (suc zero) few = refl
power_taken (suc (suc zero)) few = refl
power_taken (suc (suc (suc zero))) few = refl
power_taken (suc (suc (suc (suc zero)))) few = refl
power_taken (suc (suc (suc (suc (suc zero))))) few = refl
power_taken (suc (suc (suc (suc (suc (suc zero)))))) few = refl
power_taken (suc (suc (suc (suc (suc (suc (suc j))))))) few = let many = large_power j (suc (suc (suc (suc (suc (suc (suc j))))))) (omega arith) in absurd (omega (arith, few, many))

rule_3_count : (lim : Limits) (t : Table) (cited : List Line) (l : Line) → rule_3 lim t cited l ≡ true → (k : ℕ) × (2 ^ k ≡ length cited)
unfolding rule_3 senses_first reads
rule_3_count lim t cited l = go l.c
  where
    go : (c : Sequence ℕ) → senses_first lim t cited l c ≡ true → (k : ℕ) × (2 ^ k ≡ length cited)
    go done e = absurd (false≢true e)
    go (item (act p a) rest) e =
        pick-cases _ _ _ (both_right _ _ (both_right _ _ e)) (λ same _. (length (unknown_sensed t a (state_of lim l.X)), eqb-true _ _ same)) (λ _ r. absurd (false≢true r))
    go (item (branching p bs) rest) e = absurd (false≢true e)

-- The three tests that are asked of a line, beside that of earlier lines.
pub record Tested (lim : Limits) (layout : Layout) (t : Table) (cited : List Line) (l : Line) : Type 0 where
  pub rule : a_rule layout l.rule ≡ true
  pub takes : among (length l.cites) (citations_of l.rule) ≡ true
  pub gives : follows lim t cited l ≡ true

-- A LINE that was read, and those that it cites.
module _ (lim : Limits) (t : Table) (effects_within : (e : Effect) → Has t.effects e → e.literal < 2 * lim.state) (knowledge_within : (k : Knowledge) → Has t.knowledge k → k.fluent < lim.state)
    (layout : Layout) (cited : List Line) (l : Line) (proper : (k : Line) → Has cited k → Proper lim k) (read : ReadLine lim layout l) (counted : length cited ≡ length l.cites) where
  -- FROM THE TESTS. What they say of a rule's number.
  given_at : (n : ℕ) → l.rule ≡ n → Tested lim layout t cited l → given_by lim t (for_lists n) cited l ≡ true
  unfolding follows
  given_at n e w = subst (λ (i : ℕ). given_by lim t (for_lists i) cited l ≡ true) e w.gives

  none_cited : (n : ℕ) → l.rule ≡ n → citations_of n ≡ 0 ∷ [] → Tested lim layout t cited l → cited ≡ []
  unfolding among some_of either
  none_cited n e none w = no_lines cited (counted ∙ zero_only (length l.cites) (subst (λ (ks : List ℕ). among (length l.cites) ks ≡ true) (ap citations_of e ∙ none) w.takes))
    where
      zero_only : (k : ℕ) → among k (0 ∷ []) ≡ true → k ≡ 0
      zero_only k h = ⊎_elim (eqb-true k 0) (λ f. absurd (false≢true f)) (either_split _ _ h)

      no_lines : (xs : List Line) → length xs ≡ 0 → xs ≡ []
      no_lines [] h = refl
      no_lines (x ∷ xs) h = absurd (omega (arith, h))

  kind_at : (n : ℕ) → l.rule ≡ n → OfKind layout n l.Y
  kind_at n e = subst (λ (i : ℕ). OfKind layout i l.Y) e read.kind

  list_at_rule : (n : ℕ) → l.rule ≡ n → concludes_fluent n ≡ false → IsList l.Y
  list_at_rule n e none = lists_here layout n l.Y none (kind_at n e)

  fluent_at_rule : (n : ℕ) → l.rule ≡ n → concludes_fluent n ≡ true → a_rule Plain n ≡ false → Tested lim layout t cited l → IsFluent l.Y
  fluent_at_rule n e some not_plain w = fluent_here layout n l.Y some not_plain (subst (λ (i : ℕ). a_rule layout i ≡ true) e w.rule) (kind_at n e)

  has_one : (k : Line) → cited ≡ k ∷ [] → Proper lim k
  has_one k q = proper k (subst (λ (xs : List Line). Has xs k) (sym q) (inl refl))

  has_two : (k j : Line) → cited ≡ k ∷ j ∷ [] → Proper lim k × Proper lim j
  has_two k j q = (proper k (subst (λ (xs : List Line). Has xs k) (sym q) (inl refl)), proper j (subst (λ (xs : List Line). Has xs j) (sym q) (inr (inl refl))))

  tested_follows : Tested lim layout t cited l → Follows t cited l
  unfolding for_lists given_by citations_of citations_taken concludes_fluent a_rule among some_of either both pick
  tested_follows w = go (some_rule layout l.rule w.rule)
    where
      own : Proper lim l
      own = read.proper

      go : Rule l.rule → Follows t cited l
      go (is_1 e) = by_1 e (none_cited 1 e refl w) ((rule_1_exactly l own).0 (given_at 1 e w))
      go (is_2 e) = by_2 e (none_cited 2 e refl w) ((rule_2_exactly lim t effects_within l own).0 (given_at 2 e w))
      go (is_3 e) =
          let r = (rule_3_exactly lim t knowledge_within cited l proper own).0 (given_at 3 e w) in
          let u = of_list (Rule3 t cited l) l.Y r.0 r.1.line.end (list_at_rule 3 e refl) r.1 in
          by_3 e u.0 u.1
      go (is_4 e) =
          let k = one_only (λ x. rule_4 x l) cited (given_at 4 e w) in
          let r = (rule_4_exactly k.0 l (has_one k.0 k.1) own).0 k.2 in
          let u = of_list (Rule4 k.0 l) l.Y r.0 r.1.line.end (list_at_rule 4 e refl) r.1 in
          by_4 e k.0 k.1 u.0 u.1
      go (is_5 e) =
          let k = two_only (λ x y. rule_5 x y l) cited (given_at 5 e w) in
          let both-proper = has_two k.0 k.1 k.2 in
          let r = (rule_5_exactly k.0 k.1 l both-proper.0 both-proper.1 own).0 k.3 in
          let u = of_list (Rule5 k.0 k.1 l) l.Y r.0 r.1.line.end (list_at_rule 5 e refl) r.1 in
          by_5 e k.0 k.1 k.2 u.0 u.1
      go (is_6 e) =
          let k = one_only (λ x. rule_6 x l) cited (given_at 6 e w) in
          by_6 e k.0 k.1 ((rule_6_exactly k.0 l).0 k.2)
      go (is_7 e) = by_7 e (none_cited 7 e refl w) ((rule_7_exactly lim t l own).0 (given_at 7 e w))
      go (is_8 e) =
          let k = one_only (λ x. rule_8 x l) cited (given_at 8 e w) in
          by_8 e k.0 k.1 ((rule_8_exactly k.0 l (has_one k.0 k.1) own).0 k.2)
      go (is_10 e) =
          let r = (rule_3_exactly lim t knowledge_within cited l proper own).0 (given_at 10 e w) in
          let u = of_fluent (Rule3 t cited l) l.Y r.0 r.1.line.end (fluent_at_rule 10 e refl refl w) r.1 in
          by_10 e u.0 u.1
      go (is_11 e) =
          let k = two_only (λ x y. rule_5 x y l) cited (given_at 11 e w) in
          let both-proper = has_two k.0 k.1 k.2 in
          let r = (rule_5_exactly k.0 k.1 l both-proper.0 both-proper.1 own).0 k.3 in
          let u = of_fluent (Rule5 k.0 k.1 l) l.Y r.0 r.1.line.end (fluent_at_rule 11 e refl refl w) r.1 in
          by_11 e k.0 k.1 k.2 u.0 u.1
      go (is_12 e) =
          let k = one_only (λ x. rule_4 x l) cited (given_at 12 e w) in
          let r = (rule_4_exactly k.0 l (has_one k.0 k.1) own).0 k.2 in
          let u = of_fluent (Rule4 k.0 l) l.Y r.0 r.1.line.end (fluent_at_rule 12 e refl refl w) r.1 in
          by_12 e k.0 k.1 u.0 u.1

  -- FROM THE RELATION. The rule's number, the number of lines that it takes, and its test.
  tested_at : (n : ℕ) → l.rule ≡ n → a_rule layout n ≡ true → among (length cited) (citations_of n) ≡ true → given_by lim t (for_lists n) cited l ≡ true → Tested lim layout t cited l
  unfolding follows
  tested_at n e rule takes gives = record {
    rule = subst (λ (i : ℕ). a_rule layout i ≡ true) (sym e) rule;
    takes = subst (λ (i : ℕ). among (length l.cites) (citations_of i) ≡ true) (sym e) (subst (λ (k : ℕ). among k (citations_of n) ≡ true) counted takes);
    gives = subst (λ (i : ℕ). given_by lim t (for_lists i) cited l ≡ true) (sym e) gives;
  }

  -- The lines cited are these.
  cited_are : (P : List Line → Bool) (xs : List Line) → cited ≡ xs → P xs ≡ true → P cited ≡ true
  cited_are P xs q h = ap P q ∙ h

  module _ (few : lim.citations ≤ 64) where
    readings_taken : rule_3 lim t cited l ≡ true → among (length cited) (citations_taken 3) ≡ true
    readings_taken e =
        let w = rule_3_count lim t cited l e in
        let most = read.few in
        subst (λ (k : ℕ). among k (citations_taken 3) ≡ true) w.1 (power_taken w.0 (let same = w.1 in omega (arith, most, few, counted, same)))

    follows_tested : Follows t cited l → Tested lim layout t cited l
    unfolding for_lists given_by citations_of citations_taken a_rule of_one of_two among some_of either both pick
    follows_tested f = go f
      where
        own : Proper lim l
        own = read.proper

        takes : (n : ℕ) (xs : List Line) → cited ≡ xs → among (length xs) (citations_of n) ≡ true → among (length cited) (citations_of n) ≡ true
        takes n = cited_are (λ ys. among (length ys) (citations_of n))

        -- Rules 1 to 6 stand in both layouts, and the others where the conclusion is a fluent.
        in_both : (n : ℕ) → a_rule Plain n ≡ true → a_rule Closing n ≡ true → a_rule layout n ≡ true
        in_both = plain_rule layout

        in_closing : (n : ℕ) → l.rule ≡ n → a_rule Closing n ≡ true → (g : ℕ) → SameConclusion l.Y (knows_whether g) → a_rule layout n ≡ true
        in_closing n e rule g same = closing_rule layout n l.Y rule (kind_at n e) (like_fluent l.Y g same)

        go : Follows t cited l → Tested lim layout t cited l
        go (by_1 e q r) = tested_at 1 e (in_both 1 refl refl) (takes 1 [] q refl) ((rule_1_exactly l own).1 r)
        go (by_2 e q r) = tested_at 2 e (in_both 2 refl refl) (takes 2 [] q refl) ((rule_2_exactly lim t effects_within l own).1 r)
        go (by_3 e Y r) =
            let holds = (rule_3_exactly lim t knowledge_within cited l proper own).1 (knows Y, r) in
            tested_at 3 e (in_both 3 refl refl) (readings_taken holds) holds
        go (by_4 e k q Y r) =
            tested_at 4 e (in_both 4 refl refl) (takes 4 (k ∷ []) q refl)
            (cited_are (of_one (λ x. rule_4 x l)) (k ∷ []) q ((rule_4_exactly k l (has_one k q) own).1 (knows Y, r)))
        go (by_5 e k j q Y r) =
            let proper-two = has_two k j q in
            tested_at 5 e (in_both 5 refl refl) (takes 5 (k ∷ j ∷ []) q refl)
            (cited_are (of_two (λ x y. rule_5 x y l)) (k ∷ j ∷ []) q ((rule_5_exactly k j l proper-two.0 proper-two.1 own).1 (knows Y, r)))
        go (by_6 e k q r) =
            tested_at 6 e (in_both 6 refl refl) (takes 6 (k ∷ []) q refl)
            (cited_are (of_one (λ x. rule_6 x l)) (k ∷ []) q ((rule_6_exactly k l).1 r))
        go (by_7 e q r) = tested_at 7 e (in_closing 7 e refl r.f r.line.end) (takes 7 [] q refl) ((rule_7_exactly lim t l own).1 r)
        go (by_8 e k q r) =
            tested_at 8 e (in_closing 8 e refl _ r.line.end) (takes 8 (k ∷ []) q refl)
            (cited_are (of_one (λ x. rule_8 x l)) (k ∷ []) q ((rule_8_exactly k l (has_one k q) own).1 r))
        go (by_10 e g r) =
            let holds = (rule_3_exactly lim t knowledge_within cited l proper own).1 (knows_whether g, r) in
            tested_at 10 e (in_closing 10 e refl g r.line.end) (readings_taken holds) holds
        go (by_11 e k j q g r) =
            let proper-two = has_two k j q in
            tested_at 11 e (in_closing 11 e refl g r.line.end) (takes 11 (k ∷ j ∷ []) q refl)
            (cited_are (of_two (λ x y. rule_5 x y l)) (k ∷ j ∷ []) q ((rule_5_exactly k j l proper-two.0 proper-two.1 own).1 (knows_whether g, r)))
        go (by_12 e k q g r) =
            tested_at 12 e (in_closing 12 e refl g r.line.end) (takes 12 (k ∷ []) q refl)
            (cited_are (of_one (λ x. rule_4 x l)) (k ∷ []) q ((rule_4_exactly k l (has_one k q) own).1 (knows_whether g, r)))

    pub follows_exactly : Tested lim layout t cited l ↔ Follows t cited l
    follows_exactly = (tested_follows, follows_tested)
