-- A line that starts from what a state knows follows by its rule, rule by rule, for each rule that a scheme uses: 1, 2, 6 and 8, and 3 to 5 with 10 to 12. Lines stand
-- among all the lines of a derivation, and a block of them ends with the line that it is for. Assumes nothing.
use Prim.Native.Nat.{ℕ, zero, suc, ◌+◌, ◌^◌, ◌≤◌, ◌<◌}
use native.Mathlib.Omega.{arith}
use mathlib.Core.Path.{◌≡◌, refl, sym, ◌∙◌, ap, subst}
use mathlib.Core.Bool.{true, false}
use mathlib.Core.List.{List, [], ◌∷◌, ◌++◌, map}
use mathlib.Core.Logic.{inl, inr}
use lib.ListN.{length, length-map, get_or}
use lib.Dec.{ltb}
use borrow.Author.Tests.{eq-eqb, lt-ltb}
use Rattle.meaning.specs.declared.Layout.{Layout}
use Rattle.meaning.specs.declared.Layout.TheVariants.{Plain, Closing}
use Rattle.meaning.specs.Tests.{both, either, pick, some_of, each_of, Has}
use Rattle.meaning.specs.Limits
use Rattle.meaning.specs.Limits.{format}
use Rattle.meaning.specs.Literals.{fluent_of, among}
use Rattle.meaning.specs.Requests.{Table, Sequence, done, item, act, branching, Branches}
use Rattle.meaning.specs.Lines.{sensing}
use Rattle.meaning.specs.States.{State, can_be_run, state_after, unknown_sensed, readings}
use Rattle.meaning.specs.Derivations.{Conclusion, knows, knows_whether, Line, concludes_fluent, same_list, same_plan, join, included, literals_of, same_conclusion, part_of, says, states_of, of_one, of_two, rule_1, takes_branch, branches_first, rule_4, rule_5, rule_6, one_literal, settles, rule_8, each_reads, acts, one_action, rule_2, reads, senses_first, rule_3, given_by, for_lists, follows, citations_taken, citations_of, a_rule, cited_by}
use Rattle.meaning.specs.Schemes.{line_of, rule_for}
use Rattle.meaning.proofs.TestLaws.{both_left, both_right, both_true, fails_false}
use Rattle.meaning.proofs.SetLaws.{Ascending, same_list_is, same_list_self, included_exactly, literals_ascend}
use Rattle.meaning.proofs.RulesExact.{ConclusionAscends, plan_exactly}
use Rattle.meaning.proofs.ReadLines.{OfKind, ReadLine}
use Rattle.meaning.proofs.ReadingsExact.{states_count, each_length, count_settled}
use Rattle.meaning.proofs.Passed.{LinePasses, AllPass}
use Rattle.demands.proofs.ListedStates.{Marked, literals_clear, state_of_literals}

-- THE SAME AS ITSELF.
pub plan_self : (c : Sequence ℕ) → same_plan c c ≡ true
plan_self c = (plan_exactly c c).1 refl

pub conclusion_same_self : (Y : Conclusion) → same_conclusion Y Y ≡ true
unfolding same_conclusion
conclusion_same_self (knows Z) = same_list_self Z
conclusion_same_self (knows_whether f) = eq-eqb f f refl

-- LINES AMONG ALL. These stand there in their order, and the first has the number n.
abbrev pub Stands : (all : List Line) → (n : ℕ) → List Line → Type 0
Stands all n [] = Unit {0}
Stands all n (l ∷ ls) = ((d : Line) → get_or all n d ≡ l) × Stands all (n + 1) ls

module _ (all : List Line) where
  pub stands_left : (n : ℕ) (xs ys : List Line) → Stands all n (xs ++ ys) → Stands all n xs
  stands_left n [] ys h = tt
  stands_left n (x ∷ xs) ys h = (h.0, stands_left (n + 1) xs ys h.1)

  pub stands_right : (n : ℕ) (xs ys : List Line) → Stands all n (xs ++ ys) → Stands all (n + length xs) ys
  stands_right n [] ys h = subst (λ (k : ℕ). Stands all k ys) (omega arith) h
  stands_right n (x ∷ xs) ys h = subst (λ (k : ℕ). Stands all k ys) (omega arith) (stands_right (n + 1) xs ys h.1)

stands_behind : (l : Line) (all : List Line) (n : ℕ) (ls : List Line) → Stands all n ls → Stands (l ∷ all) (suc n) ls
stands_behind l all n [] h = tt
stands_behind l all n (x ∷ xs) h = (h.0, subst (λ (k : ℕ). Stands (l ∷ all) k xs) (omega arith) (stands_behind l all (n + 1) xs h.1))

-- All the lines stand among themselves.
pub stands_all : (ls : List Line) → Stands ls 0 ls
stands_all [] = tt
stands_all (l ∷ ls) = (λ d. refl, stands_behind l ls 0 ls (stands_all ls))

-- RULES OF A LAYOUT. The rule may stand in the layout with this conclusion, and asks what the second number asks of lists.
pub record RuleFor (layout : Layout) (Y : Conclusion) (rule lists : ℕ) : Type 0 where
  pub stands : a_rule layout rule ≡ true
  pub kind : OfKind layout rule Y
  pub asks : for_lists rule ≡ lists

-- With a list for Y rules 1, 2 and 6 are rules of both layouts.
module _ (Z : List ℕ) where
  pub rule_1_for : (layout : Layout) → RuleFor layout (knows Z) Limits.empty_rule Limits.empty_rule
  unfolding a_rule for_lists concludes_fluent among some_of both either pick
  rule_1_for Plain = record { stands = refl; kind = tt; asks = refl }
  rule_1_for Closing = record { stands = refl; kind = inr (refl, tt); asks = refl }

  pub rule_2_for : (layout : Layout) → RuleFor layout (knows Z) Limits.action_rule Limits.action_rule
  unfolding a_rule for_lists concludes_fluent among some_of both either pick
  rule_2_for Plain = record { stands = refl; kind = tt; asks = refl }
  rule_2_for Closing = record { stands = refl; kind = inr (refl, tt); asks = refl }

  pub rule_6_for : (layout : Layout) → RuleFor layout (knows Z) Limits.consequence_rule Limits.consequence_rule
  unfolding a_rule for_lists concludes_fluent among some_of both either pick
  rule_6_for Plain = record { stands = refl; kind = tt; asks = refl }
  rule_6_for Closing = record { stands = refl; kind = inr (refl, tt); asks = refl }

pub rule_8_for : (f : ℕ) → RuleFor Closing (knows_whether f) Limits.literal_rule Limits.literal_rule
unfolding a_rule for_lists concludes_fluent among some_of both either pick
rule_8_for f = record { stands = refl; kind = inl (refl, tt); asks = refl }

-- What a scheme for the conclusion Y needs of the layout: rules 3, 4 and 5 for a list, and 10, 12 and 11 for a fluent.
pub record RulesFor (layout : Layout) (Y : Conclusion) : Type 0 where
  pub ascends : ConclusionAscends Y
  pub senses : RuleFor layout Y (rule_for Y Limits.sensing_rule Limits.sensing_whether_rule) Limits.sensing_rule
  pub branches : RuleFor layout Y (rule_for Y Limits.branching_rule Limits.branching_whether_rule) Limits.branching_rule
  pub composes : RuleFor layout Y (rule_for Y Limits.composition_rule Limits.composition_whether_rule) Limits.composition_rule

pub plain_rules_for : (Z : List ℕ) → Ascending 0 Z → RulesFor Plain (knows Z)
unfolding rule_for a_rule for_lists both pick
plain_rules_for Z up = record {
  ascends = up;
  senses = record { stands = refl; kind = tt; asks = refl };
  branches = record { stands = refl; kind = tt; asks = refl };
  composes = record { stands = refl; kind = tt; asks = refl };
}

pub closing_rules_for : (Y : Conclusion) → ConclusionAscends Y → RulesFor Closing Y
unfolding rule_for a_rule for_lists concludes_fluent among some_of both either pick
closing_rules_for (knows Z) up = record {
  ascends = up;
  senses = record { stands = refl; kind = inr (refl, tt); asks = refl };
  branches = record { stands = refl; kind = inr (refl, tt); asks = refl };
  composes = record { stands = refl; kind = inr (refl, tt); asks = refl };
}
closing_rules_for (knows_whether f) up = record {
  ascends = up;
  senses = record { stands = refl; kind = inl (refl, tt); asks = refl };
  branches = record { stands = refl; kind = inl (refl, tt); asks = refl };
  composes = record { stands = refl; kind = inl (refl, tt); asks = refl };
}

-- NUMBERS OF READINGS, of six fluents at most.
pub readings_taken : (k : ℕ) → k ≤ Limits.most_forked → (among (2 ^ k) (citations_taken Limits.sensing_rule) ≡ true) × (2 ^ k ≤ format.citations)
unfolding among citations_taken some_of either pick
readings_taken zero few = (refl, omega arith)
readings_taken (suc zero) few = (refl, omega arith)
readings_taken (suc (suc zero)) few = (refl, omega arith)
readings_taken (suc (suc (suc zero))) few = (refl, omega arith)
readings_taken (suc (suc (suc (suc zero)))) few = (refl, omega arith)
readings_taken (suc (suc (suc (suc (suc zero))))) few = (refl, omega arith)
readings_taken (suc (suc (suc (suc (suc (suc zero)))))) few = (refl, omega arith)
readings_taken (suc (suc (suc (suc (suc (suc (suc k))))))) few = absurd (omega arith)

-- A LINE IS RIGHT where it passes every test of the check among all lines, and is such as reading gives.
pub record Right (layout : Layout) (t : Table) (all : List Line) (n : ℕ) (l : Line) : Type 0 where
  pub passes : LinePasses format layout t all n l
  pub read : ReadLine format layout l

abbrev pub AllRight : Layout → Table → (all : List Line) → (n : ℕ) → List Line → Type 0
AllRight layout t all n [] = Unit {0}
AllRight layout t all n (l ∷ ls) = Right layout t all n l × AllRight layout t all (n + 1) ls

module _ (layout : Layout) (t : Table) (all : List Line) where
  pub right_append : (n : ℕ) (xs ys : List Line) → AllRight layout t all n xs → AllRight layout t all (n + length xs) ys → AllRight layout t all n (xs ++ ys)
  right_append n [] ys h k = subst (λ (i : ℕ). AllRight layout t all i ys) (omega arith) k
  right_append n (x ∷ xs) ys h k = (h.0, right_append (n + 1) xs ys h.1 (subst (λ (i : ℕ). AllRight layout t all i ys) (omega arith) k))

  pub right_passes : (n : ℕ) (ls : List Line) → AllRight layout t all n ls → AllPass format layout t all n ls
  right_passes n [] h = tt
  right_passes n (l ∷ ls) h = (h.0.passes, right_passes (n + 1) ls h.1)

  pub right_read : (n : ℕ) (ls : List Line) → AllRight layout t all n ls → (l : Line) → Has ls l → ReadLine format layout l
  right_read n [] h l has = absurd has
  right_read n (x ∷ xs) h l (inl q) = subst (ReadLine format layout) (sym q) h.0.read
  right_read n (x ∷ xs) h l (inr has) = right_read (n + 1) xs h.1 l has

  -- One that starts from what a state knows, by a rule that takes these citations and gives it.
  module _ (s : State) (marked : Marked format s) (c : Sequence ℕ) (Y : Conclusion) (up : ConclusionAscends Y) (rule lists : ℕ) (for-rule : RuleFor layout Y rule lists) (n : ℕ) (cites : List ℕ) where
    line_right : among (length cites) (citations_taken lists) ≡ true → length cites ≤ format.citations → each_of (λ (k : ℕ). ltb k n) cites ≡ true
        → given_by format t lists (map (λ (k : ℕ). get_or all k (line_of s c Y rule cites)) cites) (line_of s c Y rule cites) ≡ true → Right layout t all n (line_of s c Y rule cites)
    unfolding line_of follows citations_of cited_by
    line_right takes few earlier gives = record {
      passes = record {
        rule = for-rule.stands;
        takes = ap (λ (i : ℕ). among (length cites) (citations_taken i)) for-rule.asks ∙ takes;
        earlier = earlier;
        gives = ap (λ (i : ℕ). given_by format t i (map (λ (k : ℕ). get_or all k (line_of s c Y rule cites)) cites) (line_of s c Y rule cites)) for-rule.asks ∙ gives;
      };
      read = record { proper = record { XAscends = literals_ascend s; XClear = literals_clear format s marked; YAscends = up }; kind = for-rule.kind; few = few };
    }

  -- THE RULES, from a state.
  module _ (s : State) (marked : Marked format s) (n : ℕ) where
    -- Rule 1: nothing is left.
    pub empty_right : Right layout t all n (line_of s done (knows (literals_of s)) Limits.empty_rule [])
    unfolding line_of given_by rule_1 citations_taken among some_of either each_of pick
    empty_right =
        line_right s marked done (knows (literals_of s)) (literals_ascend s) Limits.empty_rule Limits.empty_rule (rule_1_for (literals_of s) layout) n [] refl (omega arith) refl
        (both_true _ _ (plan_self done) (conclusion_same_self (knows (literals_of s))))

    -- Rule 6, of the line by rule 1.
    pub less_right : (Z : List ℕ) → Ascending 0 Z → included Z (literals_of s) ≡ true → ((d : Line) → get_or all n d ≡ line_of s done (knows (literals_of s)) Limits.empty_rule [])
        → Right layout t all (n + 1) (line_of s done (knows Z) Limits.consequence_rule (n ∷ []))
    unfolding line_of given_by of_one rule_6 part_of citations_taken among some_of either each_of pick
    less_right Z up less is =
        line_right s marked done (knows Z) up Limits.consequence_rule Limits.consequence_rule (rule_6_for Z layout) (n + 1) (n ∷ []) refl (omega arith) (both_true _ _ (lt-ltb n (n + 1) (omega arith)) refl)
        (subst (λ (k : Line). rule_6 k (line_of s done (knows Z) Limits.consequence_rule (n ∷ [])) ≡ true) (sym (is _))
        (both_true _ _ ((included_exactly (literals_of s) (literals_of s)).1 (λ l m. m)) (both_true _ _ (plan_self done) less)))

    -- Rule 2: an action that does not sense, alone.
    pub action_right : (p a : ℕ) → sensing t a ≡ false → can_be_run t a s ≡ true
        → Right layout t all n (line_of s (item (act p a) done) (knows (literals_of (state_after t a s))) Limits.action_rule [])
    unfolding line_of given_by rule_2 one_action acts citations_taken among some_of either each_of pick
    action_right p a blind runs =
        line_right s marked (item (act p a) done) (knows (literals_of (state_after t a s))) (literals_ascend (state_after t a s)) Limits.action_rule Limits.action_rule (rule_2_for _ layout) n [] refl (omega arith) refl
        (subst (λ (u : State). acts format t (line_of s (item (act p a) done) (knows (literals_of (state_after t a s))) Limits.action_rule []) a u ≡ true) (sym (state_of_literals format s marked))
        (both_true _ _ (fails_false _ blind) (both_true _ _ runs (conclusion_same_self (knows (literals_of (state_after t a s)))))))

    -- Rule 8, of a line for a literal of the fluent.
    pub literal_right : (f : ℕ) → RuleFor layout (knows_whether f) Limits.literal_rule Limits.literal_rule → (l rule m : ℕ) (cites : List ℕ) → fluent_of l ≡ f → m < n
        → ((d : Line) → get_or all m d ≡ line_of s done (knows (l ∷ [])) rule cites) → Right layout t all n (line_of s done (knows_whether f) Limits.literal_rule (m ∷ []))
    unfolding line_of given_by of_one rule_8 settles one_literal citations_taken among some_of either each_of pick
    literal_right f for-rule l rule m cites of earlier is =
        line_right s marked done (knows_whether f) tt Limits.literal_rule Limits.literal_rule for-rule n (m ∷ []) refl (omega arith) (both_true _ _ (lt-ltb m n earlier) refl)
        (subst (λ (k : Line). rule_8 k (line_of s done (knows_whether f) Limits.literal_rule (m ∷ [])) ≡ true) (sym (is _))
        (both_true _ _ (same_list_self (literals_of s)) (both_true _ _ (plan_self done) (eq-eqb _ _ of))))

    -- FOR A CONCLUSION.
    module _ (Y : Conclusion) (rules : RulesFor layout Y) where
      -- Rules 5 and 11, of the line of an action and of the last one of what is left behind it.
      pub composed_right : (p a : ℕ) (rest : Sequence ℕ) (after : State) (one two : ℕ) → one < n → two < n
          → ((d : Line) → get_or all one d ≡ line_of s (item (act p a) done) (knows (literals_of after)) Limits.action_rule []) → ((d : Line) → says (get_or all two d) (literals_of after) rest Y ≡ true)
          → Right layout t all n (line_of s (item (act p a) rest) Y (rule_for Y Limits.composition_rule Limits.composition_whether_rule) (one ∷ two ∷ []))
      unfolding line_of given_by of_two rule_5 says join same_plan same_conclusion citations_taken among some_of either each_of pick
      composed_right p a rest after one two earlier earlier-too is last =
          let rule = rule_for Y Limits.composition_rule Limits.composition_whether_rule in
          let l = line_of s (item (act p a) rest) Y rule (one ∷ two ∷ []) in
          let k = get_or all two l in
          let said = last l in
          line_right s marked (item (act p a) rest) Y rules.ascends rule Limits.composition_rule rules.composes n (one ∷ two ∷ []) refl (omega arith)
          (both_true _ _ (lt-ltb one n earlier) (both_true _ _ (lt-ltb two n earlier-too) refl))
          (subst (λ (j : Line). rule_5 j k l ≡ true) (sym (is l))
          (both_true _ _
          (both_true _ _ (same_list_self (literals_of s)) (subst (λ (X : List ℕ). same_list (literals_of after) X ≡ true) (sym (same_list_is k.X (literals_of after) (both_left _ _ said))) (same_list_self (literals_of after))))
          (both_true _ _ (both_right _ _ (both_right _ _ said)) (both_true _ _ (eq-eqb a a refl) (both_left _ _ (both_right _ _ said))))))

      -- Rules 4 and 12.
      pub branched_right : (p : ℕ) (bs : Branches ℕ) (rest : Sequence ℕ) (m : ℕ) → m < n → ((d : Line) → takes_branch (literals_of s) bs rest Y (get_or all m d) ≡ true)
          → Right layout t all n (line_of s (item (branching p bs) rest) Y (rule_for Y Limits.branching_rule Limits.branching_whether_rule) (m ∷ []))
      unfolding line_of given_by of_one rule_4 branches_first citations_taken among some_of either each_of pick
      branched_right p bs rest m earlier takes =
          line_right s marked (item (branching p bs) rest) Y rules.ascends _ Limits.branching_rule rules.branches n (m ∷ []) refl (omega arith) (both_true _ _ (lt-ltb m n earlier) refl) (takes _)

      -- Rules 3 and 10, of the last line of each reading.
      pub sensed_right : (p a : ℕ) (rest : Sequence ℕ) (lasts : List ℕ) → sensing t a ≡ true → can_be_run t a s ≡ true → length (unknown_sensed t a s) ≤ Limits.most_forked
          → each_of (λ (k : ℕ). ltb k n) lasts ≡ true → ((d : Line) → each_reads rest Y (states_of (readings (unknown_sensed t a s) s)) (map (λ (k : ℕ). get_or all k d) lasts) ≡ true)
          → Right layout t all n (line_of s (item (act p a) rest) Y (rule_for Y Limits.sensing_rule Limits.sensing_whether_rule) lasts)
      unfolding line_of given_by rule_3 senses_first reads pick
      sensed_right p a rest lasts senses runs narrow earlier each =
          let rule = rule_for Y Limits.sensing_rule Limits.sensing_whether_rule in
          let l = line_of s (item (act p a) rest) Y rule lasts in
          let cited = map (λ (k : ℕ). get_or all k l) lasts in
          let fs = unknown_sensed t a s in
          let counted : 2 ^ length fs ≡ length lasts = sym (states_count fs s) ∙ each_length rest Y (states_of (readings fs s)) cited (each l) ∙ length-map lasts (λ (k : ℕ). get_or all k l) in
          let taken = readings_taken (length fs) narrow in
          line_right s marked (item (act p a) rest) Y rules.ascends rule Limits.sensing_rule rules.senses n lasts
          (subst (λ (k : ℕ). among k (citations_taken Limits.sensing_rule) ≡ true) counted taken.0) (subst (λ (k : ℕ). k ≤ format.citations) counted taken.1) earlier
          (subst (λ (u : State). reads format t cited l a rest u ≡ true) (sym (state_of_literals format s marked))
          (both_true _ _ senses (both_true _ _ runs (count_settled rest Y fs s cited ∙ each l))))
