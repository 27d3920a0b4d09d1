-- Each line in order: its rule, the count of its citations and the citations stand where its spot says, and the lines that are cited stand where
-- their slots say. Assumes nothing.
use Prim.Native.Nat.{ℕ, zero, suc, ◌+◌, ◌-◌, ◌*◌, ◌≤◌, ◌<◌}
use native.Mathlib.Omega.{arith}
use mathlib.Core.Path.{◌≡◌, refl, sym, ◌∙◌, ap, ap₂, subst}
use mathlib.Core.Bool.{Bool, true, false}
use mathlib.Core.List.{List, [], ◌∷◌, map}
use Rattle.std.specs.List.{list_any}
use lib.ListN.{length, get_or}
use lib.Dec.{leb, ltb, eqb}
use mir.Syntax.{w64}
use mir.Val.{Fits}
use borrow.Author.Tests.{ltb-true, leb-true, eqb-true, lt-ltb, le-ltb, eq-eqb, ne_eqb}
use Rattle.meaning.specs.declared.Form.TheVariants.{Flags}
use Rattle.meaning.specs.declared.Layout.{Layout}
use Rattle.meaning.specs.declared.Layout.TheVariants.{Plain, Closing}
use Rattle.meaning.specs.Tests.{both, either, fails, pick, some_of, each_of}
use Rattle.meaning.specs.Limits.{format}
use Rattle.meaning.specs.Literals.{among}
use Rattle.meaning.specs.Requests.{Table}
use Rattle.meaning.specs.Derivations.{Line, rule_1, rule_2, rule_3, rule_4, rule_5, rule_6, rule_7, rule_8, of_one, of_two, given_by, for_lists, follows, citations_taken, citations_of, a_rule, cited_by}
use Rattle.meaning.proofs.TestLaws.{by-test, clash, both_left, both_right, fails_false, pick_true, pick_false, each_mono}
use Rattle.std.specs.Prelude.{Option, Some, None}
use Rattle.parsing.specs.declared.rule_kinds.Rule.{Rule}
use Rattle.parsing.specs.declared.rule_kinds.Rule.TheVariants.{Empty, Action, Sensing, Branching, Composition, Consequence, Look, Literal, SensingWhether, CompositionWhether, BranchingWhether}
use Rattle.parsing.specs.RuleKinds.{rule_number, rule_of}
use Rattle.parsing.proofs.RuleNumbers.{rule_has, none_has}
use Rattle.ruling.proofs.ReadingRuleLaws.{number_stands, each_at}
use Rattle.derivation.specs.Derived.{LineHere}
use Rattle.derivation.specs.DerivationRead.{plan_ends_slot}
use Rattle.steps.specs.Small.{Small}
use Rattle.steps.proofs.SmallActions.{plan_small}
use Rattle.comparing.specs.declared.spots.Spot.{Spot}
use Rattle.comparing.specs.Stands.{after_list, number_cited, NumbersStand, Stands}
use Rattle.comparing.specs.RuleAnswers.{SomeLine, SomeRead, SomeLines, Ruled, RuledBy, RuledByTwo, RuledByAll, ReadBy, CitedBelow}
use Rattle.comparing.proofs.SpotLaws.{spot_line}
use Rattle.comparing.proofs.LinesStand.{line_parts, line_number}
use Rattle.checking.specs.Checked.{lines_in, no_line, line_in, spot_in, Numbered, CitesEarlier, all_below, numbers_from, refused_by}

-- WHICH BYTES are rules.
no_fail : (b : Bool) → b ≡ true → fails b ≡ false
unfolding fails
no_fail true e = refl
no_fail false e = clash e refl

module _ (k : ℕ) (none : rule_of k ≡ None) where
  none_early : 1 ≤ k → k ≤ 8 → ⊥
  none_early least most =
      let no-1 : k ≡ 1 → ⊥ = none_has k none Empty in
      let no-2 : k ≡ 2 → ⊥ = none_has k none Action in
      let no-3 : k ≡ 3 → ⊥ = none_has k none Sensing in
      let no-4 : k ≡ 4 → ⊥ = none_has k none Branching in
      let no-5 : k ≡ 5 → ⊥ = none_has k none Composition in
      let no-6 : k ≡ 6 → ⊥ = none_has k none Consequence in
      let no-7 : k ≡ 7 → ⊥ = none_has k none Look in
      let no-8 : k ≡ 8 → ⊥ = none_has k none Literal in
      omega (arith, least, most, no-1, no-2, no-3, no-4, no-5, no-6, no-7, no-8)

  none_late : 10 ≤ k → k ≤ 12 → ⊥
  none_late least most =
      let no-10 : k ≡ 10 → ⊥ = none_has k none SensingWhether in
      let no-11 : k ≡ 11 → ⊥ = none_has k none CompositionWhether in
      let no-12 : k ≡ 12 → ⊥ = none_has k none BranchingWhether in
      omega (arith, least, most, no-10, no-11, no-12)

  outside : (from to : ℕ) → (from ≤ k → k ≤ to → ⊥) → both (leb from k) (leb k to) ≡ false
  outside from to out = by-test (both (leb from k) (leb k to)) (λ t. absurd (out (leb-true from k (both_left _ _ t)) (leb-true k to (both_right _ _ t)))) (λ f. f)

  no_a_rule : (layout : Layout) → a_rule layout k ≡ false
  unfolding a_rule either
  no_a_rule Plain = outside 1 6 (λ least most. none_early least (omega (arith, most)))
  no_a_rule Closing = rw (outside 1 8 none_early) (outside 10 12 none_late)

pub closing_rule : (layout : Layout) (rule : Rule) → layout ≡ Closing → true ≡ a_rule layout (rule_number rule)
unfolding a_rule both either
closing_rule layout rule is = rw is (each rule)
  where
    each : (r : Rule) → true ≡ a_rule Closing (rule_number r)
    each Empty = refl
    each Action = refl
    each Sensing = refl
    each Branching = refl
    each Composition = refl
    each Consequence = refl
    each Look = refl
    each Literal = refl
    each SensingWhether = refl
    each CompositionWhether = refl
    each BranchingWhether = refl

-- HOW MANY a rule takes.
alone : (count k : ℕ) → eqb count k ≡ among count (k ∷ [])
unfolding among some_of either
alone count k = by-test (eqb count k) (λ t. rw t refl) (λ f. rw f refl)

abbrev Counts : List ℕ
Counts = 1 ∷ 2 ∷ 4 ∷ 8 ∷ 16 ∷ 32 ∷ 64 ∷ []

module _ (count : ℕ) where
  any_among : (xs : List ℕ) → list_any (λ y. eqb y count) xs ≡ among count xs
  unfolding among some_of either
  any_among [] = refl
  any_among (x ∷ xs) =
      by-test (eqb x count)
      (λ t. let same = eqb-true x count t in rw (t, eq-eqb count x (sym same)) refl)
      (λ f. rw (f, ne_eqb count x (λ e. clash (eq-eqb x count (sym e)) f)) (any_among xs))

  pub reads_told : (r : Bool) → r ≡ list_any (λ y. eqb y count) Counts → r ≡ among count Counts
  reads_told r is = is ∙ any_among Counts

-- The rules that take one citation.
abbrev pub takes_one : Rule → Bool
takes_one Empty = false
takes_one Action = false
takes_one Sensing = false
takes_one Branching = true
takes_one Composition = false
takes_one Consequence = true
takes_one Look = false
takes_one Literal = true
takes_one SensingWhether = true
takes_one CompositionWhether = true
takes_one BranchingWhether = true

-- Those that take none.
abbrev pub takes_none : Rule → Bool
takes_none Empty = true
takes_none Action = true
takes_none Sensing = false
takes_none Branching = false
takes_none Composition = false
takes_none Consequence = false
takes_none Look = true
takes_none Literal = false
takes_none SensingWhether = false
takes_none CompositionWhether = false
takes_none BranchingWhether = false

-- Those that `given_by` has last.
abbrev pub comes_last : Rule → Bool
comes_last Empty = false
comes_last Action = false
comes_last Sensing = false
comes_last Branching = false
comes_last Composition = false
comes_last Consequence = false
comes_last Look = false
comes_last Literal = true
comes_last SensingWhether = true
comes_last CompositionWhether = true
comes_last BranchingWhether = true

one_taken : (rule : Rule) → takes_one rule ≡ true → citations_taken (rule_number rule) ≡ 1 ∷ []
unfolding citations_taken pick
one_taken Empty e = clash e refl
one_taken Action e = clash e refl
one_taken Sensing e = clash e refl
one_taken Branching e = refl
one_taken Composition e = clash e refl
one_taken Consequence e = refl
one_taken Look e = clash e refl
one_taken Literal e = refl
one_taken SensingWhether e = refl
one_taken CompositionWhether e = refl
one_taken BranchingWhether e = refl

none_taken : (rule : Rule) → takes_none rule ≡ true → citations_taken (rule_number rule) ≡ 0 ∷ []
unfolding citations_taken pick
none_taken Empty e = refl
none_taken Action e = refl
none_taken Sensing e = clash e refl
none_taken Branching e = clash e refl
none_taken Composition e = clash e refl
none_taken Consequence e = clash e refl
none_taken Look e = refl
none_taken Literal e = clash e refl
none_taken SensingWhether e = clash e refl
none_taken CompositionWhether e = clash e refl
none_taken BranchingWhether e = clash e refl

module _ (rule : Rule) where
  two_taken : rule ≡ Composition → citations_taken (rule_number rule) ≡ 2 ∷ []
  unfolding citations_taken pick
  two_taken e = rw e refl

  module _ (count : ℕ) where
    takes_alone : (k : ℕ) → citations_taken (rule_number rule) ≡ k ∷ [] → eqb count k ≡ among count (citations_taken (rule_number rule))
    takes_alone k is = rw is (alone count k)

    pub takes_nothing : takes_none rule ≡ true → eqb count 0 ≡ among count (citations_taken (rule_number rule))
    takes_nothing e = takes_alone 0 (none_taken rule e)

    pub takes_sensing : rule ≡ Sensing → (r : Bool) → r ≡ among count Counts → r ≡ among count (citations_taken (rule_number rule))
    unfolding citations_taken pick
    takes_sensing e r is = rw e is

    pub takes_composition : rule ≡ Composition → eqb count 2 ≡ among count (citations_taken (rule_number rule))
    takes_composition e = takes_alone 2 (two_taken e)

    pub takes_single : takes_one rule ≡ true → eqb count 1 ≡ among count (citations_taken (rule_number rule))
    takes_single e = takes_alone 1 (one_taken rule e)

    taken_as_many : (k : ℕ) → citations_taken (rule_number rule) ≡ k ∷ [] → among count (citations_taken (rule_number rule)) ≡ true → count ≡ k
    taken_as_many k is taken = eqb-true count k (takes_alone k is ∙ taken)

-- WHAT EACH RULE GIVES.
module _ (t : Table) (rule : ℕ) (cited : List Line) (l : Line) where
  gives_empty : rule ≡ 1 → given_by format t rule cited l ≡ rule_1 l
  unfolding given_by pick
  gives_empty e = rw e refl

  gives_action : rule ≡ 2 → given_by format t rule cited l ≡ rule_2 format t l
  unfolding given_by pick
  gives_action e = rw e refl

  gives_sensing : rule ≡ 3 → given_by format t rule cited l ≡ rule_3 format t cited l
  unfolding given_by pick
  gives_sensing e = rw e refl

  gives_branching : rule ≡ 4 → given_by format t rule cited l ≡ of_one (λ (x : Line). rule_4 x l) cited
  unfolding given_by pick
  gives_branching e = rw e refl

  gives_composition : rule ≡ 5 → given_by format t rule cited l ≡ of_two (λ (x y : Line). rule_5 x y l) cited
  unfolding given_by pick
  gives_composition e = rw e refl

  gives_consequence : rule ≡ 6 → given_by format t rule cited l ≡ of_one (λ (x : Line). rule_6 x l) cited
  unfolding given_by pick
  gives_consequence e = rw e refl

  gives_look : rule ≡ 7 → given_by format t rule cited l ≡ rule_7 format t l
  unfolding given_by pick
  gives_look e = rw e refl

gives_last : (t : Table) (rule : Rule) (cited : List Line) (l : Line) → comes_last rule ≡ true → given_by format t (rule_number rule) cited l ≡ of_one (λ (x : Line). rule_8 x l) cited
unfolding given_by pick
gives_last t Empty cited l e = clash e refl
gives_last t Action cited l e = clash e refl
gives_last t Sensing cited l e = clash e refl
gives_last t Branching cited l e = clash e refl
gives_last t Composition cited l e = clash e refl
gives_last t Consequence cited l e = clash e refl
gives_last t Look cited l e = clash e refl
gives_last t Literal cited l e = refl
gives_last t SensingWhether cited l e = refl
gives_last t CompositionWhether cited l e = refl
gives_last t BranchingWhether cited l e = refl

last_takes_one : (rule : Rule) → comes_last rule ≡ true → takes_one rule ≡ true
last_takes_one Empty e = clash e refl
last_takes_one Action e = clash e refl
last_takes_one Sensing e = clash e refl
last_takes_one Branching e = clash e refl
last_takes_one Composition e = clash e refl
last_takes_one Consequence e = clash e refl
last_takes_one Look e = clash e refl
last_takes_one Literal e = refl
last_takes_one SensingWhether e = refl
last_takes_one CompositionWhether e = refl
last_takes_one BranchingWhether e = refl

-- EARLIER LINES. The numbers from `cites` on are as good as those from number k on.
pub record Earlier (d : List ℕ) (cites count i k : ℕ) : Type 0 where
  pub same : all_below i (numbers_from d cites count) ≡ all_below i (numbers_from d (cites + 2 * k) (count - k))

numbers_next : (d : List ℕ) (at left : ℕ) → 0 < left → numbers_from d at left ≡ (get_or d at 0 * 256 + get_or d (at + 1) 0) ∷ numbers_from d (at + 2) (left - 1)
unfolding numbers_from
numbers_next d at zero h = absurd (omega (arith, h))
numbers_next d at (suc left) h = let same : suc left - 1 ≡ left = omega arith in rw same refl

module _ (d : List ℕ) (cites count i : ℕ) where
  pub earlier_start : Earlier d cites count i 0
  earlier_start =
      let at : cites ≡ cites + 2 * 0 = omega arith in
      let left : count ≡ count - 0 = omega arith in
      record { same = ap₂ {C = Bool} (λ (p n : ℕ). all_below i (numbers_from d p n)) at left }

  module _ (k : ℕ) (so_far : Earlier d cites count i k) where
    pub earlier_done : count ≤ k → true ≡ all_below i (numbers_from d cites count)
    unfolding numbers_from all_below each_of
    earlier_done h = let none : count - k ≡ 0 = omega (arith, h) in sym (so_far.same ∙ ap (λ (j : ℕ). all_below i (numbers_from d (cites + 2 * k) j)) none)

    module _ (more : k < count) (number : ℕ) (read : number ≡ get_or d (cites + 2 * k) 0 * 256 + get_or d (cites + 2 * k + 1) 0) where
      on : all_below i (numbers_from d cites count) ≡ both (ltb number i) (all_below i (numbers_from d (cites + 2 * (k + 1)) (count - (k + 1))))
      unfolding all_below each_of
      on =
          let at : cites + 2 * k + 2 ≡ cites + 2 * (k + 1) = omega arith in
          let left : count - k - 1 ≡ count - (k + 1) = omega arith in
          so_far.same ∙ ap (all_below i) (numbers_next d (cites + 2 * k) (count - k) (omega (arith, more))) ∙ rw (sym read, at, left) refl

      pub earlier_not : i ≤ number → false ≡ all_below i (numbers_from d cites count)
      unfolding both
      earlier_not h = sym (on ∙ rw (le-ltb number i h) refl)

      pub earlier_next : number < i → Earlier d cites count i (k + 1)
      unfolding both
      earlier_next h = record { same = on ∙ rw (lt-ltb number i h) refl }

numbers_are : (d : List ℕ) (p : ℕ) (ks : List ℕ) → NumbersStand d p ks → numbers_from d p (length ks) ≡ ks
unfolding NumbersStand numbers_from
numbers_are d p [] w = refl
numbers_are d p (k ∷ ks) w = rw (w.1, numbers_are d (p + 2) ks w.2) refl

pub numbers_room : (d : List ℕ) (p : ℕ) (ks : List ℕ) → p ≤ length d → NumbersStand d p ks → p + 2 * length ks ≤ length d
unfolding NumbersStand
numbers_room d p [] h w = omega (arith, h)
numbers_room d p (k ∷ ks) h w = let there = w.0 in let rest = numbers_room d (p + 2) ks (omega (arith, there)) w.2 in omega (arith, rest)

-- Those that a line standing at w cites are told by the bytes from the count of them on.
cites_told : (d : List ℕ) (w : Spot) (l : Line) → Stands d w l → l.cites ≡ numbers_from d (w.cites + 1) (get_or d w.cites 0)
cites_told d w l there = sym (numbers_are d (w.cites + 1) l.cites there.cites) ∙ ap (numbers_from d (w.cites + 1)) (sym there.cited)

-- One number, or two.
one_number : (ks : List ℕ) → length ks ≡ 1 → ks ≡ get_or ks 0 0 ∷ []
one_number [] h = absurd (omega (arith, h))
one_number (k ∷ []) h = refl
one_number (k ∷ (j ∷ ks)) h = absurd (omega (arith, h))

two_numbers : (ks : List ℕ) → length ks ≡ 2 → ks ≡ get_or ks 0 0 ∷ get_or ks 1 0 ∷ []
two_numbers [] h = absurd (omega (arith, h))
two_numbers (k ∷ []) h = absurd (omega (arith, h))
two_numbers (k ∷ (j ∷ [])) h = refl
two_numbers (k ∷ (j ∷ (i ∷ ks))) h = absurd (omega (arith, h))

line_small : (n m : ℕ) (d : List ℕ) → n ≤ format.fluents → m ≤ format.actions → (layout : Layout) (p : ℕ) (l : Line) → LineHere n m d layout p l → Small l.c
line_small n m d few less layout p l here =
    let parts = line_parts n m d few layout p l here in
    subst Small parts.is (plan_small Flags n m d less (after_list d p) parts.plan parts.end parts.reads)

module _ (layout : Layout) (n m : ℕ) (d places : List ℕ) (count i : ℕ) (here : Numbered layout n m d places count i) where
  inside : (k : ℕ) → k < count → k < length (lines_in layout n m d)
  inside k h = let size = here.all.size in omega (arith, size, h)

  pub own_few : i < format.lines
  own_few = let few = here.all.stand.few in let size = here.all.size in let below = here.below in omega (arith, few, size, below)

  -- Line k, of which another line is asked.
  module _ (k : ℕ) (h : k < count) (other : Line) (w : Spot) (is : w ≡ spot_in layout d places k) where
    stands_at : Stands d w (get_or (lines_in layout n m d) k other)
    stands_at = rw is (here.all.stand.each k (inside k h) other)

    reads_at : LineHere n m d layout w.line (get_or (lines_in layout n m d) k other)
    reads_at =
        let there : w.line ≡ get_or places k 0 = ap (λ (v : Spot). v.line) is ∙ spot_line layout d (get_or places k 0) (get_or places (plan_ends_slot + k) 0) in
        rw there (line_number n m d layout places (lines_in layout n m d) here.all.here k (inside k h) other)

  some_at : (k : ℕ) → k < count → (w : Spot) → w ≡ spot_in layout d places k → SomeLine d w
  some_at k h w is =
      record {
        long = here.all.stand.long;
        line = get_or (lines_in layout n m d) k no_line;
        stands = stands_at k h no_line w is;
        small = line_small n m d here.all.few here.all.less layout w.line (get_or (lines_in layout n m d) k no_line) (reads_at k h no_line w is);
      }

  pub few_fluents : n ≤ format.fluents
  few_fluents = here.all.few

  pub few_actions : m ≤ format.actions
  few_actions = here.all.less

  pub lines_some : SomeLines layout d places count
  lines_some = record { lines = lines_in layout n m d; stand = here.all.stand; size = here.all.size }

  -- What the rule gives of line i and of the lines that it cites.
  abbrev Given : Table → (rule : ℕ) → Bool
  Given t rule = given_by format t rule (cited_by (lines_in layout n m d) (line_in layout n m d i)) (line_in layout n m d i)

  -- The line itself.
  module _ (w : Spot) (is : w ≡ spot_in layout d places i) where
    pub own : Stands d w (line_in layout n m d i)
    unfolding line_in
    own = stands_at i here.below no_line w is

    own_here : LineHere n m d layout w.line (line_in layout n m d i)
    unfolding line_in
    own_here = reads_at i here.below no_line w is

    pub own_some : SomeLine d w
    own_some = some_at i here.below w is

    pub own_read : SomeRead n m d w
    own_read = record { long = here.all.stand.long; layout = layout; line = line_in layout n m d i; here = own_here; stands = own }

    pub cited_there : w.cites < length d
    cited_there = own.counted

    pub cites_fit : Fits w64 (w.cites + 1)
    cites_fit = let there = cited_there in let long = here.all.stand.long in record { fits = omega (arith, there, long) }

    pub cites_room : (cited : ℕ) → cited ≡ get_or d w.cites 0 → w.cites + 1 + 2 * cited ≤ length d
    cites_room cited counted =
        let there = cited_there in
        let size : cited ≡ length (line_in layout n m d i).cites = counted ∙ own.cited in
        let room = numbers_room d (w.cites + 1) (line_in layout n m d i).cites (omega (arith, there)) own.cites in
        omega (arith, size, room)

    -- WHAT REFUSES IT.
    pub not_said : (t : Table) (found : Option Rule) → found ≡ rule_of w.rule → found ≡ None → 31 ≡ refused_by layout t (lines_in layout n m d) i (line_in layout n m d i)
    unfolding refused_by
    not_said t found looked none = sym (pick_true _ _ _ (fails_false _ (no_a_rule (line_in layout n m d i).rule (sym (looked ∙ ap rule_of own.rule) ∙ none) layout)))

    module _ (found : Option Rule) (looked : found ≡ rule_of w.rule) (said : Rule) (told : found ≡ Some said) where
      said_is : rule_number said ≡ (line_in layout n m d i).rule
      said_is = rule_has (line_in layout n m d i).rule said (sym (looked ∙ ap rule_of own.rule) ∙ told)

      pub rule_mapped : (rule : Rule) → rule_number rule ≡ for_lists (rule_number said) → rule_number rule ≡ for_lists (line_in layout n m d i).rule
      rule_mapped rule mapped = mapped ∙ ap for_lists said_is

    module _ (found : Option Rule) (looked : found ≡ rule_of w.rule) (said : Rule) (told : found ≡ Some said) (known : Bool) (tested : known ≡ a_rule layout (rule_number said)) where
      known_is : known ≡ a_rule layout (line_in layout n m d i).rule
      known_is = tested ∙ ap (a_rule layout) (said_is found looked said told)

      pub not_known : (t : Table) → known ≡ false → 31 ≡ refused_by layout t (lines_in layout n m d) i (line_in layout n m d i)
      unfolding refused_by
      not_known t f = sym (pick_true _ _ _ (fails_false _ (sym known_is ∙ f)))

      module _ (ruled : known ≡ true) (rule : Rule) (mapped : rule_number rule ≡ for_lists (rule_number said)) (cited : ℕ) (counted : cited ≡ get_or d w.cites 0) (right : Bool) (taken : right ≡ among cited (citations_taken (rule_number rule))) where
        cited_is : cited ≡ length (line_in layout n m d i).cites
        cited_is = counted ∙ own.cited

        right_is : right ≡ among (length (line_in layout n m d i).cites) (citations_of (line_in layout n m d i).rule)
        unfolding citations_of
        right_is = taken ∙ ap₂ {C = Bool} (λ (a b : ℕ). among a (citations_taken b)) cited_is (rule_mapped found looked said told rule mapped)

        pub not_taken : (t : Table) → right ≡ false → 33 ≡ refused_by layout t (lines_in layout n m d) i (line_in layout n m d i)
        unfolding refused_by
        not_taken t f = sym (pick_false _ _ _ (no_fail _ (sym known_is ∙ ruled)) ∙ pick_true _ _ _ (fails_false _ (sym right_is ∙ f)))

        module _ (yes : right ≡ true) (earlier : Bool) (judged : earlier ≡ all_below i (numbers_from d (w.cites + 1) cited)) where
          earlier_is : earlier ≡ each_of (λ (k : ℕ). ltb k i) (line_in layout n m d i).cites
          unfolding all_below
          earlier_is = judged ∙ ap (all_below i) (ap (numbers_from d (w.cites + 1)) cited_is ∙ numbers_are d (w.cites + 1) (line_in layout n m d i).cites own.cites)

          pub not_earlier : (t : Table) → earlier ≡ false → 32 ≡ refused_by layout t (lines_in layout n m d) i (line_in layout n m d i)
          unfolding refused_by
          not_earlier t f =
              sym (pick_false _ _ _ (no_fail _ (sym known_is ∙ ruled)) ∙ pick_false _ _ _ (no_fail _ (sym right_is ∙ yes)) ∙ pick_true _ _ _ (fails_false _ (sym earlier_is ∙ f)))

          pub cites_earlier : earlier ≡ true → CitesEarlier layout n m d i
          cites_earlier e = record { taken = sym right_is ∙ yes; earlier = sym earlier_is ∙ e }

          module _ (before : earlier ≡ true) (t : Table) (good : Bool) (given : good ≡ Given t (rule_number rule)) where
            good_is : good ≡ follows format t (cited_by (lines_in layout n m d) (line_in layout n m d i)) (line_in layout n m d i)
            unfolding follows
            good_is = given ∙ ap (Given t) (rule_mapped found looked said told rule mapped)

            pub not_following : good ≡ false → 34 ≡ refused_by layout t (lines_in layout n m d) i (line_in layout n m d i)
            unfolding refused_by
            not_following f =
                sym (pick_false _ _ _ (no_fail _ (sym known_is ∙ ruled)) ∙ pick_false _ _ _ (no_fail _ (sym right_is ∙ yes)) ∙ pick_false _ _ _ (no_fail _ (sym earlier_is ∙ before))
                ∙ pick_true _ _ _ (fails_false _ (sym good_is ∙ f)))

            pub following : good ≡ true → 0 ≡ refused_by layout t (lines_in layout n m d) i (line_in layout n m d i)
            unfolding refused_by
            following e =
                sym (pick_false _ _ _ (no_fail _ (sym known_is ∙ ruled)) ∙ pick_false _ _ _ (no_fail _ (sym right_is ∙ yes)) ∙ pick_false _ _ _ (no_fail _ (sym earlier_is ∙ before))
                ∙ pick_false _ _ _ (no_fail _ (sym good_is ∙ e)))

    -- WHAT IT FOLLOWS BY.
    module _ (t : Table) (rule : Rule) (r : Bool) where
      pub by_empty : rule ≡ Empty → Ruled d w rule_1 r → r ≡ Given t (rule_number rule)
      by_empty e says = says.holds (line_in layout n m d i) own ∙ sym (gives_empty t _ _ _ (ap rule_number e))

      pub by_action : rule ≡ Action → Ruled d w (rule_2 format t) r → r ≡ Given t (rule_number rule)
      by_action e says = says.holds (line_in layout n m d i) own ∙ sym (gives_action t _ _ _ (ap rule_number e))

      pub by_look : rule ≡ Look → Ruled d w (rule_7 format t) r → r ≡ Given t (rule_number rule)
      by_look e says = says.holds (line_in layout n m d i) own ∙ sym (gives_look t _ _ _ (ap rule_number e))

    module _ (citing : CitesEarlier layout n m d i) where
      pub cited_below : CitedBelow d w count
      cited_below =
          record {
            holds = λ l there.
                let same : l.cites ≡ (line_in layout n m d i).cites = cites_told d w l there ∙ sym (cites_told d w (line_in layout n m d i) own) in
                let below = here.below in
                rw same
                (each_mono (λ (k : ℕ). ltb k i) (λ (k : ℕ). ltb k count) (λ k e. let less = ltb-true k i e in lt-ltb k count (omega (arith, less, below))) (line_in layout n m d i).cites citing.earlier);
          }

      pub by_sensing : (t : Table) (rule : Rule) (r : Bool) → rule ≡ Sensing → RuledByAll layout d places w (rule_3 format t) r → r ≡ Given t (rule_number rule)
      by_sensing t rule r e says =
          says.holds (lines_in layout n m d) (line_in layout n m d i) here.all.stand own (rw here.all.size (cited_below.holds (line_in layout n m d i) own))
          ∙ sym (gives_sensing t _ _ _ (ap rule_number e))

      -- CITATION k.
      abbrev cites : List ℕ
      cites = (line_in layout n m d i).cites

      module _ (k : ℕ) (less : k < length cites) where
        citation_there : w.cites + 1 + 2 * k + 1 < length d
        citation_there = (number_stands d cites (w.cites + 1) k own.cites less).0

        citation_is : number_cited d w k ≡ get_or cites k 0
        citation_is = (number_stands d cites (w.cites + 1) k own.cites less).1

        citation_below : number_cited d w k < count
        citation_below =
            let same = citation_is in let below = here.below in
            let earlier = ltb-true (get_or cites k 0) i (each_at (λ (j : ℕ). ltb j i) cites k citing.earlier less) in
            omega (arith, same, below, earlier)

        module _ (v : Spot) (at : v ≡ spot_in layout d places (number_cited d w k)) where
          citation_some : SomeLine d v
          citation_some = some_at (number_cited d w k) citation_below v at

          citation_stands : Stands d v (get_or (lines_in layout n m d) (get_or cites k 0) (line_in layout n m d i))
          citation_stands =
              subst (λ (j : ℕ). Stands d v (get_or (lines_in layout n m d) j (line_in layout n m d i))) citation_is
              (stands_at (number_cited d w k) citation_below (line_in layout n m d i) v at)

      module _ (rule : Rule) (mapped : rule_number rule ≡ for_lists (line_in layout n m d i).rule) where
        taken_as : among (length cites) (citations_taken (rule_number rule)) ≡ true
        unfolding citations_of
        taken_as = rw mapped citing.taken

        -- The one citation.
        module _ (one : takes_one rule ≡ true) where
          size_one : length cites ≡ 1
          size_one = taken_as_many rule (length cites) 1 (one_taken rule one) taken_as

          first_near : 0 < length cites
          first_near = let size = size_one in omega (arith, size)

          pub one_there : w.cites + 1 + 2 * 0 + 1 < length d
          one_there = citation_there 0 first_near

          pub one_below : number_cited d w 0 < count
          one_below = citation_below 0 first_near

          module _ (v : Spot) (at : v ≡ spot_in layout d places (number_cited d w 0)) where
            pub one_some : SomeLine d v
            one_some = citation_some 0 first_near v at

            abbrev one_line : Line
            one_line = get_or (lines_in layout n m d) (get_or cites 0 0) (line_in layout n m d i)

            one_stands : Stands d v one_line
            one_stands = citation_stands 0 first_near v at

            only : cited_by (lines_in layout n m d) (line_in layout n m d i) ≡ one_line ∷ []
            unfolding cited_by
            only = ap (map (λ (k : ℕ). get_or (lines_in layout n m d) k (line_in layout n m d i))) (one_number cites size_one)

            module _ (t : Table) (r : Bool) where
              pub by_branching : rule ≡ Branching → ReadBy n m d v w rule_4 r → r ≡ Given t (rule_number rule)
              unfolding of_one
              by_branching e says =
                  says.holds layout one_line (line_in layout n m d i) one_stands own_here own
                  ∙ sym (gives_branching t _ _ _ (ap rule_number e) ∙ ap (of_one (λ (x : Line). rule_4 x (line_in layout n m d i))) only)

              pub by_consequence : rule ≡ Consequence → RuledBy d v w rule_6 r → r ≡ Given t (rule_number rule)
              unfolding of_one
              by_consequence e says =
                  says.holds one_line (line_in layout n m d i) one_stands own
                  ∙ sym (gives_consequence t _ _ _ (ap rule_number e) ∙ ap (of_one (λ (x : Line). rule_6 x (line_in layout n m d i))) only)

              pub by_literal : comes_last rule ≡ true → RuledBy d v w rule_8 r → r ≡ Given t (rule_number rule)
              unfolding of_one
              by_literal e says =
                  says.holds one_line (line_in layout n m d i) one_stands own
                  ∙ sym (gives_last t rule _ _ e ∙ ap (of_one (λ (x : Line). rule_8 x (line_in layout n m d i))) only)

        -- Two.
        module _ (five : rule ≡ Composition) where
          size_two : length cites ≡ 2
          size_two = taken_as_many rule (length cites) 2 (two_taken rule five) taken_as

          both_near : (k : ℕ) → k < 2 → k < length cites
          both_near k h = let size = size_two in omega (arith, h, size)

          pub first_there : w.cites + 1 + 2 * 0 + 1 < length d
          first_there = citation_there 0 (both_near 0 (omega arith))

          pub first_below : number_cited d w 0 < count
          first_below = citation_below 0 (both_near 0 (omega arith))

          pub second_there : w.cites + 1 + 2 * 1 + 1 < length d
          second_there = citation_there 1 (both_near 1 (omega arith))

          pub second_below : number_cited d w 1 < count
          second_below = citation_below 1 (both_near 1 (omega arith))

          pub first_some : (v : Spot) → v ≡ spot_in layout d places (number_cited d w 0) → SomeLine d v
          first_some = citation_some 0 (both_near 0 (omega arith))

          pub second_some : (v : Spot) → v ≡ spot_in layout d places (number_cited d w 1) → SomeLine d v
          second_some = citation_some 1 (both_near 1 (omega arith))

          abbrev line_cited : ℕ → Line
          line_cited k = get_or (lines_in layout n m d) (get_or cites k 0) (line_in layout n m d i)

          pair : cited_by (lines_in layout n m d) (line_in layout n m d i) ≡ line_cited 0 ∷ line_cited 1 ∷ []
          unfolding cited_by
          pair = ap (map (λ (k : ℕ). get_or (lines_in layout n m d) k (line_in layout n m d i))) (two_numbers cites size_two)

          pub by_composition : (v : Spot) → v ≡ spot_in layout d places (number_cited d w 0) → (u : Spot) → u ≡ spot_in layout d places (number_cited d w 1) → (t : Table) (r : Bool) → RuledByTwo d v u w rule_5 r
              → r ≡ Given t (rule_number rule)
          unfolding of_two
          by_composition v at u at_other t r says =
              says.holds (line_cited 0) (line_cited 1) (line_in layout n m d i) (citation_stands 0 (both_near 0 (omega arith)) v at) (citation_stands 1 (both_near 1 (omega arith)) u at_other) own
              ∙ sym (gives_composition t _ _ _ (ap rule_number five) ∙ ap (of_two (λ (x z : Line). rule_5 x z (line_in layout n m d i))) pair)
