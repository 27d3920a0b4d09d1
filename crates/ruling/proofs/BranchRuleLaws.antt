-- Rules 4 and 12 over the bytes: the branches of a plan's first item stand one after another, each with its condition and its sequence, and after the last
-- of them the rest. What the whole branching gives is what the branches that are left give. Assumes nothing.
use Prim.Native.Nat.{ℕ, zero, suc, ◌+◌, ◌-◌, ◌*◌, ◌≤◌, ◌<◌}
use native.Mathlib.Omega.{arith}
use mathlib.Core.Path.{◌≡◌, refl, sym, ◌∙◌, ap, ap₂, subst, fun_ext}
use mathlib.Core.Bool.{Bool, true, false}
use mathlib.Core.List.{List}
use lib.ListN.{length, get_or}
use mir.Syntax.{w64}
use mir.Val.{Fits}
use Rattle.meaning.specs.Tests.{both, either, each_of}
use Rattle.meaning.specs.Limits.{format}
use Rattle.meaning.specs.Literals.{among, exclusive}
use Rattle.meaning.specs.Requests.{Sequence, done, item, act, branching, Branches, none, branch}
use Rattle.meaning.specs.declared.Form.TheVariants.{Flags}
use Rattle.meaning.specs.Reading.{got, Met, plan_at}
use Rattle.meaning.specs.States.{State, known, state_of}
use Rattle.meaning.specs.declared.Layout.{Layout}
use Rattle.meaning.specs.Derivations.{Line, same_list, same_plan, join, included, same_conclusion, says, takes_branch, branches_first, rule_4}
use Rattle.meaning.proofs.TestLaws.{by-test}
use Rattle.meaning.proofs.ToldLaws.{Clear, state_known}
use Rattle.meaning.proofs.SettledLaws.{fault≢got, got_same}
use Rattle.meaning.proofs.PlanReads.{Said, PassedOn, plan_on}
use Rattle.parsing.proofs.LineReaderLaws.{counted_flags}
use Rattle.std.specs.Prelude.{Ok, Err}
use Rattle.parsing.specs.declared.faults.Fault.{Fault}
use Rattle.parsing.specs.Read.{Numbered, stopped}
use Rattle.reading.specs.declared.marks.Test.TheVariants.{Known}
use Rattle.reading.specs.Listed.{listed, holds_as}
use Rattle.reading.specs.Planned.{items_of, items_in, items_under, bytes_of, bytes_in, bytes_under, place_of, plan_noted, noting_met, outcome_met}
use Rattle.reading.proofs.PlanSizes.{two_bytes_through}
use Rattle.reading.proofs.NotingLaws.{with_items, met_value, met_fault, fault_met}
use Rattle.reading.specs.Noted.{slots}
use Rattle.finding.specs.Branches.{sequence_place, place_after, item_after, BranchesHere}
use Rattle.finding.specs.PlansHeld.{own_items, branches_in, Written, ItemWritten, BranchesWritten, Kept, ItemKept, BranchesKept, PlanHeld}
use Rattle.finding.proofs.ByBranch.{branch_first}
use Rattle.finding.proofs.PlanHere.{place_is, item_is, listed_clear}
use Rattle.finding.proofs.WrittenLaws.{plan_held}
use Rattle.derivation.specs.Derived.{LineHere}
use Rattle.comparing.specs.declared.spots.Spot.{Spot}
use Rattle.comparing.specs.Coded.{Tellable, TellableBranches}
use Rattle.comparing.specs.Stands.{after_list, PlanStands, Stands}
use Rattle.comparing.specs.RuleAnswers.{SomePlan, ItemsStand, SomeItems, JoinedPlans, SameConclusions, SomeRead, ReadBy}
use Rattle.ruling.specs.Branched.{branches_end, BranchesHeld, Branched, SomeBranched, takes_known, BranchTaken}
use Rattle.comparing.proofs.CodedLaws.{coded_length, own_most, none_done}
use Rattle.comparing.proofs.CodedPlaces.{branch_coded, act_there, BranchingCoded, branching_there}
use Rattle.comparing.proofs.LinesStand.{LineParts, line_parts}
use Rattle.ruling.proofs.RuleLaws.{XSame, plan_of, item_bytes, own_count}

-- THE PLACE after a given number of branches.
module _ (d t : List ℕ) where
  end_first : (left p i : ℕ) → 0 < left → branches_end d t left p i ≡ branches_end d t (left - 1) (place_after Flags d t p i) (item_after Flags d t p i)
  unfolding branches_end
  end_first zero p i more = absurd (omega (arith, more))
  end_first (suc left) p i more = let less : suc left - 1 ≡ left = omega arith in rw less

  end_none : (left p i : ℕ) → left ≤ 0 → branches_end d t left p i ≡ p
  unfolding branches_end
  end_none zero p i h = refl
  end_none (suc left) p i h = absurd (omega (arith, h))

  module _ (whole left p i : ℕ) (so_far : whole ≡ branches_end d t left p i) where
    pub end_next : 0 < left → (q j : ℕ) → q ≡ place_after Flags d t p i → j ≡ item_after Flags d t p i → whole ≡ branches_end d t (left - 1) q j
    end_next more q j placed counted = so_far ∙ end_first left p i more ∙ rw (placed, counted)

    pub end_done : left ≤ 0 → p ≡ whole
    end_done over = sym (so_far ∙ end_none left p i over)

  -- Branches that are held.
  end_is : (bs : Branches ℕ) (p i : ℕ) → BranchesWritten Flags d p bs → BranchesKept Flags t i p bs → branches_end d t (branches_in bs) p i ≡ p + bytes_under Flags bs
  unfolding branches_end branches_in BranchesWritten BranchesKept bytes_under
  end_is none p i w k = omega arith
  end_is (branch c b rest) p i w k =
      ap₂ {C = ℕ} (λ q j. branches_end d t (branches_in rest) q j) (place_is Flags d t i p c b w.0 k.0) (item_is Flags d t i p c b w.0 k.0)
      ∙ end_is rest (p + (1 + length c) + (2 + bytes_of Flags b)) (i + items_of b) w.2 k.2
      ∙ omega arith

  held_here : (bs : Branches ℕ) (p i : ℕ) → i + items_under bs ≤ format.items → BranchesWritten Flags d p bs → BranchesKept Flags t i p bs → BranchesHere Flags d t (branches_in bs) p i
  unfolding BranchesHere branches_in BranchesWritten BranchesKept items_under
  held_here none p i few w k = tt
  held_here (branch c b rest) p i few w k = (
    record { condition = w.0.here; counted = w.0.there; few = omega (arith, few) },
    rw (place_is Flags d t i p c b w.0 k.0, item_is Flags d t i p c b w.0 k.0)
        (held_here rest (p + (1 + length c) + (2 + bytes_of Flags b)) (i + items_of b) (omega (arith, few)) w.2 k.2),
  )

  -- THE FIRST of the branches, its items, and those after it.
  record FirstBranch (left p i : ℕ) (bs : Branches ℕ) : Type 0 where
    condition : List ℕ
    body : Sequence ℕ
    others : Branches ℕ
    is : bs ≡ branch condition body others
    same : listed d p ≡ condition
    items : ItemsStand d (sequence_place Flags d p + 2) (place_after Flags d t p i) (get_or d (sequence_place Flags d p) 0 * 256 + get_or d (sequence_place Flags d p + 1) 0) body
    count : left - 1 ≡ branches_in others
    then : BranchesHeld d t (place_after Flags d t p i) (item_after Flags d t p i) others

  first_branch : (left p i : ℕ) → 0 < left → (bs : Branches ℕ) → left ≡ branches_in bs → BranchesHeld d t p i bs → FirstBranch left p i bs
  unfolding branches_in BranchesWritten BranchesKept TellableBranches items_under bytes_under sequence_place
  first_branch left p i more none count h = absurd (omega (arith, more, count))
  first_branch left p i more (branch c b rest) count h =
      let w = h.written in let k = h.kept in let few = h.few in let inside = h.inside in
      let code = branch_coded d p c b rest h.bytes in
      let size = code.size in
      let own = own_most b in
      let place : place_after Flags d t p i ≡ p + (1 + length c) + (2 + bytes_of Flags b) = place_is Flags d t i p c b w.0 k.0 in
      let met : item_after Flags d t p i ≡ i + items_of b = item_is Flags d t i p c b w.0 k.0 in
      let counted = code.count in
      record {
        condition = c;
        body = b;
        others = rest;
        is = refl;
        same = w.0.condition;
        items = record {
          counted = counted;
          few = omega (arith, few, own, counted);
          ends = omega (arith, place, size);
          inside = omega (arith, place, inside);
          sized = coded_length b;
          bytes = code.body;
          tellable = h.tellable.1;
        };
        count = omega (arith, count);
        then = rw (place, met)
            (record {
              few = omega (arith, few);
              inside = omega (arith, inside);
              written = w.2;
              kept = k.2;
              bytes = code.more_there;
              tellable = h.tellable.2;
            });
      }

  -- A BRANCHING that stands at `first`.
  module _ (first y more : ℕ) where
    module _ (some : SomeBranched d t first y more) where
      pub second_there : first + 1 < length d
      second_there = some.branched.there

      pub second_fits : Fits w64 (length d) → Fits w64 (first + 1)
      second_fits room = let there = second_there in let most = room.fits in record { fits = omega arith }

      pub start_fits : Fits w64 (length d) → Fits w64 (first + 2)
      start_fits room = let there = second_there in let most = room.fits in record { fits = omega arith }

    module _ (count : ℕ) (is : count ≡ get_or d (first + 1) 0) where
      pub branches_start : SomeBranched d t first y more → BranchesHere Flags d t count (first + 2) 1
      branches_start some =
          let b = some.branched in
          rw (is ∙ b.count) (held_here some.branches (first + 2) 1 b.held.few b.held.written b.held.kept)

      module _ (rest : ℕ) (after : rest ≡ branches_end d t count (first + 2) 1) where
        rest_place : (bs : Branches ℕ) (last : Sequence ℕ) → Branched d t first y more bs last → rest ≡ first + 2 + bytes_under Flags bs
        rest_place bs last b = after ∙ ap (λ (k : ℕ). branches_end d t k (first + 2) 1) (is ∙ b.count) ∙ end_is bs (first + 2) 1 b.held.written b.held.kept

        rest_items : (bs : Branches ℕ) (last : Sequence ℕ) → Branched d t first y more bs last → ItemsStand d rest y more last
        rest_items bs last b = subst (λ (k : ℕ). ItemsStand d k y more last) (sym (rest_place bs last b)) b.rest_stands

        pub rest_there : SomeBranched d t first y more → SomeItems d rest y more
        rest_there some = record { items = some.rest; stand = rest_items some.branches some.rest some.branched }

-- The count of a branch's items, and where these begin.
module _ (d t : List ℕ) (left p i sequence : ℕ) (more : 0 < left) (here : BranchesHere Flags d t left p i) (at : sequence ≡ sequence_place Flags d p) where
  pub count_there : sequence + 1 < length d
  count_there = rw at (branch_first Flags d t left p i more here).counted

  pub items_fit : Fits w64 (length d) → Fits w64 (sequence + 2)
  items_fit room = let there = count_there in let most = room.fits in record { fits = omega arith }

-- THE LOOP. Of whatever branching stands there, the branches from p on give what all of them give.
pub record Left (d t : List ℕ) (held : State) (left p i : ℕ) (bs : Branches ℕ) (rest c : Sequence ℕ) : Type 0 where
  branches : Branches ℕ
  count : left ≡ branches_in branches
  here : BranchesHeld d t p i branches
  same : takes_known held bs rest c ≡ takes_known held branches rest c

pub record Trying (d t : List ℕ) (held : State) (first cited yc y more left p i : ℕ) : Type 0 where
  pub holds : (bs : Branches ℕ) (rest c : Sequence ℕ) → Branched d t first y more bs rest → PlanStands d cited yc c → Left d t held left p i bs rest c

module _ (d t : List ℕ) (held : State) (first cited yc y more : ℕ) where
  pub trying_starts : (count : ℕ) → count ≡ get_or d (first + 1) 0 → Trying d t held first cited yc y more count (first + 2) 1
  trying_starts count is = record { holds = λ bs rest c b plan. record { branches = bs; count = is ∙ b.count; here = b.held; same = refl } }

  module _ (left p i : ℕ) (so_far : Trying d t held first cited yc y more left p i) where
    pub taken_none : left ≤ 0 → BranchTaken d t held first cited yc y more false
    unfolding takes_known branches_in
    taken_none over = record { holds = λ bs rest c b plan. let l = so_far.holds bs rest c b plan in nothing bs rest c l.branches l.count l.same }
      where
        nothing : (bs : Branches ℕ) (rest c : Sequence ℕ) (branches : Branches ℕ) → left ≡ branches_in branches → takes_known held bs rest c ≡ takes_known held branches rest c → false ≡ takes_known held bs rest c
        nothing bs rest c none count same = sym same
        nothing bs rest c (branch k b others) count same = absurd (omega (arith, over, count))

    module _ (some_left : 0 < left) where
      record Step (bs : Branches ℕ) (rest c : Sequence ℕ) : Type 0 where
        first_one : (branches : Branches ℕ) × FirstBranch d t left p i branches
        answers : takes_known held bs rest c
            ≡ either (both (each_of (known held) (listed d p)) (same_plan c (join first_one.1.body rest))) (takes_known held first_one.1.others rest c)

      step : (bs : Branches ℕ) (rest c : Sequence ℕ) → Branched d t first y more bs rest → PlanStands d cited yc c → Step bs rest c
      unfolding takes_known
      step bs rest c b plan =
          let l = so_far.holds bs rest c b plan in
          let f = first_branch d t left p i some_left l.branches l.count l.here in
          record {
            first_one = (l.branches, f);
            answers = l.same ∙ ap (λ (x : Branches ℕ). takes_known held x rest c) f.is
                ∙ ap (λ (k : List ℕ). either (both (each_of (known held) k) (same_plan c (join f.body rest))) (takes_known held f.others rest c)) (sym f.same);
          }

      module _ (q j : ℕ) (placed : q ≡ place_after Flags d t p i) (counted : j ≡ item_after Flags d t p i) where
        trying_next : ((bs : Branches ℕ) (rest c : Sequence ℕ) → (b : Branched d t first y more bs rest) → (plan : PlanStands d cited yc c)
            → both (each_of (known held) (listed d p)) (same_plan c (join (step bs rest c b plan).first_one.1.body rest)) ≡ false)
            → Trying d t held first cited yc y more (left - 1) q j
        unfolding either
        trying_next fails =
            record {
              holds = λ bs rest c b plan.
                  let s = step bs rest c b plan in
                  let f = s.first_one.1 in
                  record {
                    branches = f.others;
                    count = f.count;
                    here = rw (placed, counted) f.then;
                    same = s.answers ∙ ap (λ (x : Bool). either x (takes_known held f.others rest c)) (fails bs rest c b plan);
                  };
            }

        module _ (known-here : Bool) (tested : known-here ≡ each_of (holds_as Known held) (listed d p)) where
          test_is : each_of (known held) (listed d p) ≡ known-here
          unfolding holds_as
          test_is = sym tested

          pub trying_unknown : known-here ≡ false → Trying d t held first cited yc y more (left - 1) q j
          unfolding both
          trying_unknown not = trying_next (λ bs rest c b plan. rw (test_is ∙ not))

      -- The branch's items, from two bytes after its count up to q, and the rest's.
      module _ (q sequence items : ℕ) (placed : q ≡ place_after Flags d t p i) (at : sequence ≡ sequence_place Flags d p) (read : items ≡ get_or d sequence 0 * 256 + get_or d (sequence + 1) 0) where
        branch_items : (branches : Branches ℕ) (f : FirstBranch d t left p i branches) → ItemsStand d (sequence + 2) q items f.body
        branch_items branches f = rw (read, placed, at) f.items

        pub branch_there : SomeBranched d t first y more → SomePlan d cited yc → SomeItems d (sequence + 2) q items
        branch_there some plan =
            let s = step some.branches some.rest plan.plan some.branched plan.stands in
            record { items = s.first_one.1.body; stand = branch_items s.first_one.0 s.first_one.1 }

        module _ (count rest : ℕ) (is : count ≡ get_or d (first + 1) 0) (after : rest ≡ branches_end d t count (first + 2) 1) (answer : Bool) (joined : JoinedPlans d cited yc (sequence + 2) q items rest y more answer) where
          same_is : (bs : Branches ℕ) (last c : Sequence ℕ) (b : Branched d t first y more bs last) (plan : PlanStands d cited yc c) → answer ≡ same_plan c (join (step bs last c b plan).first_one.1.body last)
          same_is bs last c b plan =
              let s = step bs last c b plan in
              joined.holds c s.first_one.1.body last plan (branch_items s.first_one.0 s.first_one.1) (rest_items d t first y more count is rest after bs last b)

          pub trying_other : answer ≡ false → (j : ℕ) → j ≡ item_after Flags d t p i → Trying d t held first cited yc y more (left - 1) q j
          unfolding both
          trying_other not j counted =
              trying_next q j placed counted
              (λ bs last c b plan. ap (both (each_of (known held) (listed d p))) (sym (same_is bs last c b plan) ∙ not) ∙ by-test (each_of (known held) (listed d p)) (λ t. rw t) (λ f. rw f))

          pub taken_here : (known-here : Bool) → known-here ≡ each_of (holds_as Known held) (listed d p) → known-here ≡ true → answer ≡ true → BranchTaken d t held first cited yc y more true
          unfolding both either holds_as
          taken_here known-here tested holds same =
              record {
                holds = λ bs last c b plan.
                    let s = step bs last c b plan in
                    sym (s.answers ∙ rw (sym tested ∙ holds, sym (same_is bs last c b plan) ∙ same));
              }

-- THE RULE of whatever lines stand there. A cited line that says another X or another Y says nothing of this one.
module _ (cited l : Line) where
  takes_never : ((b : Sequence ℕ) → says cited l.X b l.Y ≡ false) → (bs : Branches ℕ) (rest : Sequence ℕ) → takes_branch l.X bs rest l.Y cited ≡ false
  unfolding takes_branch both either
  takes_never never none rest = refl
  takes_never never (branch c b bs) rest =
      rw (never (join b rest)) (by-test (included c l.X) (λ t. rw t (takes_never never bs rest)) (λ f. rw f (takes_never never bs rest)))

  rule_never : ((b : Sequence ℕ) → says cited l.X b l.Y ≡ false) → rule_4 cited l ≡ false
  unfolding rule_4 branches_first
  rule_never never = begins l.c
    where
      begins : (b : Sequence ℕ) → branches_first cited l b ≡ false
      begins done = refl
      begins (item (act p a) rest) = refl
      begins (item (branching p bs) rest) = takes_never never bs rest

  XDiffers : same_list cited.X l.X ≡ false → rule_4 cited l ≡ false
  unfolding says both
  XDiffers not = rule_never (λ b. rw not)

  YDiffers : same_conclusion cited.Y l.Y ≡ false → rule_4 cited l ≡ false
  unfolding says both
  YDiffers not =
      rule_never
      (λ b. rw not (by-test (same_plan cited.c b) (λ t. rw t (by-test (same_list cited.X l.X) (λ x. rw x) (λ x. rw x))) (λ f. rw f (by-test (same_list cited.X l.X) (λ x. rw x) (λ x. rw x)))))

  module _ (starts : same_list cited.X l.X ≡ true) (ends : same_conclusion cited.Y l.Y ≡ true) where
    says_is : (b : Sequence ℕ) → says cited l.X b l.Y ≡ same_plan cited.c b
    unfolding says both
    says_is b = rw (starts, ends) (by-test (same_plan cited.c b) (λ t. rw t) (λ f. rw f))

    takes_same : Clear format l.X → (bs : Branches ℕ) (rest : Sequence ℕ) → takes_known (state_of format l.X) bs rest cited.c ≡ takes_branch l.X bs rest l.Y cited
    unfolding takes_known takes_branch included
    takes_same clear none rest = refl
    takes_same clear (branch c b bs) rest =
        let asked : known (state_of format l.X) ≡ (λ (x : ℕ). among x l.X) = fun_ext (state_known format l.X clear) in
        rw (says_is (join b rest), takes_same clear bs rest) (ap (λ (test : ℕ → Bool). either (both (each_of test c) (same_plan cited.c (join b rest))) (takes_branch l.X bs rest l.Y cited)) asked)

-- THE FIRST ITEM of a plan that was read stands after the plan's count.
abbrev FirstAt : ℕ → Sequence ℕ → Type 0
FirstAt p done = Unit {0}
FirstAt p (item i rest) = place_of i ≡ p

module _ (n m : ℕ) (s : List ℕ) where
  abbrev plan_begun : Said
  plan_begun = record {
    item = λ deep p met x e. place_of x.value ≡ p;
    items = λ deep left p met x e. FirstAt p x.value;
    sequence = λ deep p met x e. FirstAt (p + 2) x.value;
    branches = λ deep left p met x e. Unit {0};
  }

  begun_passed : PassedOn format n m s plan_begun
  unfolding place_of
  begun_passed = record {
    an_action = λ deep p met x q _ _ _ _. refl;
    a_branching = λ deep p met x q c r bs e _ _ _ _ _. refl;
    no_item = λ deep p met. tt;
    an_item = λ deep left p met i q rest e one _. one;
    a_sequence = λ deep p met c q b e read all. subst (λ (j : ℕ). FirstAt j b.value) ((two_bytes_through s p).holds c q read).after all;
    no_branch = λ deep p met. tt;
    a_branch = λ deep left p met c q b r rest e _ _ _ _. tt;
  }

  plan_first : (p : ℕ) (x : Met (Sequence ℕ)) (e : ℕ) → plan_at format Flags n m s p ≡ got x e → FirstAt (p + 2) x.value
  plan_first p = (plan_on format n m s plan_begun begun_passed p).holds

-- A LINE whose plan begins with a branching at `first`, and a given number of items after it up to y.
record Begins (d u : List ℕ) (first y more : ℕ) (l : Line) : Type 0 where
  place : ℕ
  branches : Branches ℕ
  rest : Sequence ℕ
  is : l.c ≡ item (branching place branches) rest
  branched : Branched d u first y more branches rest

module _ (d u : List ℕ) (plan y : ℕ) where
  opened : (o : ℕ) (bs : Branches ℕ) (rest : Sequence ℕ) → o ≡ plan + 2 → PlanStands d plan y (item (branching o bs) rest) → PlanHeld Flags d u (item (branching o bs) rest) → BranchingCoded d (plan + 2) bs rest
      → TellableBranches bs → Tellable rest → (more : ℕ) → more ≡ own_items rest → Branched d u (plan + 2) y more bs rest
  unfolding Written ItemWritten Kept ItemKept items_of items_in bytes_of bytes_in own_items
  opened o bs rest place stands held code told tells more counted =
      let few = held.few in let most = stands.few in let inside = stands.inside in let ends = stands.ends in
      let w = held.written.0 in let k = held.kept.0 in
      record {
        there = subst (λ (j : ℕ). j + 1 < length d) place w.0.there;
        count = code.count;
        held = record {
          few = omega (arith, few);
          inside = omega (arith, inside, ends);
          written = subst (λ (j : ℕ). BranchesWritten Flags d (j + 2) bs) place w.1;
          kept = subst (λ (j : ℕ). BranchesKept Flags u 1 (j + 2) bs) place k.1;
          bytes = code.branches_there;
          tellable = told;
        };
        rest_stands = record {
          counted = counted;
          few = omega (arith, counted, most);
          ends = omega (arith, ends);
          inside = inside;
          sized = coded_length rest;
          bytes = code.rest_there;
          tellable = tells;
        };
      }

-- THE CITED LINE, where X or the conclusion differs.
module _ (d : List ℕ) (v w : Spot) (n m : ℕ) (r : Bool) where
  pub starts_other : r ≡ same_list (listed d v.line) (listed d w.line) → r ≡ false → ReadBy n m d v w rule_4 false
  starts_other tested not = record { holds = λ layout c l sc _ sl. sym (XDiffers c l (sym (XSame d v w r tested c l sc sl) ∙ not)) }

  pub ends_other : SameConclusions d v w r → r ≡ false → ReadBy n m d v w rule_4 false
  ends_other tested not = record { holds = λ layout c l sc _ sl. sym (YDiffers c l (sym (tested.holds c.Y l.Y sc.Y sl.Y) ∙ not)) }

-- THE LINE.
module _ (n m : ℕ) (d : List ℕ) (w : Spot) where
  -- Its plan, with the count there.
  module _ (plan : ℕ) (at : plan ≡ sequence_place Flags d w.line) where
    pub plan_counted : SomeRead n m d w → plan + 1 < length d
    plan_counted some = (plan_of d w plan at some.line some.stands).counted

    pub first_fits : SomeRead n m d w → Fits w64 (length d) → Fits w64 (plan + 2)
    first_fits some room = let there = plan_counted some in let most = room.fits in record { fits = omega arith }

    module _ (count : ℕ) (counted : count ≡ get_or d plan 0 * 256 + get_or d (plan + 1) 0) where
      pub count_none : (v : Spot) → count ≡ 0 → ReadBy n m d v w rule_4 false
      unfolding rule_4 branches_first
      count_none v zero-items = record { holds = λ layout c l sc _ sl. sym (ap (branches_first c l) (none_done l.c (sym (own_count d w plan at count counted l sl) ∙ zero-items))) }

      module _ (some_items : count ≡ 0 → ⊥) where
        own_some : (l : Line) → Stands d w l → 0 < own_items l.c
        own_some l sl = let own = own_count d w plan at count counted l sl in omega (arith, own, some_items)

        pub first_there : SomeRead n m d w → plan + 2 < length d
        first_there some =
            let sl = some.stands in
            let ends = (plan_of d w plan at some.line sl).ends in let inside = (plan_of d w plan at some.line sl).inside in
            let bytes = item_bytes some.line.c (own_some some.line sl) in
            omega arith

        -- No branching first.
        pub other_first : (v : Spot) → (get_or d (plan + 2) 0 ≡ 255 → ⊥) → ReadBy n m d v w rule_4 false
        unfolding rule_4 branches_first
        other_first v other =
            record {
              holds = λ layout c l sc _ sl.
                  let there = plan_of d w plan at l sl in
                  sym (ap (branches_first c l) (act_there d (plan + 2) l.c (own_some l sl) there.tellable there.bytes other).is);
            }

        -- THE PLAN READ AGAIN, which leaves it in the notes.
        module _ (byte : get_or d (plan + 2) 0 ≡ 255) (few : n ≤ format.fluents) (less : m ≤ format.actions) (t u : List ℕ) (r : Numbered) (read : outcome_met r u ≡ noting_met (plan_noted Flags plan t) (plan_at format Flags n m d plan)) where
          again : (l : Line) (parts : LineParts n m d w.line l) → plan_at format Flags n m d plan ≡ got parts.plan parts.end
          unfolding sequence_place after_list
          again l parts = ap (plan_at format Flags n m d) at ∙ parts.reads

          module _ (long : length t ≡ slots) (items e : ℕ) (is : r ≡ Ok (items, e)) where
            begins : (layout : Layout) (l : Line) → LineHere n m d layout w.line l → Stands d w l → Begins d u (plan + 2) w.end (count - 1) l
            unfolding place_of
            begins layout l here sl =
                let parts = line_parts n m d few layout w.line l here in
                let v = met_value (plan_noted Flags plan t) (plan_at format Flags n m d plan) r u items e read is in
                let same : with_items v.0 items ≡ parts.plan = got_same (sym v.1 ∙ again l parts) in
                let tree : v.0 ≡ l.c = ap (λ (x : Met (Sequence ℕ)). x.value) same ∙ parts.is in
                let there = plan_of d w plan at l sl in
                let b = branching_there d (plan + 2) l.c (own_some l sl) there.tellable there.bytes byte in
                let whole : v.0 ≡ item (branching b.place b.branches) b.rest = tree ∙ b.is in
                let read_there = plan_held Flags n m d few less (counted_flags d) plan t (with_items v.0 items) e (omega (arith, long)) v.1 in
                let held : PlanHeld Flags d u v.0 = subst (λ (x : List ℕ). PlanHeld Flags d x v.0) (sym v.2) read_there in
                let own = own_count d w plan at count counted l sl in let one = b.own in
                record {
                  place = b.place;
                  branches = b.branches;
                  rest = b.rest;
                  is = b.is;
                  branched = opened d u plan w.end b.place b.branches b.rest
                      (subst (FirstAt (plan + 2)) whole (plan_first n m d plan (with_items v.0 items) e v.1))
                      (subst (PlanStands d plan w.end) b.is there)
                      (subst (PlanHeld Flags d u) whole held)
                      b.there
                      b.branches_told
                      b.rest_told
                      (count - 1)
                      (omega (arith, own, one));
                }

            pub branching_first : SomeRead n m d w → SomeBranched d u (plan + 2) w.end (count - 1)
            branching_first some =
                let g = begins some.layout some.line some.here some.stands in
                record { branches = g.branches; rest = g.rest; branched = g.branched }

            module _ (v : Spot) (one other : Bool) (starts : one ≡ same_list (listed d v.line) (listed d w.line)) (yes : one ≡ true) (ends : SameConclusions d v w other) (also : other ≡ true) where
              pub rule_by_branch : (held : State) → held ≡ state_of format (listed d w.line) → (given : ℕ) → given ≡ sequence_place Flags d v.line → (answer : Bool)
                  → BranchTaken d u held (plan + 2) given v.end w.end (count - 1) answer → ReadBy n m d v w rule_4 answer
              unfolding rule_4 branches_first
              rule_by_branch held told given place answer taken =
                  record {
                    holds = λ layout c l sc here sl.
                        let g = begins layout l here sl in
                        let apart = subst (λ (xs : List ℕ). exclusive xs xs ≡ false) (sym sl.X.same) sl.X.clear in
                        let clear : Clear format l.X = subst (Clear format) sl.X.same (listed_clear d w.line sl.X.here apart) in
                        taken.holds g.branches g.rest c.c g.branched (plan_of d v given place c sc)
                        ∙ ap (λ (s : State). takes_known s g.branches g.rest c.c) (told ∙ ap (state_of format) sl.X.same)
                        ∙ takes_same c l (sym (XSame d v w one starts c l sc sl) ∙ yes) (sym (ends.holds c.Y l.Y sc.Y sl.Y) ∙ also) clear g.branches g.rest
                        ∙ sym (ap (branches_first c l) g.is);
                  }

          -- A plan that stands there is read without a fault.
          pub read_again : (v : Spot) (why : Fault) → r ≡ Err why → ReadBy n m d v w rule_4 false
          read_again v why is =
              record {
                holds = λ layout c l sc here sl.
                    let no : plan_at format Flags n m d plan ≡ stopped why = fault_met (plan_noted Flags plan t) (plan_at format Flags n m d plan) why (met_fault (plan_noted Flags plan t) (plan_at format Flags n m d plan) r u why read is) in
                    absurd (fault≢got (sym no ∙ again l (line_parts n m d few layout w.line l here)));
              }
