-- The rules of lines that stand in the input: each list is what stands at its place, each conclusion is a list or a fluent, and each plan is told by its
-- count and its bytes. Assumes nothing.
use Prim.Native.Nat.{ℕ, zero, suc, ◌+◌, ◌*◌, ◌/◌, ◌<◌}
use native.Mathlib.Omega.{arith}
use mathlib.Core.Path.{◌≡◌, refl, sym, ◌∙◌, ap, ap₂, subst}
use mathlib.Core.Bool.{Bool, true, false}
use mathlib.Core.List.{List}
use lib.ListN.{length, get_or}
use lib.Dec.{eqb}
use mir.Syntax.{w64}
use mir.Val.{Fits}
use borrow.Author.Tests.{eqb-true, eq-eqb}
use Rattle.meaning.specs.Tests.{both, fails}
use Rattle.meaning.specs.Limits.{format, all_literals}
use Rattle.meaning.specs.Literals.{exclusive, fluent_of}
use Rattle.meaning.specs.Requests.{Table, Sequence, done, item, act, branching, Branches}
use Rattle.meaning.specs.Lines.{knowledge_of, sensing, senses}
use Rattle.meaning.specs.States.{State, state_of, can_be_run, state_after}
use Rattle.meaning.specs.Derivations.{Conclusion, knows, knows_whether, Line, same_list, same_plan, join, included, literals_of, same_conclusion, part_of, one_literal, settles, acts, one_action, looks_for, one_look, rule_1, rule_2, rule_5, rule_6, rule_7, rule_8}
use Rattle.meaning.proofs.TestLaws.{by-test, clash, same_test, both_left, both_right, both_true}
use Rattle.reading.specs.Listed.{bytes_from, listed, ListHere}
use Rattle.meaning.specs.declared.Form.TheVariants.{Flags}
use Rattle.reading.specs.Planned.{bytes_of}
use Rattle.finding.specs.Branches.{sequence_place, no_item}
use Rattle.finding.specs.PlansHeld.{own_items}
use Rattle.finding.proofs.PlanHere.{count_zero}
use Rattle.steps.specs.Held.{table_in}
use Rattle.steps.specs.AtHand.{Marked}
use Rattle.steps.specs.Small.{Small}
use Rattle.steps.proofs.LookLaws.{after_marked}
use Rattle.steps.proofs.ToldMarks.{marked_as}
use Rattle.comparing.specs.declared.spots.Concludes.{Concludes}
use Rattle.comparing.specs.declared.spots.Concludes.TheVariants.{Literals, Fluent}
use Rattle.comparing.specs.declared.spots.Spot.{Spot}
use Rattle.comparing.specs.Coded.{Tellable}
use Rattle.comparing.specs.Stands.{after_list, PlanStands, ConclusionStands, Stands}
use Rattle.comparing.specs.RuleAnswers.{SomePlan, ItemsStand, SomeItems, SamePlans, JoinedPlans, SameConclusions, SomeLine, Ruled, RuledBy, RuledByTwo}
use Rattle.comparing.proofs.CodedLaws.{same_own, same_bytes, coded_same, tellable_join, none_done, same_done}
use Rattle.comparing.proofs.CodedPlaces.{act_there, BranchingThere, branching_there}

-- TESTS that are put together.
pub no_left : (a b : Bool) → a ≡ false → false ≡ both a b
unfolding both
no_left a b e = rw e refl

pub no_right : (a b : Bool) → b ≡ false → false ≡ both a b
no_right a b e = by-test (both a b) (λ t. clash (both_right a b t) e) sym

pub yes_left : (a b : Bool) → a ≡ true → both a b ≡ b
unfolding both
yes_left a b e = rw e refl

yes_right : (a b : Bool) → b ≡ true → both a b ≡ a
yes_right a b e = same_test (both a b) a (both_left a b) (λ t. both_true a b t e)

-- A LINE at a spot, whose plan's count stands at q.
module _ (d : List ℕ) (w : Spot) (q : ℕ) (after : q ≡ sequence_place Flags d w.line) where
  pub plan_of : (l : Line) → Stands d w l → PlanStands d q w.end l.c
  unfolding sequence_place after_list
  plan_of l sl = subst (λ (j : ℕ). PlanStands d j w.end l.c) (sym after) sl.plan

  module _ (some : SomeLine d w) where
    pub some_plan : SomePlan d q w.end
    some_plan = record { plan = some.line.c; stands = plan_of some.line some.stands }

    pub plan_counted : q + 1 < length d
    plan_counted = (plan_of some.line some.stands).counted

    pub items_fit : Fits w64 (q + 2)
    items_fit = let there = plan_counted in let long = some.long in record { fits = omega (arith, there, long) }

  module _ (count : ℕ) (read : count ≡ get_or d q 0 * 256 + get_or d (q + 1) 0) where
    items_stand : (l : Line) → Stands d w l → ItemsStand d (q + 2) w.end count l.c
    items_stand l sl =
        let there = plan_of l sl in
        let counted = there.count in let most = there.few in
        record {
          counted = read ∙ counted;
          few = omega (arith, read, counted, most);
          ends = there.ends;
          inside = there.inside;
          sized = there.sized;
          bytes = there.bytes;
          tellable = there.tellable;
        }

    pub some_items : SomeLine d w → SomeItems d (q + 2) w.end count
    some_items some = record { items = some.line.c; stand = items_stand some.line some.stands }

pub XClear : (d : List ℕ) (w : Spot) → SomeLine d w → exclusive (listed d w.line) (listed d w.line) ≡ false
XClear d w some = let x = some.stands.X in subst (λ (xs : List ℕ). exclusive xs xs ≡ false) (sym x.same) x.clear

-- A CONCLUSION is the list that stands at its place, or the fluent.
record Lists (d : List ℕ) (y : ℕ) (Y : Conclusion) : Type 0 where
  is : Y ≡ knows (listed d y)
  here : ListHere all_literals d y
  clear : exclusive (listed d y) (listed d y) ≡ false

record Tells (f : ℕ) (Y : Conclusion) : Type 0 where
  is : Y ≡ knows_whether f
  small : f < format.fluents

module _ (d : List ℕ) where
  lists : (y : ℕ) (Y : Conclusion) → ConclusionStands d (Literals y) Y → Lists d y Y
  unfolding ConclusionStands
  lists y (knows Y) there =
      let same = there.same in
      record { is = ap knows (sym same); here = there.here; clear = subst (λ (xs : List ℕ). exclusive xs xs ≡ false) (sym same) there.clear }
  lists y (knows_whether f) there = absurd there

  tells : (f : ℕ) (Y : Conclusion) → ConclusionStands d (Fluent f) Y → Tells f Y
  unfolding ConclusionStands
  tells f (knows Y) there = absurd there
  tells f (knows_whether g) there =
      let same = there.0 in let below = there.1 in
      record { is = ap knows_whether (sym same); small = omega (arith, same, below) }

module _ (d : List ℕ) (w : Spot) where
  -- A list.
  module _ (y : ℕ) (list : w.conclusion ≡ Literals y) where
    YLists : (l : Line) → Stands d w l → Lists d y l.Y
    YLists l sl = lists d y l.Y (subst (λ (c : Concludes). ConclusionStands d c l.Y) list sl.Y)

    pub YHere : SomeLine d w → ListHere all_literals d y
    YHere some = (YLists some.line some.stands).here

    pub YClear : SomeLine d w → exclusive (listed d y) (listed d y) ≡ false
    YClear some = (YLists some.line some.stands).clear

    YSame : (l : Line) → Stands d w l → (xs : List ℕ) → same_conclusion l.Y (knows xs) ≡ same_list (listed d y) xs
    unfolding same_conclusion
    YSame l sl xs = ap (λ (Y : Conclusion). same_conclusion Y (knows xs)) (YLists l sl).is

  -- A fluent.
  module _ (f : ℕ) (whether : w.conclusion ≡ Fluent f) where
    YTells : (l : Line) → Stands d w l → Tells f l.Y
    YTells l sl = tells d f l.Y (subst (λ (c : Concludes). ConclusionStands d c l.Y) whether sl.Y)

    pub fluent_small : (g : ℕ) → g ≡ f → SomeLine d w → g < format.fluents
    fluent_small g is some = let small = (YTells some.line some.stands).small in omega (arith, is, small)

    YOther : (l : Line) → Stands d w l → (xs : List ℕ) → same_conclusion l.Y (knows xs) ≡ false
    unfolding same_conclusion
    YOther l sl xs = ap (λ (Y : Conclusion). same_conclusion Y (knows xs)) (YTells l sl).is

-- RULE 1.
no_count : (d : List ℕ) (q : ℕ) → no_item d q ≡ true → get_or d q 0 * 256 + get_or d (q + 1) 0 ≡ 0
unfolding no_item
no_count d q e =
    let high = eqb-true (get_or d q 0) 0 (both_left _ _ e) in
    let low = eqb-true (get_or d (q + 1) 0) 0 (both_right _ _ e) in
    omega (arith, high, low)

pub empty_whether : (d : List ℕ) (w : Spot) (f : ℕ) → w.conclusion ≡ Fluent f → Ruled d w rule_1 false
unfolding rule_1
empty_whether d w f whether = record { holds = λ l sl. no_right (same_plan l.c done) (same_conclusion l.Y (knows l.X)) (YOther d w f whether l sl l.X) }

module _ (d : List ℕ) (w : Spot) (q : ℕ) (after : q ≡ sequence_place Flags d w.line) (none : Bool) (tested : none ≡ no_item d q) where
  pub empty_same : (y : ℕ) → w.conclusion ≡ Literals y → (r : Bool) → none ≡ true → r ≡ same_list (listed d y) (listed d w.line) → Ruled d w rule_1 r
  unfolding rule_1
  empty_same y list r t is =
      record {
        holds = λ l sl.
            let empty : own_items l.c ≡ 0 = sym (plan_of d w q after l sl).count ∙ no_count d q (sym tested ∙ t) in
            is
            ∙ ap (same_list (listed d y)) sl.X.same
            ∙ sym (YSame d w y list l sl l.X)
            ∙ sym (yes_left (same_plan l.c done) (same_conclusion l.Y (knows l.X)) (same_done l.c ∙ eq-eqb _ _ empty));
      }

  pub not_empty : none ≡ false → Ruled d w rule_1 false
  unfolding rule_1
  not_empty f =
      record {
        holds = λ l sl.
            no_left (same_plan l.c done) (same_conclusion l.Y (knows l.X))
            (by-test (eqb (own_items l.c) 0)
            (λ t. clash (count_zero d q ((plan_of d w q after l sl).count ∙ eqb-true _ _ t)) (sym tested ∙ f))
            (λ e. same_done l.c ∙ e));
      }

-- TWO LINES: their lists X, and their plans with the counts at r and at q.
module _ (d : List ℕ) (v w : Spot) (starts : Bool) (first : starts ≡ same_list (listed d v.line) (listed d w.line)) where
  pub XSame : (c l : Line) → Stands d v c → Stands d w l → starts ≡ same_list c.X l.X
  XSame c l sc sl = first ∙ ap₂ {C = Bool} same_list sc.X.same sl.X.same

module _ (d : List ℕ) (v w : Spot) (r q : ℕ) (given : r ≡ sequence_place Flags d v.line) (after : q ≡ sequence_place Flags d w.line) (same : Bool) (compared : SamePlans d r v.end d q w.end same) where
  plans_are : (c l : Line) → Stands d v c → Stands d w l → same ≡ same_plan c.c l.c
  plans_are c l sc sl = compared.holds c.c l.c (plan_of d v r given c sc) (plan_of d w q after l sl)

-- RULE 6. A fluent is part of nothing, and nothing is part of it.
part_of_fluent : (Y : Conclusion) (f : ℕ) → part_of Y (knows_whether f) ≡ false
unfolding part_of
part_of_fluent (knows Y) f = refl
part_of_fluent (knows_whether g) f = refl

module _ (d : List ℕ) (v w : Spot) where
  not_part : ((c l : Line) → Stands d v c → Stands d w l → part_of l.Y c.Y ≡ false) → RuledBy d v w rule_6 false
  unfolding rule_6
  not_part never = record { holds = λ c l sc sl. no_right (included c.X l.X) _ (sym (no_right (same_plan c.c l.c) (part_of l.Y c.Y) (never c l sc sl))) }

  pub part_of_whether : (f : ℕ) → v.conclusion ≡ Fluent f → RuledBy d v w rule_6 false
  part_of_whether f whether = not_part (λ c l sc sl. ap (part_of l.Y) (YTells d v f whether c sc).is ∙ part_of_fluent l.Y f)

  pub whether_in_part : (f : ℕ) → w.conclusion ≡ Fluent f → RuledBy d v w rule_6 false
  unfolding part_of
  whether_in_part f whether = not_part (λ c l sc sl. ap (λ (Y : Conclusion). part_of Y c.Y) (YTells d w f whether l sl).is)

  module _ (starts : Bool) (first : starts ≡ included (listed d v.line) (listed d w.line)) where
    starts_is : (c l : Line) → Stands d v c → Stands d w l → starts ≡ included c.X l.X
    starts_is c l sc sl = first ∙ ap₂ {C = Bool} included sc.X.same sl.X.same

    pub not_within : starts ≡ false → RuledBy d v w rule_6 false
    unfolding rule_6
    not_within f = record { holds = λ c l sc sl. no_left _ _ (sym (starts_is c l sc sl) ∙ f) }

    module _ (t : starts ≡ true) (r q : ℕ) (given : r ≡ sequence_place Flags d v.line) (after : q ≡ sequence_place Flags d w.line) (same : Bool) (second : SamePlans d r v.end d q w.end same) where
      same_is : (c l : Line) → Stands d v c → Stands d w l → same ≡ same_plan c.c l.c
      same_is = plans_are d v w r q given after same second

      pub other_plan : same ≡ false → RuledBy d v w rule_6 false
      unfolding rule_6
      other_plan f =
          record {
            holds = λ c l sc sl. no_right (included c.X l.X) _ (sym (no_left (same_plan c.c l.c) (part_of l.Y c.Y) (sym (same_is c l sc sl) ∙ f)));
          }

      pub ends_within : (x y : ℕ) → v.conclusion ≡ Literals x → w.conclusion ≡ Literals y → (answer : Bool) → same ≡ true → answer ≡ included (listed d y) (listed d x) → RuledBy d v w rule_6 answer
      unfolding rule_6 part_of
      ends_within x y from to answer u is =
          record {
            holds = λ c l sc sl.
                is
                ∙ sym (ap₂ {C = Bool} part_of (YLists d w y to l sl).is (YLists d v x from c sc).is)
                ∙ sym (yes_left (same_plan c.c l.c) (part_of l.Y c.Y) (sym (same_is c l sc sl) ∙ u))
                ∙ sym (yes_left (included c.X l.X) _ (sym (starts_is c l sc sl) ∙ t));
          }

-- RULE 8. A list of one literal.
module _ (d : List ℕ) (f p : ℕ) where
  literals_other : (count : ℕ) → (count ≡ 1 → ⊥) → one_literal f (bytes_from d p count) ≡ false
  unfolding one_literal bytes_from
  literals_other zero other = refl
  literals_other (suc zero) other = absurd (other refl)
  literals_other (suc (suc more)) other = refl

  literal_one : one_literal f (bytes_from d p 1) ≡ eqb (get_or d p 0 / 2) f
  unfolding one_literal bytes_from fluent_of
  literal_one = refl

  literal_other : (count : ℕ) → (get_or d p 0 / 2 ≡ f → ⊥) → one_literal f (bytes_from d p count) ≡ false
  unfolding one_literal bytes_from
  literal_other zero other = refl
  literal_other (suc zero) other = literal_one ∙ by-test (eqb (get_or d p 0 / 2) f) (λ t. absurd (other (eqb-true _ _ t))) (λ e. e)
  literal_other (suc (suc more)) other = refl

module _ (d : List ℕ) (v : Spot) (x : ℕ) (from : v.conclusion ≡ Literals x) (some : SomeLine d v) where
  pub literals_there : x < length d
  literals_there = let ends = (YHere d v x from some).ends in omega (arith, ends)

  pub first_there : get_or d x 0 ≡ 1 → x + 1 < length d
  first_there one = let ends = (YHere d v x from some).ends in omega (arith, ends, one)

  pub literal_fits : Fits w64 (x + 1)
  literal_fits = let there = literals_there in let long = some.long in record { fits = omega (arith, there, long) }

-- Nothing settles a list.
settles_list : (Z : Conclusion) (ys : List ℕ) → settles Z (knows ys) ≡ false
unfolding settles
settles_list (knows Z) ys = refl
settles_list (knows_whether f) ys = refl

module _ (d : List ℕ) (v w : Spot) where
  not_settled : ((c l : Line) → Stands d v c → Stands d w l → settles c.Y l.Y ≡ false) → RuledBy d v w rule_8 false
  unfolding rule_8
  not_settled never = record { holds = λ c l sc sl. no_right (same_list c.X l.X) _ (sym (no_right (same_plan c.c l.c) (settles c.Y l.Y) (never c l sc sl))) }

  pub settled_by_whether : (f : ℕ) → v.conclusion ≡ Fluent f → RuledBy d v w rule_8 false
  unfolding settles
  settled_by_whether f whether = not_settled (λ c l sc sl. ap (λ (Z : Conclusion). settles Z l.Y) (YTells d v f whether c sc).is)

  pub list_settled : (y : ℕ) → w.conclusion ≡ Literals y → RuledBy d v w rule_8 false
  list_settled y list = not_settled (λ c l sc sl. ap (settles c.Y) (YLists d w y list l sl).is ∙ settles_list c.Y (listed d y))

  pub settled_elsewhere : (starts : Bool) → starts ≡ same_list (listed d v.line) (listed d w.line) → starts ≡ false → RuledBy d v w rule_8 false
  unfolding rule_8
  settled_elsewhere starts first e = record { holds = λ c l sc sl. no_left (same_list c.X l.X) _ (sym (XSame d v w starts first c l sc sl) ∙ e) }

  -- The cited list against the fluent.
  module _ (x f : ℕ) (from : v.conclusion ≡ Literals x) (to : w.conclusion ≡ Fluent f) where
    settles_is : (c l : Line) → Stands d v c → Stands d w l → settles c.Y l.Y ≡ one_literal f (bytes_from d (x + 1) (get_or d x 0))
    unfolding settles listed
    settles_is c l sc sl = ap₂ {C = Bool} settles (YLists d v x from c sc).is (YTells d w f to l sl).is

    pub not_one_literal : (get_or d x 0 ≡ 1 → ⊥) → RuledBy d v w rule_8 false
    not_one_literal other = not_settled (λ c l sc sl. settles_is c l sc sl ∙ literals_other d f (x + 1) (get_or d x 0) other)

    pub other_fluent : (get_or d (x + 1) 0 / 2 ≡ f → ⊥) → RuledBy d v w rule_8 false
    other_fluent other = not_settled (λ c l sc sl. settles_is c l sc sl ∙ literal_other d f (x + 1) (get_or d x 0) other)

    module _ (one : get_or d x 0 ≡ 1) (same_fluent : get_or d (x + 1) 0 / 2 ≡ f) where
      settles_so : (c l : Line) → Stands d v c → Stands d w l → settles c.Y l.Y ≡ true
      settles_so c l sc sl =
          settles_is c l sc sl
          ∙ ap (λ (k : ℕ). one_literal f (bytes_from d (x + 1) k)) one
          ∙ literal_one d f (x + 1)
          ∙ eq-eqb _ _ same_fluent

      pub settled : (starts : Bool) → starts ≡ same_list (listed d v.line) (listed d w.line) → starts ≡ true
          → (r q : ℕ) → r ≡ sequence_place Flags d v.line → q ≡ sequence_place Flags d w.line → (same : Bool) → SamePlans d r v.end d q w.end same → RuledBy d v w rule_8 same
      unfolding rule_8
      settled starts first t r q given after same second =
          record {
            holds = λ c l sc sl.
                plans_are d v w r q given after same second c l sc sl
                ∙ sym (yes_right (same_plan c.c l.c) (settles c.Y l.Y) (settles_so c l sc sl))
                ∙ sym (yes_left (same_list c.X l.X) _ (sym (XSame d v w starts first c l sc sl) ∙ t));
          }

-- RULES 5 and 11.
plan_either_way : (b c : Sequence ℕ) → Tellable b → Tellable c → same_plan b c ≡ same_plan c b
plan_either_way b c t u =
    same_test (same_plan b c) (same_plan c b)
    (λ e. coded_same c b u t (sym (same_own b c e)) (sym (same_bytes b c e)))
    (λ e. coded_same b c t u (sym (same_own c b e)) (sym (same_bytes c b e)))

module _ (d : List ℕ) (u v w : Spot) where
  pub first_whether : (f : ℕ) → u.conclusion ≡ Fluent f → RuledByTwo d u v w rule_5 false
  unfolding rule_5
  first_whether f whether =
      record {
        holds = λ b c l sb sc sl. no_left _ _ (sym (no_right (same_list b.X l.X) (same_conclusion b.Y (knows c.X)) (YOther d u f whether b sb c.X)));
      }

  module _ (starts : Bool) (first : starts ≡ same_list (listed d u.line) (listed d w.line)) where
    pub starts_apart : starts ≡ false → RuledByTwo d u v w rule_5 false
    unfolding rule_5
    starts_apart f =
        record {
          holds = λ b c l sb sc sl. no_left _ _ (sym (no_left (same_list b.X l.X) (same_conclusion b.Y (knows c.X)) (sym (XSame d u w starts first b l sb sl) ∙ f)));
        }

    module _ (begin : starts ≡ true) (y : ℕ) (list : u.conclusion ≡ Literals y) (meets : Bool) (second : meets ≡ same_list (listed d y) (listed d v.line)) where
      meets_is : (b c l : Line) → Stands d u b → Stands d v c → Stands d w l → meets ≡ same_conclusion b.Y (knows c.X)
      meets_is b c l sb sc sl = second ∙ ap (same_list (listed d y)) sc.X.same ∙ sym (YSame d u y list b sb c.X)

      pub meets_apart : meets ≡ false → RuledByTwo d u v w rule_5 false
      unfolding rule_5
      meets_apart f =
          record {
            holds = λ b c l sb sc sl. no_left _ _ (sym (no_right (same_list b.X l.X) (same_conclusion b.Y (knows c.X)) (sym (meets_is b c l sb sc sl) ∙ f)));
          }

      module _ (meet : meets ≡ true) (ends : Bool) (third : SameConclusions d v w ends) where
        ends_is : (b c l : Line) → Stands d u b → Stands d v c → Stands d w l → ends ≡ same_conclusion c.Y l.Y
        ends_is b c l sb sc sl = third.holds c.Y l.Y sc.Y sl.Y

        pub ends_apart : ends ≡ false → RuledByTwo d u v w rule_5 false
        unfolding rule_5
        ends_apart f =
            record {
              holds = λ b c l sb sc sl.
                  no_right (both (same_list b.X l.X) (same_conclusion b.Y (knows c.X))) _
                  (sym (no_left (same_conclusion c.Y l.Y) (same_plan (join b.c c.c) l.c) (sym (ends_is b c l sb sc sl) ∙ f)));
            }

        pub composed : ends ≡ true → (q q₁ q₂ count more : ℕ) → q ≡ sequence_place Flags d w.line → q₁ ≡ sequence_place Flags d u.line → q₂ ≡ sequence_place Flags d v.line
            → count ≡ get_or d q₁ 0 * 256 + get_or d (q₁ + 1) 0 → more ≡ get_or d q₂ 0 * 256 + get_or d (q₂ + 1) 0
            → (r : Bool) → JoinedPlans d q w.end (q₁ + 2) u.end count (q₂ + 2) v.end more r → RuledByTwo d u v w rule_5 r
        unfolding rule_5
        composed end q q₁ q₂ count more after after₁ after₂ read read₂ r joined =
            record {
              holds = λ b c l sb sc sl.
                  let whole = plan_of d w q after l sl in
                  let one = items_stand d u q₁ after₁ count read b sb in
                  let two = items_stand d v q₂ after₂ more read₂ c sc in
                  joined.holds l.c b.c c.c whole one two
                  ∙ plan_either_way l.c (join b.c c.c) whole.tellable (tellable_join b.c c.c one.tellable two.tellable)
                  ∙ sym (yes_left (same_conclusion c.Y l.Y) (same_plan (join b.c c.c) l.c) (sym (ends_is b c l sb sc sl) ∙ end))
                  ∙ sym (yes_left (both (same_list b.X l.X) (same_conclusion b.Y (knows c.X))) _
                  (yes_left (same_list b.X l.X) (same_conclusion b.Y (knows c.X)) (sym (XSame d u w starts first b l sb sl) ∙ begin) ∙ sym (meets_is b c l sb sc sl) ∙ meet));
            }

-- STATES.
module _ (d : List ℕ) (p : ℕ) (marks : State) (first : marks ≡ state_of format (listed d p)) where
  pub next_marked : (s : List ℕ) (a : ℕ) (next : State) → next ≡ state_after (table_in Flags s) a marks → Marked next
  next_marked s a next then = after_marked (table_in Flags s) a marks next (marked_as (listed d p) marks first) then

-- RULES 2 and 7. An item takes a byte.
pub item_bytes : (c : Sequence ℕ) → 0 < own_items c → 0 < bytes_of Flags c
unfolding own_items bytes_of
item_bytes done h = absurd (omega arith)
item_bytes (item (act o a) rest) h = omega arith
item_bytes (item (branching o bs) rest) h = omega arith

-- One action, or none.
module _ (t : Table) (l : Line) where
  not_one : (c : Sequence ℕ) → (own_items c ≡ 1 → ⊥) → false ≡ one_action format t l c
  unfolding one_action own_items
  not_one done other = refl
  not_one (item (act o a) done) other = absurd (other refl)
  not_one (item (act o a) (item i rest)) other = refl
  not_one (item (branching o bs) rest) other = refl

  one_branching : (o : ℕ) (bs : Branches ℕ) (rest : Sequence ℕ) → false ≡ one_action format t l (item (branching o bs) rest)
  unfolding one_action
  one_branching o bs rest = refl

  one_acts : (o a : ℕ) → one_action format t l (item (act o a) done) ≡ acts format t l a (state_of format l.X)
  unfolding one_action
  one_acts o a = refl

  -- Where no action does.
  acts_never : ((a : ℕ) → false ≡ acts format t l a (state_of format l.X)) → (c : Sequence ℕ) → false ≡ one_action format t l c
  unfolding one_action
  acts_never never done = refl
  acts_never never (item (act o a) done) = never a
  acts_never never (item (act o a) (item i rest)) = refl
  acts_never never (item (branching o bs) rest) = refl

  not_one_look : (c : Sequence ℕ) → (own_items c ≡ 1 → ⊥) → false ≡ one_look format t l c
  unfolding one_look own_items
  not_one_look done other = refl
  not_one_look (item (act o a) done) other = absurd (other refl)
  not_one_look (item (act o a) (item i rest)) other = refl
  not_one_look (item (branching o bs) rest) other = refl

  look_branching : (o : ℕ) (bs : Branches ℕ) (rest : Sequence ℕ) → false ≡ one_look format t l (item (branching o bs) rest)
  unfolding one_look
  look_branching o bs rest = refl

  one_looks : (o a : ℕ) → one_look format t l (item (act o a) done) ≡ looks_for format t l.Y a (state_of format l.X)
  unfolding one_look
  one_looks o a = refl

  looks_never : ((a : ℕ) → false ≡ looks_for format t l.Y a (state_of format l.X)) → (c : Sequence ℕ) → false ≡ one_look format t l c
  unfolding one_look
  looks_never never done = refl
  looks_never never (item (act o a) done) = never a
  looks_never never (item (act o a) (item i rest)) = refl
  looks_never never (item (branching o bs) rest) = refl

record OneAct (c : Sequence ℕ) (a : ℕ) : Type 0 where
  place : ℕ
  is : c ≡ item (act place a) done

-- The conclusion is of the other kind.
module _ (d : List ℕ) (w : Spot) (s : List ℕ) where
  pub action_whether : (f : ℕ) → w.conclusion ≡ Fluent f → Ruled d w (rule_2 format (table_in Flags s)) false
  unfolding rule_2 acts
  action_whether f whether =
      record {
        holds = λ l sl.
            acts_never (table_in Flags s) l
            (λ a. no_right (fails (sensing (table_in Flags s) a)) _ (sym (no_right (can_be_run (table_in Flags s) a (state_of format l.X)) _ (YOther d w f whether l sl _))))
            l.c;
      }

  pub look_lists : (y : ℕ) → w.conclusion ≡ Literals y → Ruled d w (rule_7 format (table_in Flags s)) false
  unfolding rule_7 looks_for
  look_lists y list =
      record {
        holds = λ l sl.
            looks_never (table_in Flags s) l
            (λ a. sym (ap (λ (Y : Conclusion). looks_for format (table_in Flags s) Y a (state_of format l.X)) (YLists d w y list l sl).is))
            l.c;
      }

module _ (d : List ℕ) (w : Spot) (q : ℕ) (after : q ≡ sequence_place Flags d w.line) (count : ℕ) (read : count ≡ get_or d q 0 * 256 + get_or d (q + 1) 0) where
  pub own_count : (l : Line) → Stands d w l → count ≡ own_items l.c
  own_count l sl = read ∙ (plan_of d w q after l sl).count

  pub items_there : (count ≡ 0 → ⊥) → SomeLine d w → q + 2 < length d
  items_there more some =
      let there = plan_of d w q after some.line some.stands in
      let own = own_count some.line some.stands in
      let size = item_bytes some.line.c (omega (arith, more, own)) in
      let ends = there.ends in let inside = there.inside in
      omega (arith, size, ends, inside)

  pub not_one_item : (s : List ℕ) → (count ≡ 1 → ⊥) → Ruled d w (rule_2 format (table_in Flags s)) false
  unfolding rule_2
  not_one_item s other = record { holds = λ l sl. not_one (table_in Flags s) l l.c (λ e. other (own_count l sl ∙ e)) }

  pub not_one_looked : (s : List ℕ) → (count ≡ 1 → ⊥) → Ruled d w (rule_7 format (table_in Flags s)) false
  unfolding rule_7
  not_one_looked s other = record { holds = λ l sl. not_one_look (table_in Flags s) l l.c (λ e. other (own_count l sl ∙ e)) }

  module _ (one : count ≡ 1) where
    own_one : (l : Line) → Stands d w l → own_items l.c ≡ 1
    own_one l sl = sym (own_count l sl) ∙ one

    pub item_there : SomeLine d w → q + 2 < length d
    item_there = items_there (λ e. omega (arith, one, e))

    -- A branching.
    module _ (is : get_or d (q + 2) 0 ≡ 255) where
      one_branches : (l : Line) → Stands d w l → BranchingThere d (q + 2) l.c
      one_branches l sl =
          let own = own_one l sl in
          let there = plan_of d w q after l sl in
          branching_there d (q + 2) l.c (omega (arith, own)) there.tellable there.bytes is

      pub item_branches : (s : List ℕ) → Ruled d w (rule_2 format (table_in Flags s)) false
      unfolding rule_2
      item_branches s =
          record {
            holds = λ l sl.
                let b = one_branches l sl in
                one_branching (table_in Flags s) l b.place b.branches b.rest ∙ ap (one_action format (table_in Flags s) l) (sym b.is);
          }

      pub look_branches : (s : List ℕ) → Ruled d w (rule_7 format (table_in Flags s)) false
      unfolding rule_7
      look_branches s =
          record {
            holds = λ l sl.
                let b = one_branches l sl in
                look_branching (table_in Flags s) l b.place b.branches b.rest ∙ ap (one_look format (table_in Flags s) l) (sym b.is);
          }

    -- An action a.
    module _ (other : get_or d (q + 2) 0 ≡ 255 → ⊥) (a : ℕ) (byte : a ≡ get_or d (q + 2) 0) where
      one_act : (l : Line) → Stands d w l → OneAct l.c a
      one_act l sl =
          let own = own_one l sl in
          let there = plan_of d w q after l sl in
          let b = act_there d (q + 2) l.c (omega (arith, own)) there.tellable there.bytes other in
          let sum = b.own in
          let rest : b.rest ≡ done = none_done b.rest (omega (arith, own, sum)) in
          record { place = b.place; is = b.is ∙ ap₂ {C = Sequence ℕ} (λ x z. item (act b.place x) z) (sym byte) rest }

      pub action_small : SomeLine d w → a < format.actions
      unfolding Small
      action_small some = (subst Small (one_act some.line some.stands).is some.small).0

      module _ (s : List ℕ) (sensed : Bool) (tested : sensed ≡ sensing (table_in Flags s) a) where
        abbrev table : Table
        table = table_in Flags s

        acts_is : (l : Line) → Stands d w l → rule_2 format table l ≡ acts format table l a (state_of format l.X)
        unfolding rule_2
        acts_is l sl = let b = one_act l sl in ap (one_action format table l) b.is ∙ one_acts table l b.place a

        pub action_senses : sensed ≡ true → Ruled d w (rule_2 format (table_in Flags s)) false
        unfolding acts fails
        action_senses t = record { holds = λ l sl. no_left (fails (sensing table a)) _ (ap fails (sym tested ∙ t)) ∙ sym (acts_is l sl) }

        module _ (f : sensed ≡ false) (marks : State) (first : marks ≡ state_of format (listed d w.line)) (runs : Bool) (run : runs ≡ can_be_run (table_in Flags s) a marks) where
          marks_are : (l : Line) → Stands d w l → marks ≡ state_of format l.X
          marks_are l sl = first ∙ ap (state_of format) sl.X.same

          runs_is : (l : Line) → Stands d w l → runs ≡ can_be_run table a (state_of format l.X)
          runs_is l sl = run ∙ ap (can_be_run table a) (marks_are l sl)

          pub action_stuck : runs ≡ false → Ruled d w (rule_2 format (table_in Flags s)) false
          unfolding acts
          action_stuck e =
              record {
                holds = λ l sl.
                    no_right (fails (sensing table a)) _ (sym (no_left (can_be_run table a (state_of format l.X)) _ (sym (runs_is l sl) ∙ e)))
                    ∙ sym (acts_is l sl);
              }

          pub action_leads : (y : ℕ) → w.conclusion ≡ Literals y → runs ≡ true → (next : State) → next ≡ state_after (table_in Flags s) a marks
              → (r : Bool) → r ≡ same_list (listed d y) (literals_of next) → Ruled d w (rule_2 format (table_in Flags s)) r
          unfolding acts fails
          action_leads y list t next then r is =
              record {
                holds = λ l sl.
                    is
                    ∙ ap (λ (state : State). same_list (listed d y) (literals_of state)) (then ∙ ap (state_after table a) (marks_are l sl))
                    ∙ sym (YSame d w y list l sl _)
                    ∙ sym (yes_left (can_be_run table a (state_of format l.X)) _ (sym (runs_is l sl) ∙ t))
                    ∙ sym (yes_left (fails (sensing table a)) _ (ap fails (sym tested ∙ f)))
                    ∙ sym (acts_is l sl);
              }

      -- It looks at the fluent f.
      module _ (x : ℕ) (whether : w.conclusion ≡ Fluent x) (s : List ℕ) (f : ℕ) (told : f ≡ x) (looks : Bool) (looked : looks ≡ senses (knowledge_of (table_in Flags s) a) f) where
        looks_is : (l : Line) → Stands d w l → rule_7 format (table_in Flags s) l ≡ both looks (can_be_run (table_in Flags s) a (state_of format l.X))
        unfolding rule_7 looks_for
        looks_is l sl =
            let b = one_act l sl in
            ap (one_look format (table_in Flags s) l) b.is
            ∙ one_looks (table_in Flags s) l b.place a
            ∙ ap (λ (Y : Conclusion). looks_for format (table_in Flags s) Y a (state_of format l.X)) (YTells d w x whether l sl).is
            ∙ ap (λ (x : Bool). both x (can_be_run (table_in Flags s) a (state_of format l.X))) (ap (senses (knowledge_of (table_in Flags s) a)) (sym told) ∙ sym looked)

        pub looks_elsewhere : looks ≡ false → Ruled d w (rule_7 format (table_in Flags s)) false
        looks_elsewhere e = record { holds = λ l sl. no_left looks _ e ∙ sym (looks_is l sl) }

        pub looks_there : looks ≡ true → (marks : State) → marks ≡ state_of format (listed d w.line) → (r : Bool) → r ≡ can_be_run (table_in Flags s) a marks → Ruled d w (rule_7 format (table_in Flags s)) r
        looks_there t marks first r run =
            record {
              holds = λ l sl.
                  run
                  ∙ ap (can_be_run (table_in Flags s) a) (first ∙ ap (state_of format) sl.X.same)
                  ∙ sym (yes_left looks _ t)
                  ∙ sym (looks_is l sl);
            }
