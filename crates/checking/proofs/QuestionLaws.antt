-- Where the parts of a request at hand stand that the question is made of: its counts at places 0 and 1, its facts at place 2, its plan and its
-- goals where the notes say, and its whether entries after the goals. And what is asked of one line. Assumes nothing.
use Prim.Native.Nat.{ℕ, ◌+◌, ◌≤◌, ◌<◌}
use native.Mathlib.Omega.{arith}
use mathlib.Core.Path.{◌≡◌, refl, sym, ◌∙◌, ap, ap₂}
use mathlib.Core.Bool.{Bool, true, false}
use mathlib.Core.List.{List, [], ◌∷◌, map}
use lib.ListN.{length, get_or}
use lib.Dec.{eqb}
use Rattle.meaning.specs.Tests.{both}
use Rattle.meaning.specs.Limits.{format, all_literals}
use Rattle.meaning.specs.Requests.{Entry, Request, values}
use Rattle.meaning.specs.Reading.{placed}
use Rattle.meaning.specs.Derivations.{Conclusion, knows, knows_whether, Line, same_list, same_plan, same_conclusion, says, asks_for, goals_of}
use Rattle.std.specs.Prelude.{Option, Some, None}
use borrow.Author.Tests.{eqb-true, eq-eqb}
use Rattle.meaning.proofs.TestLaws.{same_test}
use Rattle.meaning.proofs.ReadLines.{placed_values}
use Rattle.reading.specs.Listed.{listed, ListHere}
use Rattle.reading.specs.Noted.{plan_slot, items_slot, goals_slot}
use Rattle.finding.specs.Branches.{sequence_place}
use Rattle.steps.specs.Held.{table_in, plan_in, goals_in, whether_in, request_in}
use Rattle.steps.specs.AtHand.{AtHand}
use Rattle.steps.proofs.HandLaws.{starts, sections, goals_here, is_whether}
use Rattle.comparing.specs.declared.spots.Concludes.TheVariants.{Literals, Fluent}
use Rattle.comparing.specs.declared.spots.Spot.{Spot}
use Rattle.comparing.specs.Stands.{PlanStands, ConclusionStands, Stands}
use Rattle.comparing.specs.RuleAnswers.{SomePlan, SamePlans, SomeConcluded, SomeStands, Ruled}
use Rattle.checking.specs.Asked.{conclusion_asked, begins}
use Rattle.comparing.proofs.SpotLaws.{concluded_as, concluded_list}
use Rattle.comparing.proofs.LinesStand.{plan_stands}
use Rattle.ruling.proofs.RuleLaws.{no_left, yes_left, plan_of}
use Rattle.meaning.specs.declared.Form.TheVariants.{Flags}

placed_asked : (p : ℕ) (xs : List ℕ) → map (λ (w : Entry). knows_whether w.value) (placed p xs) ≡ map knows_whether xs
unfolding placed
placed_asked p [] = refl
placed_asked p (x ∷ xs) = ap (λ (Ys : List Conclusion). knows_whether x ∷ Ys) (placed_asked (p + 1) xs)

-- A REQUEST at hand.
module _ (s t : List ℕ) (here : AtHand Flags s t) where
  pub first_there : 0 < length s
  first_there = let there = (starts s t here).front.second in omega (arith, there)

  pub second_there : 1 < length s
  second_there = (starts s t here).front.second

  module _ (n : ℕ) (is : n ≡ get_or s 0 0) where
    pub fluents_are : n ≡ (table_in Flags s).fluents
    fluents_are = is ∙ (starts s t here).front.fluents_are

    pub fluents_few : n ≤ format.fluents
    fluents_few = let few = (starts s t here).front.most in let same = fluents_are in omega (arith, few, same)

  module _ (m : ℕ) (is : m ≡ get_or s 1 0) where
    pub actions_are : m ≡ (table_in Flags s).actions
    actions_are = is ∙ (starts s t here).front.actions_are

    pub actions_few : m ≤ format.actions
    actions_few = let few = (starts s t here).front.few in let same = actions_are in omega (arith, few, same)

  module _ (goals : ℕ) (at-goals : goals ≡ get_or t goals_slot 0) where
    pub goals_there : ListHere all_literals s goals
    goals_there = goals_here s t here goals at-goals

    goals_same : listed s goals ≡ values (request_in Flags s t).goals
    unfolding request_in goals_in
    goals_same = rw at-goals (sym (placed_values (get_or t goals_slot 0 + 1) (listed s (get_or t goals_slot 0))))

    module _ (asked : ℕ) (at-plan : asked ≡ get_or t plan_slot 0) where
      asked_stands : PlanStands s asked goals (plan_in Flags s t)
      unfolding goals_in
      asked_stands =
          let whole = sections s t here in
          rw (at-plan, at-goals)
          (plan_stands (table_in Flags s).fluents (table_in Flags s).actions s here.bytes whole.few whole.less (get_or t plan_slot 0) (record { value = plan_in Flags s t; items = get_or t items_slot 0 }) (goals_in t) here.plan)

      pub asked_some : SomePlan s asked goals
      asked_some = record { plan = plan_in Flags s t; stands = asked_stands }

    -- THE WHETHER ENTRIES.
    module _ (whether : ℕ) (after : whether ≡ sequence_place Flags s goals) where
      pub whether_asked : map (λ (w : Entry). knows_whether w.value) (request_in Flags s t).whether ≡ map knows_whether (listed s whether)
      unfolding request_in
      whether_asked =
          placed_asked (whether_in Flags s t + 1) (listed s (whether_in Flags s t))
          ∙ ap (λ (p : ℕ). map knows_whether (listed s p)) (sym (is_whether s t here goals at-goals whether after))

  -- THE START of a line at a spot: the facts, then the plan.
  module _ (d : List ℕ) (w : Spot) (facts : Bool) (first : facts ≡ same_list (listed d w.line) (listed s 2)) where
    facts_are : (l : Line) → Stands d w l → facts ≡ same_list l.X (table_in Flags s).facts
    facts_are l stands = first ∙ ap₂ {C = Bool} same_list stands.X.same (starts s t here).facts

    pub other_facts : facts ≡ false → Ruled d w (begins (request_in Flags s t)) false
    unfolding begins request_in
    other_facts f = record { holds = λ l stands. no_left (same_list l.X (table_in Flags s).facts) _ (sym (facts_are l stands) ∙ f) }

    pub same_facts : facts ≡ true → (q : ℕ) → q ≡ sequence_place Flags d w.line → (asked : ℕ) → asked ≡ get_or t plan_slot 0 → (goals : ℕ) → goals ≡ get_or t goals_slot 0 → (r : Bool) → SamePlans d q w.end s asked goals r
        → Ruled d w (begins (request_in Flags s t)) r
    unfolding begins request_in
    same_facts e q after asked at-plan goals at-goals r same =
        record {
          holds = λ l stands.
              same.holds l.c (plan_in Flags s t) (plan_of d w q after l stands) (asked_stands goals at-goals asked at-plan)
              ∙ sym (yes_left (same_list l.X (table_in Flags s).facts) _ (sym (facts_are l stands) ∙ e));
        }

-- A LINE at a spot.
module _ (d : List ℕ) (w : Spot) (some : SomeStands d w) where
  pub own_plan : (q : ℕ) → q ≡ sequence_place Flags d w.line → SomePlan d q w.end
  own_plan q after = record { plan = some.line.c; stands = plan_of d w q after some.line some.stands }

  concluded : SomeConcluded d w
  concluded = record { conclusion = some.line.Y; stands = some.stands.Y }

  pub own_list : (y : ℕ) → w.conclusion ≡ Literals y → ListHere all_literals d y
  own_list y list = concluded_list d w y list concluded

eqb_either_way : (a b : ℕ) → eqb a b ≡ eqb b a
eqb_either_way a b = same_test (eqb a b) (eqb b a) (λ t. eq-eqb b a (sym (eqb-true a b t))) (λ t. eq-eqb a b (sym (eqb-true b a t)))

-- A CONCLUSION that stands there, against a list and against a fluent.
module _ (d : List ℕ) where
  list_as : (y : ℕ) (Y : Conclusion) → ConclusionStands d (Literals y) Y → (xs : List ℕ) → same_conclusion Y (knows xs) ≡ same_list (listed d y) xs
  unfolding ConclusionStands same_conclusion
  list_as y (knows Y) there xs = rw there.same refl
  list_as y (knows_whether g) there xs = absurd there

  list_other : (h : ℕ) (Y : Conclusion) → ConclusionStands d (Fluent h) Y → (xs : List ℕ) → same_conclusion Y (knows xs) ≡ false
  unfolding ConclusionStands same_conclusion
  list_other h (knows Y) there xs = absurd there
  list_other h (knows_whether g) there xs = refl

  fluent_as : (h : ℕ) (Y : Conclusion) → ConclusionStands d (Fluent h) Y → (f : ℕ) → same_conclusion Y (knows_whether f) ≡ eqb f h
  unfolding ConclusionStands same_conclusion
  fluent_as h (knows Y) there f = absurd there
  fluent_as h (knows_whether g) there f = let same = there.0 in rw (sym same) (eqb_either_way h f)

  fluent_other : (y : ℕ) (Y : Conclusion) → ConclusionStands d (Literals y) Y → (f : ℕ) → same_conclusion Y (knows_whether f) ≡ false
  unfolding ConclusionStands same_conclusion
  fluent_other y (knows Y) there f = refl
  fluent_other y (knows_whether g) there f = absurd there

-- THE QUESTION of a line at a spot: its start, then its conclusion.
both_again : (a b c : Bool) → both a (both b c) ≡ both (both a b) c
unfolding both
both_again true b c = refl
both_again false b c = refl

begins_first : (r : Request) (Y : Conclusion) (l : Line) → asks_for r Y l ≡ both (begins r l) (same_conclusion l.Y Y)
unfolding asks_for says begins
begins_first r Y l = both_again (same_list l.X r.table.facts) (same_plan l.c r.plan) (same_conclusion l.Y Y)

module _ (r : Request) (d : List ℕ) (w : Spot) (asked : Option ℕ) (begun : Bool) (first : Ruled d w (begins r) begun) where
  pub other_start : begun ≡ false → Ruled d w (asks_for r (conclusion_asked r asked)) false
  other_start f =
      record {
        holds = λ l stands. no_left (begins r l) _ (sym (first.holds l stands) ∙ f) ∙ sym (begins_first r (conclusion_asked r asked) l);
      }

  module _ (begin : begun ≡ true) where
    asks_as : (Y : Conclusion) → conclusion_asked r asked ≡ Y → (l : Line) → Stands d w l → asks_for r (conclusion_asked r asked) l ≡ same_conclusion l.Y Y
    asks_as Y is l stands = begins_first r (conclusion_asked r asked) l ∙ yes_left (begins r l) _ (sym (first.holds l stands) ∙ begin) ∙ ap (same_conclusion l.Y) is

    module _ (goals : asked ≡ None) where
      is_goals : conclusion_asked r asked ≡ goals_of r
      unfolding conclusion_asked
      is_goals = rw goals refl

      pub goals_not_fluent : (g : ℕ) → w.conclusion ≡ Fluent g → Ruled d w (asks_for r (conclusion_asked r asked)) false
      unfolding goals_of
      goals_not_fluent g e =
          record {
            holds = λ l stands.
                sym (asks_as (goals_of r) is_goals l stands ∙ list_other d g l.Y (concluded_as d w.conclusion (Fluent g) l.Y e stands.Y) (values r.goals));
          }

      goals_list : (y : ℕ) → w.conclusion ≡ Literals y → (xs : List ℕ) → xs ≡ values r.goals → (same : Bool) → same ≡ same_list (listed d y) xs → Ruled d w (asks_for r (conclusion_asked r asked)) same
      unfolding goals_of
      goals_list y e xs are same is =
          record {
            holds = λ l stands.
                is
                ∙ ap (same_list (listed d y)) are
                ∙ sym (asks_as (goals_of r) is_goals l stands ∙ list_as d y l.Y (concluded_as d w.conclusion (Literals y) l.Y e stands.Y) (values r.goals));
          }

    module _ (f : ℕ) (fluent : asked ≡ Some f) where
      is_fluent : conclusion_asked r asked ≡ knows_whether f
      unfolding conclusion_asked
      is_fluent = rw fluent refl

      pub fluent_not_list : (y : ℕ) → w.conclusion ≡ Literals y → Ruled d w (asks_for r (conclusion_asked r asked)) false
      fluent_not_list y e =
          record {
            holds = λ l stands. sym (asks_as (knows_whether f) is_fluent l stands ∙ fluent_other d y l.Y (concluded_as d w.conclusion (Literals y) l.Y e stands.Y) f);
          }

      pub fluent_asked : (g : ℕ) → w.conclusion ≡ Fluent g → Ruled d w (asks_for r (conclusion_asked r asked)) (eqb f g)
      fluent_asked g e =
          record {
            holds = λ l stands. sym (asks_as (knows_whether f) is_fluent l stands ∙ fluent_as d g l.Y (concluded_as d w.conclusion (Fluent g) l.Y e stands.Y) f);
          }

pub goals_asked : (s t : List ℕ) (here : AtHand Flags s t) (d : List ℕ) (w : Spot) (asked : Option ℕ) (begun : Bool) → Ruled d w (begins (request_in Flags s t)) begun → begun ≡ true → asked ≡ None → (y : ℕ) → w.conclusion ≡ Literals y
    → (goals : ℕ) → goals ≡ get_or t goals_slot 0 → (same : Bool) → same ≡ same_list (listed d y) (listed s goals) → Ruled d w (asks_for (request_in Flags s t) (conclusion_asked (request_in Flags s t) asked)) same
goals_asked s t here d w asked begun first begin is y list goals at-goals same said = goals_list (request_in Flags s t) d w asked begun first begin is y list (listed s goals) (goals_same s t here goals at-goals) same said
