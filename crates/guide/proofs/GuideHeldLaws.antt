-- The guide that values stand for. Of a request that is settled it is on its way where the position is one of the plan and the marks are marks, and else it was refused;
-- of any other request it was refused. Assumes nothing.
use Prim.Native.Nat.{ℕ}
use mathlib.Core.Path.{◌≡◌, refl, sym, ◌∙◌, ap}
use mathlib.Core.Bool.{Bool, true, false}
use Rattle.std.specs.Prelude.{Ok, Err}
use Rattle.parsing.specs.Faults.{number_of}
use Rattle.parsing.specs.Read.{Passed, stopped}
use Rattle.parsing.specs.declared.faults.Fault.{Fault}
use Rattle.std.specs.Prelude.{Option, None}
use mathlib.Core.List.{List, []}
use lib.ListN.{length, get_or}
use mir.Syntax.{w8}
use mir.Val.{Fits}
use Rattle.meaning.specs.declared.Answer.{Answer}
use Rattle.meaning.specs.Limits.{format, all_literals}
use Rattle.meaning.specs.Tests.{both}
use Rattle.meaning.specs.Requests.{Sequence, Request}
use Rattle.meaning.specs.Reading.{got, fault}
use Rattle.meaning.specs.Refusals.{settled}
use Rattle.meaning.specs.States.{State, state_of, first_state}
use Rattle.meaning.proofs.TestLaws.{both_left, both_right, both_true, pick_true, pick_false}
use Rattle.meaning.proofs.SettledLaws.{fault≢got, got_same}
use Rattle.reading.specs.Listed.{listed, ListHere}
use Rattle.meaning.specs.declared.Form.TheVariants.{Flags}
use Rattle.reading.specs.Noted.{items_slot, noting, outcome}
use Rattle.reading.specs.Requested.{request_noted}
use Rattle.reading.proofs.SectionLaws.{noting_fault}
use Rattle.finding.specs.TablesHere.{blank}
use Rattle.steps.specs.Held.{table_in, plan_in, request_in}
use Rattle.steps.specs.AtHand.{AtHand, Marked}
use Rattle.steps.specs.Rests.{rest_at, start, Position}
use Rattle.steps.proofs.HandLaws.{facts_here, few_items}
use Rattle.steps.proofs.ToldMarks.{marked_as}
use Rattle.steps.proofs.FirstLaws.{rest_first, first_flags, at_is, starts_there}
use Rattle.glintstring.proofs.SettledAtHand.{settled_got, settled_at_hand, settled_held}
use Rattle.guidance.specs.declared.Told.{Told}
use Rattle.guidance.specs.declared.Told.TheVariants.{Do, Done, Refused}
use Rattle.guidance.specs.Guides.{Guide, refusing, going, of_guide, not_verified, of_request, next}
use Rattle.guidance.specs.Guided.{asked_for}
use Rattle.guide.specs.declared.going.Step.{Step}
use Rattle.guide.specs.declared.sensed.Fluents.{Fluents}
use Rattle.guide.specs.GuideHeld.{asked_by, fluents_of, on_the_way, guide_after, turned, takes, GoesAfter, Turns, is_position, is_marked, guide_got, guide_held, Begins}
use Rattle.guide.proofs.GuideTestLaws.{position_passes, passes_position, marks_pass, pass_marks}
use Rattle.guide.proofs.TurnLaws.{asked_none}

-- BOTH TESTS, one after the other.
module _ (x y : Bool) (there : Bool) (says : there ≡ x) where
  pub both_there : there ≡ true → (r : Bool) → r ≡ y → r ≡ both x y
  unfolding both
  both_there is r last = last ∙ ap (λ (b : Bool). both b y) (sym (sym says ∙ is))

  pub not_there : there ≡ false → there ≡ both x y
  unfolding both
  not_there not = not ∙ ap (λ (b : Bool). both b y) (sym (sym says ∙ not))

module _ (s t : List ℕ) (at : ℕ) (marks : State) (going : Bool) (says : going ≡ both (is_position (plan_in Flags s t) at) (is_marked marks)) (is : going ≡ true) where
  pub going_position : AtHand Flags s t → Position (plan_in Flags s t) at
  going_position here = position_passes (plan_in Flags s t) at (few_items s t here) (both_left _ _ (sym says ∙ is))

  pub going_marked : length marks ≡ format.state → Marked marks
  going_marked sized = marks_pass marks sized (both_right (is_position (plan_in Flags s t) at) _ (sym says ∙ is))

-- THE FLUENTS that are asked for.
pub asked_are : (s : List ℕ) (action : Option ℕ) (fs : List ℕ) → asked_by (table_in Flags s) action ≡ fs → (x : Fluents) → x ≡ fluents_of fs → x ≡ fluents_of (asked_by (table_in Flags s) action)
asked_are s action fs are x is = is ∙ ap fluents_of (sym are)

-- A REQUEST that was read again, and settled.
module _ (s t u : List ℕ) (r : Passed) (settles : outcome r u ≡ noting (request_noted Flags) (settled format s) t) where
  module _ (e : ℕ) (passes : r ≡ Ok e) (bytes : (i : ℕ) → Fits w8 (get_or s i 0)) (empty : t ≡ blank) where
    reads : settled format s ≡ got (request_in Flags s u) e
    reads = (settled_got s t u r settles e passes).1 ∙ ap (λ (x : Request). got x e) (sym (settled_held s t u r settles e passes bytes empty))

    pub settled_facts : ListHere all_literals s 2
    settled_facts = facts_here s u (settled_at_hand s t u r settles e passes bytes empty)

    module _ (a : Option ℕ) (at : ℕ) (marks : State) where
      held_as : guide_held s a at marks ≡ guide_got a at marks (got (request_in Flags s u) e)
      unfolding guide_held
      held_as = ap (guide_got a at marks) reads

      held_going : both (is_position (plan_in Flags s u) at) (is_marked marks) ≡ true → guide_held s a at marks ≡ on_the_way s u a at marks
      unfolding guide_got on_the_way request_in
      held_going is = held_as ∙ pick_true _ _ _ is

      held_refused : both (is_position (plan_in Flags s u) at) (is_marked marks) ≡ false → guide_held s a at marks ≡ refusing (of_guide not_verified)
      unfolding guide_got request_in
      held_refused not = held_as ∙ pick_false _ _ _ not

      held_there : Position (plan_in Flags s u) at → Marked marks → guide_held s a at marks ≡ on_the_way s u a at marks
      held_there position marked = held_going (both_true _ _ (passes_position (plan_in Flags s u) at position) (pass_marks marks marked))

    -- What a call makes of it.
    called_after : (g : Guide) (x : Step) (told : Told) → GoesAfter s u x told → guide_after (guide_held s) g x told ≡ guide_after (on_the_way s u) g x told
    unfolding guide_after GoesAfter
    called_after g x (Do a) goes = held_there x.action x.at x.marks goes.at goes.marked
    called_after g x Done goes = refl
    called_after g x (Refused y) goes = refl

    called_turned : (g : Guide) (x : Step) → GoesAfter s u x x.told → turned (guide_held s) g x ≡ turned (on_the_way s u) g x
    unfolding turned
    called_turned g x goes = ap (λ (h : Guide). record { guide = h; told = x.told }) (called_after g x x.told goes)

    module _ (a : Option ℕ) (at : ℕ) (marks : State) (goes : Bool) (says : goes ≡ both (is_position (plan_in Flags s u) at) (is_marked marks)) where
      pub called_going : goes ≡ true → (bytes : List ℕ) (x : Step) → Turns s u x (takes s u a at marks bytes)
          → turned (guide_held s) (guide_held s a at marks) x ≡ next format (guide_held s a at marks) bytes
      unfolding next on_the_way takes
      called_going is bytes x turns =
          let on = held_going a at marks (sym says ∙ is) in
          ap (λ (g : Guide). turned (guide_held s) g x) on ∙ called_turned (on_the_way s u a at marks) x turns.goes ∙ turns.is (on_the_way s u a at marks) ∙ ap (λ (g : Guide). next format g bytes) (sym on)

      pub called_refused : goes ≡ false → (bytes : List ℕ) (x : Step) → x.told ≡ Refused (of_guide not_verified) → turned (guide_held s) (guide_held s a at marks) x ≡ next format (guide_held s a at marks) bytes
      unfolding turned guide_after next
      called_refused not bytes x is =
          let refused = held_refused a at marks (sym says ∙ not) in
          ap (λ (y : Told). record { guide = guide_after (guide_held s) (guide_held s a at marks) x y; told = y }) is
          ∙ ap (λ (g : Guide). record { guide = g; told = Refused (of_guide not_verified) }) refused
          ∙ ap (λ (g : Guide). next format g bytes) (sym refused)

      pub asked_going : goes ≡ true → (x : Fluents) → x ≡ fluents_of (asked_by (table_in Flags s) a) → x ≡ fluents_of (asked_for (guide_held s a at marks))
      unfolding asked_for on_the_way
      asked_going is x are = are ∙ ap (λ (g : Guide). fluents_of (asked_for g)) (sym (held_going a at marks (sym says ∙ is)))

      pub asked_refused : goes ≡ false → (x : Fluents) → x ≡ fluents_of [] → x ≡ fluents_of (asked_for (guide_held s a at marks))
      unfolding asked_for
      asked_refused not x none = none ∙ ap (λ (g : Guide). fluents_of (asked_for g)) (sym (held_refused a at marks (sym says ∙ not)))

    -- Its start.
    module _ (items at : ℕ) (counted : items ≡ get_or u items_slot 0) (starts : at ≡ start items) (marks : State) (is : marks ≡ state_of format (listed s 2)) where
      starts_going : guide_held s None at marks ≡ going (table_in Flags s) [] (plan_in Flags s u) (first_state format (table_in Flags s))
      unfolding on_the_way
      starts_going =
          let here = settled_at_hand s t u r settles e passes bytes empty in
          held_there None at marks (starts_there s u here items at counted starts) (marked_as (listed s 2) marks is)
          ∙ ap (λ (fs : List ℕ). going (table_in Flags s) fs (rest_at (plan_in Flags s u) at) marks) (asked_none s)
          ∙ ap (λ (b : Sequence ℕ). going (table_in Flags s) [] b marks) (ap (rest_at (plan_in Flags s u)) (at_is s u here items at counted starts) ∙ rest_first (plan_in Flags s u))
          ∙ ap (going (table_in Flags s) [] (plan_in Flags s u)) (first_flags s u here marks is)

      pub begins : Begins s (guide_held s None at marks)
      unfolding request_in
      begins = record {
        held = λ q k so. starts_going ∙ ap (λ (x : Request). going x.table [] x.plan (first_state format x.table)) (got_same (sym reads ∙ so));
      }

  -- And refused.
  module _ (why : Fault) (stops : r ≡ Err why) where
    faulty : settled format s ≡ stopped why
    faulty = noting_fault (request_noted Flags) (settled format s) r t u settles why stops

    held_fault : (a : Option ℕ) (at : ℕ) (marks : State) → guide_held s a at marks ≡ refusing (of_request (number_of why.refusal) why.place)
    unfolding guide_held guide_got
    held_fault a at marks = ap (guide_got a at marks) faulty

    pub called_fault : (a : Option ℕ) (at : ℕ) (marks : State) (bytes : List ℕ) (y : Answer) → y ≡ record { number = number_of why.refusal; input = 1; place = why.place; count = 0 } → (x : Step) → x.told ≡ Refused y
        → turned (guide_held s) (guide_held s a at marks) x ≡ next format (guide_held s a at marks) bytes
    unfolding turned guide_after next
    called_fault a at marks bytes y is x told =
        ap (λ (z : Told). record { guide = guide_after (guide_held s) (guide_held s a at marks) x z; told = z }) (told ∙ ap Refused is)
        ∙ ap (λ (g : Guide). record { guide = g; told = Refused (of_request (number_of why.refusal) why.place) }) (held_fault a at marks)
        ∙ ap (λ (g : Guide). next format g bytes) (sym (held_fault a at marks))

    pub asked_fault : (a : Option ℕ) (at : ℕ) (marks : State) (x : Fluents) → x ≡ fluents_of [] → x ≡ fluents_of (asked_for (guide_held s a at marks))
    unfolding asked_for
    asked_fault a at marks x none = none ∙ ap (λ (g : Guide). fluents_of (asked_for g)) (sym (held_fault a at marks))

    pub begins_not : (g : Guide) → Begins s g
    begins_not g = record { held = λ q e so. absurd (fault≢got (sym faulty ∙ so)) }
