-- Where a plan starts: the facts stand at place 2 of a request, so the state of the list there is the first state; and what is left from
-- the first item on is the plan. Assumes nothing.
use Prim.Native.Nat.{ℕ}
use native.Mathlib.Omega.{arith}
use mathlib.Core.Path.{◌≡◌, refl, sym, ◌∙◌, ap}
use mathlib.Core.List.{List, map}
use lib.ListN.{get_or}
use lib.Dec.{eqb}
use borrow.Author.Tests.{eqb-true, eqb-false, eq-eqb, ne_eqb, le-leb}
use Rattle.meaning.specs.Limits.{format}
use Rattle.meaning.specs.Requests.{Sequence, done, item}
use Rattle.meaning.specs.States.{State, state_of, first_state}
use Rattle.meaning.specs.Tests.{those_of}
use Rattle.meaning.specs.Reading.{literals_in}
use Rattle.meaning.specs.Values.{numbers, values_of, fits}
use Rattle.meaning.specs.ValueStates as Value
use Rattle.meaning.specs.ValueStates.{mark_left}
use Rattle.meaning.specs.declared.Form.TheVariants.{Flags, Valued}
use Rattle.meaning.proofs.TestLaws.{by-test, pick_true, pick_false}
use Rattle.meaning.proofs.SchemeLaws.{join_done}
use Rattle.reading.specs.Listed.{listed, listed_as}
use Rattle.finding.specs.TablesHere.{facts_place}
use Rattle.reading.specs.Planned.{items_of}
use Rattle.reading.specs.Noted.{items_slot}
use Rattle.finding.proofs.PlanHere.{some_item}
use Rattle.steps.specs.Held.{plan_in}
use Rattle.steps.specs.AtHand.{AtHand}
use Rattle.steps.specs.Rests.{rest_in, rest_at, start, Position}
use Rattle.steps.specs.Steps.{first_in, walk_from, met_from, walk_held}
use Rattle.steps.proofs.HandLaws.{starts, few_items, items_are}
use Rattle.meaning.specs.declared.Form.{Form}

-- THE START.
pub start_end : (items : ℕ) → items ≡ 0 → format.items ≡ start items
unfolding start
start_end items none = sym (pick_true _ _ _ (eq-eqb _ _ none))

pub start_first : (items : ℕ) → (items ≡ 0 → ⊥) → 0 ≡ start items
unfolding start
start_first items some = sym (pick_false _ _ _ (ne_eqb _ _ some))

-- THE PLAN from its first item on.
pub rest_first : (b : Sequence ℕ) → rest_at b (start (items_of b)) ≡ b
unfolding rest_at rest_in items_of
rest_first done = refl
rest_first (item x b) =
    let some = some_item x in
    let zero_is : start (items_of (item x b)) ≡ 0 = sym (start_first (items_of (item x b)) (λ e. omega (arith, some, e))) in
    ap (rest_at (item x b)) zero_is ∙ pick_true _ _ _ (le-leb 0 0 (omega arith)) ∙ ap (item x) (join_done b)

-- THE FIRST STATE, by the list of facts.
pub first_flags : (s t : List ℕ) (here : AtHand Flags s t) (marks : State) → marks ≡ state_of format (listed s 2) → marks ≡ first_in Flags s
unfolding first_state
first_flags s t here marks is = is ∙ ap (state_of format) (starts s t here).facts

pub first_valued : (s t : List ℕ) (here : AtHand Valued s t) (marks : State)
    → marks ≡ map (λ (f : ℕ). mark_left (those_of (fits (literals_in s) (listed_as Valued s (facts_place Valued s)) f) (values_of (literals_in s) f))) (numbers 0 format.state) → marks ≡ first_in Valued s
unfolding Value.first_state
first_valued s t here marks is =
    is ∙ ap (λ (facts : List ℕ). map (λ (f : ℕ). mark_left (those_of (fits (literals_in s) facts f) (values_of (literals_in s) f))) (numbers 0 format.state)) (starts s t here).facts

-- A REQUEST at hand.
module _ {form : Form} (s t : List ℕ) (here : AtHand form s t) where
  module _ (items at : ℕ) (counted : items ≡ get_or t items_slot 0) (starts : at ≡ start items) where
    counted_are : items ≡ items_of (plan_in form s t)
    counted_are = counted ∙ items_are s t here

    pub at_is : at ≡ start (items_of (plan_in form s t))
    at_is = starts ∙ ap start counted_are

    pub starts_there : Position (plan_in form s t) at
    starts_there =
        let few = few_items s t here in
        by-test (eqb items 0)
        (λ e. let is = starts ∙ sym (start_end items (eqb-true _ _ e)) in record { most = omega (arith, is); there = λ n. absurd (n is) })
        (λ e.
        let some = eqb-false items 0 e in
        let is = starts ∙ sym (start_first items some) in
        record { most = omega (arith, is); there = λ _. omega (arith, is, counted_are, some) })

    pub walks_first : (marks : State) → marks ≡ first_in form s → met_from form s t at marks ≡ walk_held form s t
    unfolding walk_from walk_held
    walks_first marks is = rw (at_is, rest_first (plan_in form s t), is)
