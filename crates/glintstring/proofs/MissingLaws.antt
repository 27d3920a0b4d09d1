-- The line that goes with a walk's answer. A walk that stops with 2 does so at the first byte of an item of its plan, and what asking names there stands in
-- the request; so the line is that of the answer and of the bytes left. Assumes nothing.
use Prim.Native.Nat.{ℕ, ◌<◌}
use native.Mathlib.Omega.{arith}
use mathlib.Core.Path.{◌≡◌, sym, ◌∙◌, ap, subst}
use mathlib.Core.List.{List}
use lib.ListN.{get_or}
use borrow.Author.Tests.{eq-eqb, ne_eqb}
use Rattle.meaning.specs.declared.Answer.{Answer}
use Rattle.meaning.specs.declared.Runs.{Runs}
use Rattle.meaning.specs.declared.Runs.TheVariants.{By, Short, Never}
use Rattle.meaning.specs.Limits
use Rattle.meaning.specs.Limits.{format}
use Rattle.meaning.specs.Requests.{Item, act, branching}
use Rattle.meaning.specs.States.{State, state_after, outcome_to}
use Rattle.meaning.specs.Walk.{End, fine, missed, stopped, Walked}
use Rattle.meaning.specs.ByCases.{after_cases}
use Rattle.meaning.specs.Judging.{Judgement, reported, ended, within}
use Rattle.meaning.specs.Asking.{asked, line_of, line_at, line_told}
use Rattle.meaning.specs.Reported.{ItemIn, item_place}
use Rattle.meaning.proofs.TestLaws.{pick_true, pick_false}
use Rattle.meaning.proofs.PickLaws.{pick_has}
use Rattle.meaning.proofs.KeptEnds.{EndSo, any_outcome}
use Rattle.meaning.proofs.AskingLaws.{LineOf, OfAction, asked_of_action}
use Rattle.meaning.proofs.ItemBytes.{StandsThere, plan_there, places_on}
use Rattle.reading.specs.Noted.{plan_slot, items_slot}
use Rattle.steps.specs.Held.{table_in, plan_in, goals_in}
use Rattle.steps.specs.AtHand.{AtHand}
use Rattle.steps.specs.Steps.{walk_held}
use Rattle.steps.proofs.HandLaws.{sections}
use Rattle.steps.proofs.HeldEnds.{held_so}
use Rattle.finding.proofs.ReadLaws.{run_stands}
use Rattle.glintstring.specs.Missing.{ItemByte}
use Rattle.meaning.specs.declared.Form.TheVariants.{Flags}

-- WHERE A WALK STOPS.
module _ (s t : List ℕ) (here : AtHand Flags s t) where
  item_byte : (i : Item ℕ) → StandsThere s (table_in Flags s).actions i → ItemByte s (item_place i)
  unfolding item_place
  item_byte (act p a) stands =
      let few = (sections s t here).less in
      let is = stands.byte.0 in
      let small = stands.byte.1 in
      record { there = stands.there; small = λ _. omega (arith, is, small, few) }
  item_byte (branching p bs) stands = record { there = stands.there; small = λ other. absurd (other stands.byte) }

  items_here : (i : Item ℕ) → ItemIn (plan_in Flags s t) i → ItemByte s (item_place i)
  items_here i has =
      item_byte i (plan_there format (table_in Flags s).fluents (table_in Flags s).actions s (get_or t plan_slot 0) (record { value = plan_in Flags s t; items = get_or t items_slot 0 }) (goals_in t) here.plan i has)

  -- With 2, at the first byte of an item.
  abbrev StopsThere : End State → Type 0
  StopsThere = EndSo (λ _ _. Unit {0}) (λ n p _. n ≡ Limits.not_executable → ItemByte s p)

  walk_stops : StopsThere (walk_held Flags s t).end
  walk_stops =
      held_so (λ _ _. Unit {0}) (λ n p _. n ≡ Limits.not_executable → ItemByte s p) (λ _. Unit {0}) (ItemByte s)
      (record { misses = λ _ _ _. tt; stuck = λ _ _ p stands _. stands; wide = λ _ _ two. absurd (omega (arith, two)); many = λ _ _ two. absurd (omega (arith, two)); breaks = λ _ _ _ two. absurd (omega (arith, two)) }) s t
      (λ a u _. any_outcome (outcome_to (table_in Flags s) a u (state_after (table_in Flags s) a u))) (λ a u _. any_outcome (outcome_to (table_in Flags s) a u (after_cases (table_in Flags s) a u)))
      (places_on (ItemByte s) (plan_in Flags s t) items_here) tt

  abbrev Stands : Judgement → Type 0
  Stands j = j.answer.number ≡ Limits.not_executable → ItemByte s j.answer.place

  ended_stands : (lent : List ℕ) (c : ℕ) (e : End State) → StopsThere e → Stands (ended lent c e)
  unfolding ended reported
  ended_stands lent c fine stops two = absurd (omega (arith, two))
  ended_stands lent c (missed p v) stops two = absurd (omega (arith, two))
  ended_stands lent c (stopped n p v) stops two = stops two

  within_stands : (lent : List ℕ) (budget : ℕ) (w : Walked State) → StopsThere w.end → Stands (within lent budget w)
  unfolding within
  within_stands lent budget w stops = pick_has Stands _ _ _ (λ _ two. absurd (omega (arith, two))) (λ _. ended_stands lent w.count w.end stops)

  pub stop_byte : (lent left : List ℕ) (budget : ℕ) (answer : Answer) → record { answer = answer; state = left } ≡ within lent budget (walk_held Flags s t)
      → answer.number ≡ Limits.not_executable → ItemByte s answer.place
  stop_byte lent left budget answer is = subst Stands (sym is) (within_stands lent budget (walk_held Flags s t) walk_stops)

-- THE LINE of the item there.
module _ (s : List ℕ) (place : ℕ) (state : List ℕ) where
  pub line_branching : get_or s place 0 ≡ Limits.branching_byte → 0 ≡ line_at (table_in Flags s) (get_or s place 0) state
  unfolding line_at
  line_branching byte = sym (pick_true _ _ _ (eq-eqb _ _ byte))

  module _ (other : get_or s place 0 ≡ Limits.branching_byte → ⊥) (a : ℕ) (action : a ≡ get_or s place 0) where
    pub action_small : ItemByte s place → a < format.actions
    action_small stands = let small = stands.small other in omega (arith, action, small)

    module _ (marks : State) (same : marks ≡ state) (r : Runs) (is : r ≡ asked (table_in Flags s) a marks) where
      line_is_of : line_at (table_in Flags s) (get_or s place 0) state ≡ line_of r
      unfolding line_at
      line_is_of = pick_false _ _ _ (ne_eqb _ _ other) ∙ ap line_of (rw (sym action, sym same) (sym is))

      pub line_by : (p v : ℕ) → r ≡ By p → v ≡ p → v ≡ line_at (table_in Flags s) (get_or s place 0) state
      unfolding line_of
      line_by p v e at = at ∙ sym (line_is_of ∙ ap line_of e)

      pub line_short : (p v : ℕ) → r ≡ Short p → v ≡ p → v ≡ line_at (table_in Flags s) (get_or s place 0) state
      unfolding line_of
      line_short p v e at = at ∙ sym (line_is_of ∙ ap line_of e)

      pub line_never : r ≡ Never → 0 ≡ line_at (table_in Flags s) (get_or s place 0) state
      unfolding line_of
      line_never e = sym (line_is_of ∙ ap line_of e)

-- What is named stands in the request.
module _ (s t : List ℕ) (here : AtHand Flags s t) (a : ℕ) (marks : State) (r : Runs) (is : r ≡ asked (table_in Flags s) a marks) where
  named_small : (p : ℕ) → LineOf (table_in Flags s) a p → p < 65536
  named_small p of =
      let ends = (run_stands s (table_in Flags s) here.table.end (sections s t here) of.0 of.1).1.ends in
      let at = of.3 in
      let short = here.short in
      omega (arith, ends, at, short)

  pub by_small : (p : ℕ) → r ≡ By p → p < 65536
  by_small p e = named_small p (subst (OfAction (table_in Flags s) a) (sym is ∙ e) (asked_of_action (table_in Flags s) a marks))

  pub short_small : (p : ℕ) → r ≡ Short p → p < 65536
  short_small p e = named_small p (subst (OfAction (table_in Flags s) a) (sym is ∙ e) (asked_of_action (table_in Flags s) a marks))

-- THE LINE TOLD, of an answer and the bytes left.
module _ (s : List ℕ) (answer : Answer) (left : List ℕ) where
  pub told_stuck : (v : ℕ) → answer.number ≡ Limits.not_executable → v ≡ line_at (table_in Flags s) (get_or s answer.place 0) left → v ≡ line_told (table_in Flags s) s (record { answer = answer; state = left })
  unfolding line_told
  told_stuck v two is = is ∙ sym (pick_true _ _ _ (eq-eqb _ _ two))

  pub told_none : (answer.number ≡ Limits.not_executable → ⊥) → 0 ≡ line_told (table_in Flags s) s (record { answer = answer; state = left })
  unfolding line_told
  told_none other = sym (pick_false _ _ _ (ne_eqb _ _ other))
