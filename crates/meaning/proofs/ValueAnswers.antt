-- Every answer of the values call is one of its numbers (demand 1, FORMAT 26.32), and its input, place, count and state are what the number says (FORMAT 26.14): it
-- judges by its walk, whose stops have the number 2 and a state (`JudgedParts`). Assumes nothing.
use Prim.Native.Nat.{ℕ, ◌≤◌, ◌<◌}
use mathlib.Core.Path.{◌≡◌, refl, sym, ◌∙◌, subst}
use mathlib.Core.Bool.{true}
use mathlib.Core.List.{List}
use lib.ListN.{length}
use Rattle.meaning.specs.Tests.{both, either, fails, some_of, each_of}
use Rattle.meaning.specs.Limits
use Rattle.meaning.specs.Limits.{Limits}
use Rattle.meaning.specs.Literals.{among}
use Rattle.meaning.specs.Requests.{RequestOver, Request}
use Rattle.meaning.specs.Reading.{Got, got, fault, literals_in}
use Rattle.meaning.specs.Refusals.{at}
use Rattle.meaning.specs.States.{State}
use Rattle.meaning.specs.Walk.{Concerned, in_state, End, fine, missed, stopped, Step}
use Rattle.meaning.specs.Values.{Literals}
use Rattle.meaning.specs.ValueStates.{known, known_whether, first_state, outcome, table_does, table_step, missed_in, judged, walked}
use Rattle.meaning.specs.Valued.{settled_values, walk_of, judge_values}
use Rattle.meaning.specs.Answers.{refusals, values_refusals, answers, values_answers}
use Rattle.meaning.specs.AnswerParts.{of_neither, WalkInput, at_start, Placed, of_walks, ValuesCount, stated, ValuesState}
use Rattle.meaning.proofs.PickLaws.{pick_has}
use Rattle.meaning.proofs.RefusalLaws.{at≢nowhere}
use Rattle.meaning.proofs.KeptEnds.{OnPlaces, on_places, any_outcome, EndSo, StepSo, walk_so, end_of_so, Stuck}
use Rattle.meaning.proofs.WithinLaws.{Never, so_never}
use Rattle.meaning.proofs.PlaceLaws.{FoundBelow, RequestBelow, or_below, first_missed_below, EndBelow}
use Rattle.meaning.proofs.JudgedParts.{Tells, StopTold, StopsTold, WalksWithin, Parts, judged_parts}
use Rattle.meaning.proofs.ValuePlaces.{ValuesHeld, values_settled_held}

-- THE WALK of a request over any structure of literals: what is so of each miss and of each item that can't be run is so of its end.
module _ {L : Type 0} (ls : Literals L) (r : RequestOver L) where
  module _ (Miss : ℕ → State → Type 0) (Stop : ℕ → ℕ → Concerned State → Type 0) (Place : ℕ → Type 0) (stuck : (s : State) (p : ℕ) → Place p → Stop Limits.not_executable p (in_state s)) where
    pub walked_values_so : ((s : State) (p : ℕ) → missed_in ls r s ≡ at p → Miss p s) → OnPlaces Place r.plan → (s : State) → EndSo Miss Stop (walked ls r s).end
    unfolding walked judged table_step table_does
    walked_values_so misses on s =
        walk_so Miss Stop (λ _. Unit {0}) Place (table_step ls r.table) does (λ u _ p here. stuck u p here) (λ u _ p q. absurd (at≢nowhere (sym q))) r.plan on (judged ls r)
        (λ u _. end_of_so Miss Stop (missed_in ls r u) u (misses u)) s tt
      where
        So : Step State → Type 0
        So = StepSo Miss Stop (λ _. Unit {0}) Place

        does : (a : ℕ) (u : State) → Unit {0} → So (table_does ls r.table a u)
        does a u _ = pick_has So _ _ _ (λ _. any_outcome (outcome ls r.table a u)) (λ _ p here. stuck u p here)

  -- Its stops have the number 2, and the state in which the item can't be run.
  pub walked_values_stuck : (s : State) → Stuck (walked ls r s).end
  walked_values_stuck = walked_values_so (λ _ _. Unit {0}) _ (λ _. Unit {0}) (λ s p _. (refl, (s, refl))) (λ s p _. tt) (on_places (λ _. Unit {0}) (λ _. tt) r.plan)

  -- So no stop has another number.
  pub walked_values_never : (i : ℕ) → (i ≡ Limits.not_executable → ⊥) → (s : State) → Never i (walked ls r s).end
  walked_values_never i not_2 s = so_never i _ (λ n p u stuck q. not_2 (sym q ∙ stuck.0)) (walked ls r s).end (walked_values_stuck s)

-- It misses at an entry, and stops at an item.
walked_values_below : (size : ℕ) (ls : Literals ℕ) (r : Request) → RequestBelow size r → (s : State) → EndBelow size (walked ls r s).end
unfolding missed_in
walked_values_below size ls r h =
    walked_values_so ls r _ _ (λ p. p < size) (λ _ p here. here)
    (λ u p q. subst (FoundBelow size) q (or_below size _ _ (first_missed_below size (known ls u) r.goals h.goals) (first_missed_below size (known_whether ls u) r.whether h.whether)))
    h.plan

values_tells : Tells values_refusals values_answers of_walks stated
unfolding among values_refusals values_answers answers refusals of_neither of_walks stated some_of either each_of both fails
values_tells = record { fine = (refl, refl, refl); missed = (refl, refl, refl); spent = (refl, refl, refl); length = (refl, refl, refl); refusing = refl }

-- Its stops are told so.
stuck_told : (end : End State) → Stuck end → StopsTold values_refusals values_answers of_walks stated end
unfolding among values_answers answers of_neither at_start of_walks stated some_of either
stuck_told fine stuck = tt
stuck_told (missed p s) stuck = tt
stuck_told (stopped n p u) stuck =
    subst (λ (v : Concerned State). StopTold values_refusals values_answers of_walks stated n p v) (sym stuck.1.1)
    (subst (λ (m : ℕ). StopTold values_refusals values_answers of_walks stated m p (in_state stuck.1.0)) (sym stuck.0) (refl, refl, (refl, refl, refl)))

module _ (lim : Limits) (request lent : List ℕ) (budget : ℕ) where
  walks_within : (x : Got Request) → ValuesHeld lim request x → WalksWithin values_refusals values_answers of_walks stated (walk_of lim request) lim request x
  unfolding walk_of
  walks_within (got r e) h = (
    h.1.1,
    walked_values_below (length request) (literals_in request) r h.1.0 (first_state (literals_in request) lim r.table),
    stuck_told (walk_of lim request r).end (walked_values_stuck (literals_in request) r (first_state (literals_in request) lim r.table)),
  )
  walks_within (fault n p) h = h

  parts : Parts values_refusals values_answers of_walks stated (walk_of lim request) lim request lent budget (settled_values lim request) (judge_values lim request lent budget)
  unfolding judge_values
  parts =
      judged_parts values_refusals values_answers of_walks stated (walk_of lim request) lim request lent budget (settled_values lim request) values_tells
      (walks_within (settled_values lim request) (values_settled_held lim request))

  -- DEMAND 1: the number is one of 0 to 3, 9 to 21 and 46 (FORMAT 26.32).
  pub values_numbered : among (judge_values lim request lent budget).answer.number values_answers ≡ true
  values_numbered = parts.number

  -- Neither input is named exactly with 0, 3 and 9, and the request with every other number, 46 among them.
  pub values_input : WalkInput (judge_values lim request lent budget).answer
  values_input = parts.input

  -- With 0, 1 and 2 the count is the walk's, with 3 it is the budget, and with every other number 0.
  pub values_count : ValuesCount lim request budget (judge_values lim request lent budget).answer
  values_count = parts.count

  -- The place is 0 with 0, 3, 9 and 10, the request's length with 11, and that of a byte with every other number, 46 among them.
  pub values_place : Placed (length request) (judge_values lim request lent budget).answer.number (judge_values lim request lent budget).answer.place
  values_place = parts.place

  -- So it is at most the request limit.
  pub values_place_limited : (judge_values lim request lent budget).answer.place ≤ lim.request
  values_place_limited = parts.fits

  -- The lent bytes are written with 1 and 2, and stay with every other number.
  pub values_state : ValuesState lim request lent (judge_values lim request lent budget)
  values_state = parts.state
