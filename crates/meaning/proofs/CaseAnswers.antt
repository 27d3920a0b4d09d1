-- Every answer of the call by cases is one of its numbers (demand 1, FORMAT 22.17), and its input, place, count and state are what the number says (FORMAT 22.11,
-- 22.14): it judges by its walk, whose stops have the number 2 and a state, or 44 and none (`JudgedParts`). Assumes nothing.
use Prim.Native.Nat.{ℕ, ◌≤◌, ◌<◌}
use mathlib.Core.Path.{◌≡◌, refl, sym, subst}
use mathlib.Core.Bool.{true}
use mathlib.Core.List.{List}
use mathlib.Core.Logic.{⊎_elim}
use lib.ListN.{length}
use Rattle.meaning.specs.Tests.{both, either, fails, some_of, each_of}
use Rattle.meaning.specs.Limits.{Limits}
use Rattle.meaning.specs.Literals.{among}
use Rattle.meaning.specs.Requests.{Request}
use Rattle.meaning.specs.Reading.{Got, got, fault}
use Rattle.meaning.specs.Refusals.{settled}
use Rattle.meaning.specs.States.{State, first_state, outcome_to}
use Rattle.meaning.specs.Walk.{Concerned, no_state, in_state, End, fine, missed, stopped, Step}
use Rattle.meaning.specs.ByCases.{after_cases, cases_does, cases_step, walked_by_cases, walk_of, judge_by_cases}
use Rattle.meaning.specs.Answers.{refusals, answers, cases_answers}
use Rattle.meaning.specs.AnswerParts.{of_neither, WalkInput, at_start, Placed, of_walks, CasesCount, stated, CasesState}
use Rattle.meaning.proofs.RefusalLaws.{at≢nowhere}
use Rattle.meaning.proofs.PickLaws.{pick_has}
use Rattle.meaning.proofs.KeptEnds.{any_outcome, StepSo, judged_so}
use Rattle.meaning.proofs.PlaceLaws.{FoundBelow, RequestBelow, missed_below, EndBelow, RequestHeld, settled_held}
use Rattle.meaning.proofs.JudgedParts.{Tells, StopTold, StopsTold, WalksWithin, Parts, judged_parts}
use Rattle.meaning.proofs.CaseWalks.{StuckByCases, cases_stuck}

cases_tells : Tells refusals cases_answers of_walks stated
unfolding among cases_answers answers refusals of_neither of_walks stated some_of either each_of both fails
cases_tells = record { fine = (refl, refl, refl); missed = (refl, refl, refl); spent = (refl, refl, refl); length = (refl, refl, refl); refusing = refl }

-- Its stops are told so.
stuck_told : (end : End State) → StuckByCases end → StopsTold refusals cases_answers of_walks stated end
unfolding among cases_answers answers of_neither at_start of_walks stated some_of either
stuck_told fine stuck = tt
stuck_told (missed p s) stuck = tt
stuck_told (stopped n p u) stuck =
    ⊎_elim
    (λ is. subst Concerning (sym is.1.1) (subst (λ (m : ℕ). StopTold refusals cases_answers of_walks stated m p (in_state is.1.0)) (sym is.0) (refl, refl, (refl, refl, refl))))
    (λ is. subst Concerning (sym is.1) (subst (λ (m : ℕ). StopTold refusals cases_answers of_walks stated m p no_state) (sym is.0) (refl, refl, (refl, refl, refl))))
    stuck
  where
    Concerning : Concerned State → Type 0
    Concerning v = StopTold refusals cases_answers of_walks stated n p v

-- It misses at an entry, and stops at an item.
pub walked_cases_below : (size : ℕ) (r : Request) → RequestBelow size r → (s : State) → EndBelow size (walked_by_cases r s).end
unfolding walked_by_cases cases_step cases_does
walked_cases_below size r h s =
    judged_so _ _ (λ _. Unit {0}) (λ p. p < size) (λ _ _ p here. here) (cases_step r.table) does (λ u _ p q. absurd (at≢nowhere (sym q))) r
    (λ u _ p q. subst (FoundBelow size) q (missed_below size r h u)) h.plan s tt
  where
    So : Step State → Type 0
    So = StepSo (λ p _. p < size) (λ _ p _. p < size) (λ _. Unit {0}) (λ p. p < size)

    does : (a : ℕ) (u : State) → Unit {0} → So (cases_does r.table a u)
    does a u _ =
        pick_has So _ _ _ (λ _ p here. here) λ _.
        pick_has So _ _ _ (λ _. any_outcome (outcome_to r.table a u (after_cases r.table a u))) (λ _ p here. here)

module _ (lim : Limits) (request lent : List ℕ) (budget : ℕ) where
  walks_within : (x : Got Request) → RequestHeld lim request x → WalksWithin refusals cases_answers of_walks stated (walk_of lim) lim request x
  walks_within (got r e) h = (
    h.1.1,
    walked_cases_below (length request) r h.1.0 (first_state lim r.table),
    stuck_told (walk_of lim r).end (cases_stuck r (first_state lim r.table)),
  )
  walks_within (fault n p) h = h

  parts : Parts refusals cases_answers of_walks stated (walk_of lim) lim request lent budget (settled lim request) (judge_by_cases lim request lent budget)
  unfolding judge_by_cases
  parts = judged_parts refusals cases_answers of_walks stated (walk_of lim) lim request lent budget (settled lim request) cases_tells (walks_within (settled lim request) (settled_held lim request))

  -- DEMAND 1: the number is one of 0 to 3, 9 to 21 and 44 (FORMAT 22.17).
  pub cases_numbered : among (judge_by_cases lim request lent budget).answer.number cases_answers ≡ true
  cases_numbered = parts.number

  -- Neither input is named exactly with 0, 3 and 9, and the request with every other number, 44 among them.
  pub cases_input : WalkInput (judge_by_cases lim request lent budget).answer
  cases_input = parts.input

  -- With 0, 1 and 2 the count is the walk's, with 3 it is the budget, and with every other number 0, 44 among them.
  pub cases_count : CasesCount lim request budget (judge_by_cases lim request lent budget).answer
  cases_count = parts.count

  -- The place is 0 with 0, 3, 9 and 10, the request's length with 11, and that of a byte with every other number, 44 among them.
  pub cases_place : Placed (length request) (judge_by_cases lim request lent budget).answer.number (judge_by_cases lim request lent budget).answer.place
  cases_place = parts.place

  -- So it is at most the request limit.
  pub cases_place_limited : (judge_by_cases lim request lent budget).answer.place ≤ lim.request
  cases_place_limited = parts.fits

  -- The lent bytes are written with 1 and 2, and stay with every other number.
  pub cases_state : CasesState lim request lent (judge_by_cases lim request lent budget)
  cases_state = parts.state
