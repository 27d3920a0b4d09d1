-- Every answer of the guarded call is one of its numbers (demand 1, FORMAT 21.22), and its input, place, count and state are what the number says
-- (FORMAT 21.10, 21.16): it judges by its walk, whose stops have the number 2 or 43 and a state (`JudgedParts`). Assumes nothing.
use Prim.Native.Nat.{ℕ, ◌≤◌}
use mathlib.Core.Path.{◌≡◌, refl, sym, subst}
use mathlib.Core.Bool.{true}
use mathlib.Core.List.{List}
use mathlib.Core.Logic.{⊎_elim}
use lib.ListN.{length}
use Rattle.meaning.specs.Tests.{both, either, fails, some_of, each_of}
use Rattle.meaning.specs.Limits.{Limits}
use Rattle.meaning.specs.Literals.{among}
use Rattle.meaning.specs.Requests.{Entry}
use Rattle.meaning.specs.Reading.{Got, got, fault}
use Rattle.meaning.specs.States.{State, first_state}
use Rattle.meaning.specs.Walk.{Concerned, in_state, End, fine, missed, stopped}
use Rattle.meaning.specs.Guards.{GuardedRequest, settled_guarded, walk_of, judge_guarded}
use Rattle.meaning.specs.Answers.{refusals, answers, guarded_answers}
use Rattle.meaning.specs.AnswerParts.{of_neither, WalkInput, at_start, Placed, of_walks, of_guarded_walks, GuardedCount, with_state, GuardedState}
use Rattle.meaning.proofs.KeptEnds.{StuckGuarded, guarded_stuck}
use Rattle.meaning.proofs.PlaceLaws.{walked_guarded_below, GuardedHeld, guarded_held}
use Rattle.meaning.proofs.JudgedParts.{Tells, StopTold, StopsTold, WalksWithin, Parts, judged_parts}
use Rattle.meaning.proofs.AnswerLaws.{NumberedIn}

-- A guarded request that is not settled is refused by one of 10 to 21.
pub guarded_numbered_in : (lim : Limits) (s : List ℕ) → NumberedIn refusals (settled_guarded lim s)
guarded_numbered_in lim s = by_fault (settled_guarded lim s) (guarded_held lim s)
  where
    by_fault : (x : Got GuardedRequest) → GuardedHeld lim s x → NumberedIn refusals x
    by_fault (got g e) h = tt
    by_fault (fault n p) h = h.number

guarded_tells : Tells refusals guarded_answers of_guarded_walks with_state
unfolding among guarded_answers answers refusals of_neither of_guarded_walks of_walks with_state some_of either each_of both fails
guarded_tells = record { fine = (refl, refl, refl); missed = (refl, refl, refl); spent = (refl, refl, refl); length = (refl, refl, refl); refusing = refl }

-- Its stops are told so: they have the number 2 or 43, and a state.
stuck_told : (gs : List Entry) (end : End State) → StuckGuarded gs end → StopsTold refusals guarded_answers of_guarded_walks with_state end
unfolding among guarded_answers answers of_neither at_start of_guarded_walks of_walks with_state some_of either
stuck_told gs fine stuck = tt
stuck_told gs (missed p s) stuck = tt
stuck_told gs (stopped n p u) stuck =
    subst (λ (v : Concerned State). StopTold refusals guarded_answers of_guarded_walks with_state n p v) (sym stuck.1)
    (⊎_elim (λ q. subst InTheState (sym q) (refl, refl, (refl, refl, refl))) (λ q. subst InTheState (sym q.0) (refl, refl, (refl, refl, refl))) stuck.2)
  where
    InTheState : ℕ → Type 0
    InTheState m = StopTold refusals guarded_answers of_guarded_walks with_state m p (in_state stuck.0)

module _ (lim : Limits) (request lent : List ℕ) (budget : ℕ) where
  walks_within : (x : Got GuardedRequest) → GuardedHeld lim request x → WalksWithin refusals guarded_answers of_guarded_walks with_state (walk_of lim) lim request x
  unfolding walk_of
  walks_within (got g e) h = (
    h.1.short,
    walked_guarded_below (length request) g.request h.1.request g.guards h.1.guards (first_state lim g.request.table),
    stuck_told g.guards (walk_of lim g).end (guarded_stuck g.guards g.request (first_state lim g.request.table)),
  )
  walks_within (fault n p) h = h

  parts : Parts refusals guarded_answers of_guarded_walks with_state (walk_of lim) lim request lent budget (settled_guarded lim request) (judge_guarded lim request lent budget)
  unfolding judge_guarded
  parts = judged_parts refusals guarded_answers of_guarded_walks with_state (walk_of lim) lim request lent budget (settled_guarded lim request) guarded_tells (walks_within (settled_guarded lim request) (guarded_held lim request))

  -- DEMAND 1: the number is one of 0 to 3, 9 to 21 and 43 (FORMAT 21.22).
  pub guarded_numbered : among (judge_guarded lim request lent budget).answer.number guarded_answers ≡ true
  guarded_numbered = parts.number

  -- Neither input is named exactly with 0, 3 and 9, and the request with every other number, 43 among them.
  pub guarded_input : WalkInput (judge_guarded lim request lent budget).answer
  guarded_input = parts.input

  -- With 0, 1, 2 and 43 the count is the walk's, with 3 it is the budget, and with every other number 0.
  pub guarded_count : GuardedCount lim request budget (judge_guarded lim request lent budget).answer
  guarded_count = parts.count

  -- The place is 0 with 0, 3, 9 and 10, the request's length with 11, and that of a byte with every other number, 43 among them.
  pub guarded_place : Placed (length request) (judge_guarded lim request lent budget).answer.number (judge_guarded lim request lent budget).answer.place
  guarded_place = parts.place

  -- So it is at most the request limit.
  pub guarded_place_limited : (judge_guarded lim request lent budget).answer.place ≤ lim.request
  guarded_place_limited = parts.fits

  -- The lent bytes are written with 1, 2 and 43, and stay with every other number.
  pub guarded_state : GuardedState lim request lent (judge_guarded lim request lent budget)
  guarded_state = parts.state
