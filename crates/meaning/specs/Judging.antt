-- The walk call: its answer and the lent bytes afterwards, for every input (FORMAT sections 4, 5 and 8).
use Rattle.std.specs.Prelude.{ℕ, List, length, ltb, eqb}
use Rattle.meaning.specs.declared.Answer.{Answer}
use Rattle.meaning.specs.Tests.{pick}
use Rattle.meaning.specs.Limits
use Rattle.meaning.specs.Limits.{Limits}
use Rattle.meaning.specs.Requests.{Request}
use Rattle.meaning.specs.Reading.{Got, got, fault}
use Rattle.meaning.specs.Refusals.{settled}
use Rattle.meaning.specs.States.{State, first_state}
use Rattle.meaning.specs.Walk.{Concerned, no_state, in_state, End, fine, missed, stopped, Walked, walked}

pub record Judgement : Type 0 where
  pub answer : Answer
  pub state : List ℕ

-- The lent bytes afterwards: the state concerned goes over them, where there is one (FORMAT 4.45 to 4.49).
unfoldable pub written_over : (lent : List ℕ) → Concerned State → List ℕ
written_over lent no_state = lent
written_over lent (in_state s) = s

-- What a walk says of the request: an answer's number, a place, and the state concerned (FORMAT 4.27, 4.42).
unfoldable pub reported : (lent : List ℕ) → (count number place : ℕ) → Concerned State → Judgement
reported lent c n p u = record { answer = record { number = n; input = Limits.the_request; place = p; count = c }; state = written_over lent u }

-- The count that is told of a stop: that of the walk, and 0 where no state is concerned (FORMAT 4.42, 22.11).
unfoldable pub count_told : Concerned State → (count : ℕ) → ℕ
count_told no_state c = 0
count_told (in_state s) c = c

-- The answer of a walk that ended so, within its budget (FORMAT 4.42, 4.45 to 4.49, 8.16).
unfoldable pub ended : (lent : List ℕ) → (count : ℕ) → End State → Judgement
ended lent c fine = record { answer = record { number = Limits.verified; input = Limits.neither_input; place = 0; count = c }; state = lent }
ended lent c (missed p s) = reported lent c Limits.goal_missed p (in_state s)
ended lent c (stopped n p u) = reported lent (count_told u c) n p u

-- Budget spent exactly when the walk's count is above it (FORMAT 4.43, 8.14).
unfoldable pub within : (lent : List ℕ) → (budget : ℕ) → Walked State → Judgement
within lent budget w =
    pick (ltb budget w.count)
    (λ _. record { answer = record { number = Limits.budget_spent; input = Limits.neither_input; place = 0; count = budget }; state = lent })
    (λ _. ended lent w.count w.end)

-- A refusal names the request and counts 0 (FORMAT 4.27, 4.44).
abbrev pub refused_at : (lent : List ℕ) → (number place : ℕ) → Judgement
refused_at lent n p = record { answer = record { number = n; input = Limits.the_request; place = p; count = 0 }; state = lent }

-- A lent state of another length (FORMAT 4.7).
abbrev pub wrong_length : (lent : List ℕ) → Judgement
wrong_length lent = record { answer = record { number = Limits.state_length; input = Limits.neither_input; place = 0; count = 0 }; state = lent }

-- What is not refused is judged by the walk that the call makes of it, whichever call it is.
unfoldable pub judge_got : {A : Type 0} → (A → Walked State) → (lent : List ℕ) → (budget : ℕ) → Got A → Judgement
judge_got walk lent budget (got x e) = within lent budget (walk x)
judge_got walk lent budget (fault n p) = refused_at lent n p

-- The lent state's length goes first (FORMAT 5.1).
abbrev pub judge_by : {A : Type 0} → (A → Walked State) → Limits → Got A → (lent : List ℕ) → (budget : ℕ) → Judgement
judge_by walk lim x lent budget = pick (eqb (length lent) lim.state) (λ _. judge_got walk lent budget x) (λ _. wrong_length lent)

-- THE WALK CALL walks the plan from the first state (FORMAT 8.1).
abbrev pub walk_of : Limits → Request → Walked State
walk_of lim r = walked r (first_state lim r.table)

abbrev pub judge_settled : Limits → (lent : List ℕ) → (budget : ℕ) → Got Request → Judgement
judge_settled lim = judge_got (walk_of lim)

unfoldable pub judge : Limits → (request lent : List ℕ) → (budget : ℕ) → Judgement
judge lim request = judge_by (walk_of lim) lim (settled lim request)

-- WHAT STATEMENTS SAY OF IT. The answer's number, and the count of the whole walk.
abbrev pub number : Limits → (request lent : List ℕ) → (budget : ℕ) → ℕ
number lim request lent budget = (judge lim request lent budget).answer.number

abbrev pub count : Limits → Request → ℕ
count lim r = (walk_of lim r).count
