-- The guarded call: a request with a ninth section, its answer and the lent bytes afterwards, for every input (FORMAT section 21).
use Rattle.std.specs.Prelude.{ℕ, ◌+◌, List, length, ltb}
use Rattle.meaning.specs.Tests.{pick}
use Rattle.meaning.specs.Limits
use Rattle.meaning.specs.Limits.{Limits}
use Rattle.meaning.specs.Requests.{Entry, Request}
use Rattle.meaning.specs.Reading.{Flags, Got, got, fault, next, literals, list_at, placed, table_at, request_at}
use Rattle.meaning.specs.Refusals.{past_refusals}
use Rattle.meaning.specs.States.{State, first_state}
use Rattle.meaning.specs.Walk.{Walked, walked_guarded}
use Rattle.meaning.specs.Judging.{Judgement, judge_by}
use Rattle.meaning.specs.Asking.{line_got}

-- A request and its guards (FORMAT 21.2).
pub record GuardedRequest : Type 0 where
  pub request : Request
  pub guards : List Entry

-- At most the request limit, all nine sections, and nothing after them (FORMAT 21.2 to 21.5).
unfoldable pub read_guarded : Limits → List ℕ → Got GuardedRequest
read_guarded lim s =
    pick (ltb lim.request (length s)) (λ _. fault Limits.too_long 0) λ _.
    next (table_at lim Flags s 0) λ t p.
    next (request_at lim Flags s t p) λ r q.
    next (list_at literals t.fluents Limits.most_guards s q) λ guards e.
    pick (ltb e (length s)) (λ _. fault Limits.bytes_after e) λ _.
    got (record { request = r; guards = placed (q + 1) guards }) e

-- Read without a fault, and past 16, 17 and 18 (FORMAT 21.5).
unfoldable pub settled_guarded : Limits → List ℕ → Got GuardedRequest
settled_guarded lim s = next (read_guarded lim s) λ g e. past_refusals g.request (got g e)

-- The walk of its plan from the first state.
unfoldable pub walk_of : Limits → GuardedRequest → Walked State
walk_of lim g = walked_guarded g.request g.guards (first_state lim g.request.table)

-- The lent state's length goes first (FORMAT 21.5).
unfoldable pub judge_guarded : Limits → (request lent : List ℕ) → (budget : ℕ) → Judgement
judge_guarded lim request = judge_by (walk_of lim) lim (settled_guarded lim request)

-- The line that answer 2 carries (FORMAT 18.10 to 18.12, 21.20).
unfoldable pub line_guarded : Limits → (request lent : List ℕ) → (budget : ℕ) → ℕ
line_guarded lim request lent budget = line_got (λ (g : GuardedRequest). g.request.table) request (judge_guarded lim request lent budget) (settled_guarded lim request)

-- WHAT STATEMENTS SAY OF IT. The answer's number, and the count of the whole walk.
abbrev pub number : Limits → (request lent : List ℕ) → (budget : ℕ) → ℕ
number lim request lent budget = (judge_guarded lim request lent budget).answer.number

abbrev pub count : Limits → GuardedRequest → ℕ
count lim g = (walk_of lim g).count
