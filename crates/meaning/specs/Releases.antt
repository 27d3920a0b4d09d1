-- The release call: many plans over one table (FORMAT section 19). Its file has sections 1 to 5 of a request once, a plan count, and sections 6 to 8 for
-- each plan. The call's own answer, and the lent row of numbers afterwards, for every input. There is no lent state.
use Rattle.std.specs.Prelude.{ℕ, zero, suc, ◌+◌, ◌-◌, ◌*◌, List, [], ◌∷◌, ◌++◌, length, replicate, take, drop, ltb, eqb}
use Rattle.meaning.specs.declared.Answer.{Answer}
use Rattle.meaning.specs.Tests.{pick}
use Rattle.meaning.specs.Limits
use Rattle.meaning.specs.Limits.{Limits}
use Rattle.meaning.specs.Requests.{Table, Request}
use Rattle.meaning.specs.Reading.{Flags, Got, got, fault, next, count_at, repeated, table_at, request_at}
use Rattle.meaning.specs.Refusals.{Found, nowhere, at, contradiction_in, mixed_in, overlap_in, refuse}
use Rattle.meaning.specs.Judging.{judge_settled}

-- WHAT STANDS BEFORE THE PLANS: the table, the place after it, and the number of plans.
pub record Opening : Type 0 where
  pub table : Table
  pub table_end : ℕ
  pub plans : ℕ

-- A file is no longer than a request may be. Sections 1 to 5 are read as a request's, and then the plan count, a byte (FORMAT 19.2).
unfoldable pub opening : Limits → (file : List ℕ) → Got Opening
opening lim s =
    pick (ltb lim.request (length s)) (λ _. fault Limits.too_long 0) λ _.
    next (table_at lim Flags s 0) λ t p.
    next (count_at 1 Limits.most_plans s p) λ k q.
    got (record { table = t; table_end = p; plans = k }) q

-- THE PLANS, each read from where the one before it ended: what stands there where every one is read, and else the first
-- fault (FORMAT 19.2).
unfoldable pub plans_at : Limits → List ℕ → Table → (left : ℕ) → ℕ → Got (List Request)
plans_at lim s t = repeated (request_at lim Flags s t)

-- The first byte after the last plan, where every plan was read and there is one (FORMAT 19.12, 19.14).
unfoldable pub byte_after : List ℕ → Got (List Request) → Found
byte_after s (got rs e) = pick (ltb e (length s)) (λ _. at e) (λ _. nowhere)
byte_after s (fault n p) = nowhere

-- What the walk call answers of a plan, over a table past 16 and 17: its fault, or 18, or how its walk ended (FORMAT 19.7,
-- 19.9). No state is lent, and none left (FORMAT 19.5).
unfoldable pub plan_answer : Limits → (budget : ℕ) → Got Request → Answer
plan_answer lim budget x = (judge_settled lim [] budget (next x λ r e. refuse Limits.not_exclusive (overlap_in r.plan) λ _. got r e)).answer

-- A plan behind one that failed in reading is not reached (FORMAT 19.10).
unfoldable pub unreached : Answer
unreached = record { number = Limits.not_reached; input = Limits.neither_input; place = 0; count = 0 }

-- The answers of the `left` plans behind one that was read, or failed.
unfoldable pub after_plan : (left : ℕ) → Got Request → (ℕ → List Answer) → List Answer
after_plan left (got r e) more = more e
after_plan left (fault n p) more = replicate left unreached

-- The answers of the plans in order, one for each. A plan that is refused by 18 stops no other (FORMAT 19.11).
unfoldable pub answers_at : Limits → List ℕ → Table → (budget left : ℕ) → ℕ → List Answer
answers_at lim s t budget zero p = []
answers_at lim s t budget (suc left) p =
    plan_answer lim budget (request_at lim Flags s t p) ∷ after_plan left (request_at lim Flags s t p) (λ e. answers_at lim s t budget left e)

-- THE ROW. Four numbers for each plan: number, place, count and input (FORMAT 19.6).
unfoldable pub in_row : Answer → List ℕ
in_row a = a.number ∷ a.place ∷ a.count ∷ a.input ∷ []

unfoldable pub rows : List Answer → List ℕ
rows [] = []
rows (a ∷ rest) = in_row a ++ rows rest

-- THE CALL. Past the row's length it refuses by 16 and 17 of the table, and by 20 of the file. What becomes of a plan is in the row
-- alone (FORMAT 19.12, 19.14).
unfoldable pub settled_plans : Limits → List ℕ → (budget : ℕ) → Opening → ℕ → Got (List Answer)
settled_plans lim s budget o p =
    refuse Limits.contradictory_effects (contradiction_in o.table) λ _.
    refuse Limits.effect_and_knowledge (mixed_in o.table.effects o.table.knowledge) λ _.
    refuse Limits.bytes_after (byte_after s (plans_at lim s o.table o.plans p)) λ _.
    got (answers_at lim s o.table budget o.plans p) p

pub record Released : Type 0 where
  pub answer : Answer
  pub row : List ℕ

-- The call's own answer counts nothing (FORMAT 19.15).
unfoldable pub own_answer : (number input place : ℕ) → (row : List ℕ) → Released
own_answer n i p row = record { answer = record { number = n; input = i; place = p; count = 0 }; row = row }

-- The row is written with 0, and stays as lent with every other answer (FORMAT 19.13).
unfoldable pub released : (lent : List ℕ) → Got (List Answer) → Released
released lent (got all e) = own_answer Limits.verified Limits.neither_input 0 (rows all)
released lent (fault n p) = own_answer n Limits.the_request p lent

-- The lent row is to have four numbers for each plan, which is known when the plan count is read. The number is that of a lent
-- state's length (FORMAT 19.12).
unfoldable pub release_opened : Limits → (file lent : List ℕ) → (budget : ℕ) → Got Opening → Released
release_opened lim s lent budget (got o p) =
    pick (eqb (length lent) (4 * o.plans))
    (λ _. released lent (settled_plans lim s budget o p))
    (λ _. own_answer Limits.state_length Limits.neither_input 0 lent)
release_opened lim s lent budget (fault n p) = own_answer n Limits.the_request p lent

unfoldable pub release : Limits → (file lent : List ℕ) → (budget : ℕ) → Released
release lim s lent budget = release_opened lim s lent budget (opening lim s)

-- How many plans a file has; 0 where it is refused before they are counted. A caller learns by it how long a row to lend (FORMAT 19.18, 19.19).
unfoldable pub plans_of : Got Opening → ℕ
plans_of (got o p) = o.plans
plans_of (fault n p) = 0

unfoldable pub plans_in : Limits → (file : List ℕ) → ℕ
plans_in lim s = plans_of (opening lim s)

-- WHAT STATEMENTS SAY OF IT. The bytes of the plan at a place: up to its end, or all that follow, if it fails in reading (FORMAT
-- 19.4).
unfoldable pub plan_bytes : List ℕ → (start : ℕ) → Got Request → List ℕ
plan_bytes s start (got r e) = take (e - start) (drop start s)
plan_bytes s start (fault n p) = drop start s

-- The request of its own: sections 1 to 5, and that plan's sections 6 to 8.
unfoldable pub own_request : Limits → List ℕ → Opening → (start : ℕ) → List ℕ
own_request lim s o start = take o.table_end s ++ plan_bytes s start (request_at lim Flags s o.table start)

-- Its answer, with a place in the request counted so many bytes further on (FORMAT 19.8).
unfoldable pub moved : (on : ℕ) → Answer → Answer
moved on a =
    pick (eqb a.input Limits.the_request)
    (λ _. record { number = a.number; input = a.input; place = a.place + on; count = a.count })
    (λ _. a)

-- The numbers in a row of the plan with this many before it.
unfoldable pub row_of : (row : List ℕ) → (before : ℕ) → List ℕ
row_of row before = take 4 (drop (4 * before) row)
