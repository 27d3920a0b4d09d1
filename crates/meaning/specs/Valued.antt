-- The values call: a request whose fluents have 2 to 16 values, its answer and the lent bytes afterwards, for every input (FORMAT section 26). How such a request is read is in
-- Reading, what its literals say in Values, and what its actions do in ValueStates.
use Rattle.std.specs.Prelude.{ℕ, List, []}
use Rattle.meaning.specs.Limits
use Rattle.meaning.specs.Limits.{Limits}
use Rattle.meaning.specs.Requests.{Request}
use Rattle.meaning.specs.Reading.{Got, got, next, Valued, literals_in, read_request}
use Rattle.meaning.specs.Refusals.{refuse, first_against, mixed_in, failing_in}
use Rattle.meaning.specs.Values.{contradictory, all_exclusive}
use Rattle.meaning.specs.States.{State}
use Rattle.meaning.specs.Walk.{Walked}
use Rattle.meaning.specs.ValueStates.{first_state, walked}
use Rattle.meaning.specs.Judging.{Judgement, judge_by}

-- What was read of a request, past 16, 17 and 18 (FORMAT 26.23 to 26.26).
abbrev pub past_value_refusals : {A : Type 0} → (request : List ℕ) → Request → Got A → Got A
past_value_refusals s r whole =
    refuse Limits.contradictory_effects (first_against (contradictory (literals_in s) r.table) [] r.table.effects) λ _.
    refuse Limits.effect_and_knowledge (mixed_in r.table.effects r.table.knowledge) λ _.
    refuse Limits.not_exclusive (failing_in (all_exclusive (literals_in s)) r.plan) λ _.
    whole

-- Read without a fault, and past the three.
unfoldable pub settled_values : Limits → List ℕ → Got Request
settled_values lim s = next (read_request lim Valued s) λ r e. past_value_refusals s r (got r e)

-- The walk of its plan from the first state.
unfoldable pub walk_of : Limits → (request : List ℕ) → Request → Walked State
walk_of lim s r = walked (literals_in s) r (first_state (literals_in s) lim r.table)

-- The lent state's length goes first (FORMAT 26.14).
unfoldable pub judge_values : Limits → (request lent : List ℕ) → (budget : ℕ) → Judgement
judge_values lim request = judge_by (walk_of lim request) lim (settled_values lim request)

-- WHAT STATEMENTS SAY OF IT. The answer's number, and the count of the whole walk.
abbrev pub number : Limits → (request lent : List ℕ) → (budget : ℕ) → ℕ
number lim request lent budget = (judge_values lim request lent budget).answer.number

abbrev pub count : Limits → (request : List ℕ) → Request → ℕ
count lim request r = (walk_of lim request r).count
