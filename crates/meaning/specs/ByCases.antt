-- The call by cases: an action is run in each complete filling of the unknown fluents, and what all results share is kept (FORMAT section 22). Son and
-- Baral's definition 11, over partial states.
use Rattle.std.specs.Prelude.{ℕ, zero, suc, ◌+◌, Bool, List, [], ◌∷◌, ◌++◌, map, length, ltb, eqb}
use Rattle.meaning.specs.Tests.{both, either, fails, pick, some_of, each_of, those_of}
use Rattle.meaning.specs.Limits
use Rattle.meaning.specs.Limits.{Limits}
use Rattle.meaning.specs.Literals.{says_true, says_false, fluent_of}
use Rattle.meaning.specs.Requests.{Effect, Executability, Table, Request}
use Rattle.meaning.specs.Refusals.{nowhere, settled}
use Rattle.meaning.specs.Lines.{effects_of, executability_of}
use Rattle.meaning.specs.States.{State, known, known_whether, told, first_state, can_be_run, state_after, outcome_to}
use Rattle.meaning.specs.Walk.{no_state, in_state, Walked, Step, leads_to, refuses, Steps, walk, judged}
use Rattle.meaning.specs.Judging.{Judgement, judge_by}
use Rattle.meaning.specs.Asking.{line_settled}

-- So many fluents from fluent f up.
unfoldable pub upward : (f n : ℕ) → List ℕ
upward f zero = []
upward f (suc n) = f ∷ upward (f + 1) n

-- FILLINGS. Each of the fluents that is unknown is made true, and made false (FORMAT 22.2).
unfoldable pub fillings : List ℕ → State → List State
fillings [] s = s ∷ []
fillings (f ∷ fs) s =
    pick (known_whether s f)
    (λ _. fillings fs s)
    (λ _. fillings fs (told (says_true f) s) ++ fillings fs (told (says_false f) s))

-- The complete ones are over all fluents of the table.
unfoldable pub complete : Table → State → List State
complete t = fillings (upward 0 t.fluents)

-- The action can be run in every complete filling (FORMAT 22.3).
unfoldable pub runs_by_cases : Table → ℕ → State → Bool
runs_by_cases t a s = each_of (can_be_run t a) (complete t s)

-- WHAT STATES SHARE: the mark that a fluent has in all of them, and else unknown (FORMAT 22.4).
unfoldable pub shared_mark : List State → ℕ → ℕ
shared_mark us f =
    pick (each_of (λ (u : State). known u (says_true f)) us) (λ _. Limits.true_mark) λ _.
    pick (each_of (λ (u : State). known u (says_false f)) us) (λ _. Limits.false_mark) λ _.
    Limits.unknown_mark

-- Of as many fluents as the last list has entries, from fluent f up.
unfoldable pub shared_marks : List State → (f : ℕ) → List ℕ → List ℕ
shared_marks us f [] = []
shared_marks us f (m ∷ ms) = shared_mark us f ∷ shared_marks us (f + 1) ms

-- The state after the action: what is shared by the states after it in each of these.
unfoldable pub after_each : Table → ℕ → List State → State → State
after_each t a us s = shared_marks (map (state_after t a) us) 0 s

unfoldable pub after_cases : Table → ℕ → State → State
after_cases t a s = after_each t a (complete t s) s

-- TOO MANY CASES. The fluent is in the body of an effect or of an executability line of the action (FORMAT 22.8).
unfoldable pub in_body : ℕ → List ℕ → Bool
in_body f = some_of (λ (l : ℕ). eqb (fluent_of l) f)

unfoldable pub in_bodies : Table → ℕ → ℕ → Bool
in_bodies t a f =
    either
    (some_of (λ (e : Effect). in_body f e.body) (effects_of t a))
    (some_of (λ (x : Executability). in_body f x.body) (executability_of t a))

-- The unknown fluents of its bodies, ascending, each once.
unfoldable pub open_fluents : Table → ℕ → State → List ℕ
open_fluents t a s = those_of (λ (f : ℕ). both (in_bodies t a f) (fails (known_whether s f))) (upward 0 t.fluents)

unfoldable pub too_many : Table → ℕ → State → Bool
too_many t a s = ltb Limits.most_open (length (open_fluents t a s))

-- THE STEP. 44 goes before the question whether the action can be run (FORMAT 22.9, 22.10). What a sensing action leads to is as ever (FORMAT 22.5).
unfoldable pub cases_does : Table → ℕ → State → Step State
cases_does t a s =
    pick (too_many t a s) (λ _. refuses Limits.too_many_cases no_state) λ _.
    pick (runs_by_cases t a s) (λ _. leads_to (outcome_to t a s (after_cases t a s))) λ _.
    refuses Limits.not_executable (in_state s)

unfoldable pub cases_step : Table → Steps State ℕ
cases_step t = record { does = cases_does t; knows = known; lacks = λ _. nowhere }

-- THE CALL walks the plan so, from the first state, and else is the walk call (FORMAT 22.1, 22.7).
unfoldable pub walked_by_cases : Request → State → Walked State
walked_by_cases r = walk (cases_step r.table) r.plan (judged r)

abbrev pub walk_of : Limits → Request → Walked State
walk_of lim r = walked_by_cases r (first_state lim r.table)

unfoldable pub judge_by_cases : Limits → (request lent : List ℕ) → (budget : ℕ) → Judgement
judge_by_cases lim request = judge_by (walk_of lim) lim (settled lim request)

-- The line that answer 2 carries (FORMAT 18.10 to 18.12, 22.14).
unfoldable pub line_by_cases : Limits → (request lent : List ℕ) → (budget : ℕ) → ℕ
line_by_cases lim request lent budget = line_settled request (judge_by_cases lim request lent budget) (settled lim request)

-- WHAT STATEMENTS SAY OF IT. The answer's number, and the count of the whole walk.
abbrev pub number : Limits → (request lent : List ℕ) → (budget : ℕ) → ℕ
number lim request lent budget = (judge_by_cases lim request lent budget).answer.number

abbrev pub count : Limits → Request → ℕ
count lim r = (walk_of lim r).count
