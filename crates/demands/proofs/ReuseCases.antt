-- What reused verdicts may not be taken for, by rows that the definitions compute: requests alike but for one fact whose answers differ, two
-- verified plans whose joining is not verified, and a budget that is just enough for a joined plan. Assumes nothing.
use Prim.Native.Nat.{ℕ}
use mathlib.Core.Path.{◌≡◌, refl}
use mathlib.Core.List.{List, [], ◌∷◌, map}
use Rattle.meaning.specs.Limits.{format}
use Rattle.meaning.specs.Judging.{judge}
use Rattle.meaning.specs.Paths.{first_ran, goes_on, go_on, meetings, paths_step, paths}
use Rattle.meaning.specs.Layouts.{list_written, number_written}
use Rattle.demands.specs.Reuse.{Parts, before_plan, bytes_of, with_facts, items_said, join_plans, joined, one_if_arrives, arriving, ends_met, end_states}
use Rattle.meaning.proofs.Compute.{all_open}
use Rattle.meaning.proofs.Cases.{Case, row, lent_room, verified, missed, stuck}

-- Over two fluents and one action, no facts: the action is to be run once.
abbrev one_action : (lines goals : List ℕ) → Parts
one_action lines goals = record { fluents = 2; actions = 1; facts = []; lines = lines; plan = 0 ∷ 1 ∷ 0 ∷ []; goals = goals; whether = [] }

-- The action makes fluent 1 true if fluent 0 is, and can always be run. Fluent 1 is to be true.
abbrev pub given_if : Parts
given_if = one_action (1 ∷ 0 ∷ 2 ∷ 1 ∷ 0 ∷ 1 ∷ 0 ∷ 0 ∷ 0 ∷ []) (2 ∷ [])

-- The action can be run if fluent 0 is true. Fluent 1 is to be true, or nothing is asked.
abbrev pub run_if : (goals : List ℕ) → Parts
run_if goals = one_action (0 ∷ 1 ∷ 0 ∷ 1 ∷ 0 ∷ 0 ∷ []) goals

-- The fact that fluent 0 is true.
abbrev with_fact : Parts → Parts
with_fact = with_facts (0 ∷ [])

-- Over two fluents and two actions: action 0 makes fluent 0 true and can always be run; action 1 can be run if fluent 1 is true. One of them is to be
-- run, and fluent 0 is to be true.
abbrev one_of_two : (facts : List ℕ) → (action : ℕ) → Parts
one_of_two facts action = record {
  fluents = 2;
  actions = 2;
  facts = facts;
  lines = 1 ∷ 0 ∷ 0 ∷ 0 ∷ 2 ∷ 0 ∷ 0 ∷ 1 ∷ 1 ∷ 2 ∷ 0 ∷ [];
  plan = 0 ∷ 1 ∷ action ∷ [];
  goals = 0 ∷ [];
  whether = [];
}

-- From no facts to fluent 0, by action 0; and by action 1 from fluent 0 alone, or from both fluents.
abbrev pub first_plan : Parts
first_plan = one_of_two [] 0

abbrev pub second_plan : Parts
second_plan = one_of_two (0 ∷ 2 ∷ []) 1

-- Over two fluents and two actions that can always be run: action 0 senses fluent 0, and action 1 makes fluent 1 true. One of them is to be run.
abbrev look_or_act : (action : ℕ) → (goals : List ℕ) → Parts
look_or_act action goals = record {
  fluents = 2;
  actions = 2;
  facts = [];
  lines = 1 ∷ 1 ∷ 2 ∷ 0 ∷ 2 ∷ 0 ∷ 0 ∷ 1 ∷ 0 ∷ 1 ∷ 0 ∷ 0 ∷ [];
  plan = 0 ∷ 1 ∷ action ∷ [];
  goals = goals;
  whether = [];
}

-- Looked at first, and then fluent 1 is to be true.
abbrev pub looks : Parts
looks = look_or_act 0 []

abbrev pub acts : Parts
acts = look_or_act 1 (2 ∷ [])

pub reuse_cases : List Case
reuse_cases =
    -- An answer 1 that one more fact turns into 0; and so an answer 0 that one fact less turns into 1.
    missed (bytes_of given_if) 16 2 (0 ∷ 0 ∷ []) ∷
    verified (bytes_of (with_fact given_if)) 2 ∷
    -- An answer 2 that one more fact turns into 1.
    stuck (bytes_of (run_if (2 ∷ []))) 11 0 (0 ∷ 0 ∷ []) ∷
    missed (bytes_of (with_fact (run_if (2 ∷ [])))) 14 2 (1 ∷ 0 ∷ []) ∷
    -- An answer 0 that one fact less turns into 2.
    verified (bytes_of (with_fact (run_if []))) 2 ∷
    stuck (bytes_of (run_if [])) 11 0 (0 ∷ 0 ∷ []) ∷
    -- Two plans verified, the second only from more than the first reaches: from what the first reaches it is not, and the joining is not.
    verified (bytes_of first_plan) 2 ∷
    verified (bytes_of second_plan) 2 ∷
    stuck (bytes_of (with_fact second_plan)) 17 0 (1 ∷ 0 ∷ []) ∷
    stuck (bytes_of (joined first_plan second_plan)) 17 1 (1 ∷ 0 ∷ []) ∷
    -- The budget that is named for joining can't be smaller: counts of 3, 2 of it end states, and of 2 make 5, and a budget of 4 is spent.
    verified (bytes_of looks) 3 ∷
    verified (bytes_of acts) 2 ∷
    row (bytes_of (joined looks acts)) lent_room 5 0 0 0 5 lent_room ∷
    row (bytes_of (joined looks acts)) lent_room 4 3 0 0 4 lent_room ∷
    []

-- The end states of the first of these.
pub looks_ends : end_states format (bytes_of looks) ≡ 2
unfolding all_open before_plan bytes_of list_written first_ran goes_on go_on meetings paths_step paths one_if_arrives arriving ends_met end_states
looks_ends = refl

pub reuse_cases_hold : map (λ (c : Case). judge format c.request c.lent c.budget) reuse_cases ≡ map (λ (c : Case). c.gives) reuse_cases
unfolding all_open before_plan bytes_of list_written number_written items_said join_plans reuse_cases
reuse_cases_hold = refl
