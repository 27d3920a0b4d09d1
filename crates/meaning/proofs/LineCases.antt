-- The cases of the line (FORMAT 18.24 to 18.43, 22.28), computed by the definitions: what the walk call gives, and the line that its answer carries.
-- Assumes nothing.
use Prim.Native.Nat.{ℕ}
use mathlib.Core.Path.{◌≡◌, refl}
use mathlib.Core.List.{List, [], ◌∷◌, ◌++◌, map}
use lib.ListN.{take}
use Rattle.meaning.specs.Limits.{format}
use Rattle.meaning.specs.Judging.{Judgement, judge}
use Rattle.meaning.specs.Asking.{line}
use Rattle.meaning.proofs.Compute.{all_open}
use Rattle.meaning.proofs.Cases.{lent_room, usual, marked, table_A, file_A}

-- A request, what is lent, the budget, what the call gives, and the line.
pub record LineCase : Type 0 where
  pub request : List ℕ
  pub lent : List ℕ
  pub budget : ℕ
  pub gives : Judgement
  pub carries : ℕ

abbrev pub row : (request lent : List ℕ) → (budget number input place count : ℕ) → (state : List ℕ) → (carries : ℕ) → LineCase
row request lent budget number input place count state carries = record {
  request = request;
  lent = lent;
  budget = budget;
  gives = record { answer = record { number = number; input = input; place = place; count = count }; state = state };
  carries = carries;
}

abbrev pub stuck : (request : List ℕ) → (place count : ℕ) → (marks : List ℕ) → (carries : ℕ) → LineCase
stuck request place count marks carries = row request lent_room usual 2 1 place count (marked marks) carries

-- The bytes before section 4 (FORMAT 18.22): of four fluents, 0 is known true and 1 known false.
unfoldable pub front : List ℕ
front = 4 ∷ 2 ∷ 2 ∷ 0 ∷ 3 ∷ 0 ∷ []

-- Behind section 4: no knowledge lines, the plan of action 0 alone, no goals and no whether entries.
one_action : List ℕ
one_action = 0 ∷ 0 ∷ 1 ∷ 0 ∷ 0 ∷ 0 ∷ []

known_there : List ℕ
known_there = 1 ∷ 2 ∷ []

-- One line allows the action where a fluent is true, another where it is false (FORMAT 22.27).
unfoldable pub either_line : List ℕ
either_line = 1 ∷ 1 ∷ 0 ∷ 0 ∷ 2 ∷ 0 ∷ 1 ∷ 0 ∷ 0 ∷ 1 ∷ 1 ∷ 0 ∷ 0 ∷ 1 ∷ 0 ∷ 0 ∷ 0 ∷ []

pub line_cases : List LineCase
line_cases =
    -- No line: the only one is of another action.
    stuck (front ++ (1 ∷ 1 ∷ 0 ∷ []) ++ one_action) 12 0 known_there 0 ∷
    -- One line, short by one literal.
    stuck (front ++ (1 ∷ 0 ∷ 2 ∷ 0 ∷ 4 ∷ []) ++ one_action) 14 0 known_there 7 ∷
    -- Two lines, each short by one: the earlier.
    stuck (front ++ (3 ∷ 1 ∷ 0 ∷ 0 ∷ 1 ∷ 4 ∷ 0 ∷ 1 ∷ 6 ∷ []) ++ one_action) 18 0 known_there 9 ∷
    -- The same line twice.
    stuck (front ++ (2 ∷ 0 ∷ 1 ∷ 4 ∷ 0 ∷ 1 ∷ 4 ∷ []) ++ one_action) 16 0 known_there 7 ∷
    -- A later line that is short by fewer.
    stuck (front ++ (2 ∷ 0 ∷ 2 ∷ 4 ∷ 6 ∷ 0 ∷ 1 ∷ 6 ∷ []) ++ one_action) 17 0 known_there 11 ∷
    -- The second of three, with the third as short.
    stuck (front ++ (3 ∷ 0 ∷ 2 ∷ 4 ∷ 6 ∷ 0 ∷ 1 ∷ 6 ∷ 0 ∷ 2 ∷ 0 ∷ 4 ∷ []) ++ one_action) 21 0 known_there 11 ∷
    -- Known false and unknown count alike, whichever comes first.
    stuck (front ++ (2 ∷ 0 ∷ 1 ∷ 2 ∷ 0 ∷ 1 ∷ 4 ∷ []) ++ one_action) 16 0 known_there 7 ∷
    stuck (front ++ (2 ∷ 0 ∷ 1 ∷ 4 ∷ 0 ∷ 1 ∷ 2 ∷ []) ++ one_action) 16 0 known_there 7 ∷
    stuck (front ++ (2 ∷ 0 ∷ 2 ∷ 4 ∷ 6 ∷ 0 ∷ 2 ∷ 0 ∷ 2 ∷ []) ++ one_action) 18 0 known_there 11 ∷
    -- A sensing action.
    stuck (front ++ (1 ∷ 0 ∷ 1 ∷ 4 ∷ []) ++ (1 ∷ 0 ∷ 2 ∷ 0 ∷ 1 ∷ 0 ∷ 0 ∷ 0 ∷ [])) 15 0 known_there 7 ∷
    -- A branching, though action 0 has a line.
    stuck (front ++ (1 ∷ 0 ∷ 1 ∷ 4 ∷ []) ++ (0 ∷ 0 ∷ 1 ∷ 255 ∷ 1 ∷ 1 ∷ 4 ∷ 0 ∷ 0 ∷ 0 ∷ 0 ∷ [])) 13 0 known_there 0 ∷
    -- A later line allows it: nothing stops the walk.
    row (front ++ (2 ∷ 0 ∷ 1 ∷ 4 ∷ 0 ∷ 0 ∷ []) ++ one_action) lent_room usual 0 0 0 2 lent_room 0 ∷
    -- Case 7 of File A, with the usual budget and with none.
    stuck (table_A ++ (0 ∷ 1 ∷ 2 ∷ 0 ∷ 0 ∷ [])) 31 0 (0 ∷ 2 ∷ 2 ∷ 2 ∷ []) 23 ∷
    row (table_A ++ (0 ∷ 1 ∷ 2 ∷ 0 ∷ 0 ∷ [])) lent_room 0 2 1 31 0 (marked (0 ∷ 2 ∷ 2 ∷ 2 ∷ [])) 23 ∷
    -- The action that opens, run twice: in the state after the first time.
    stuck (table_A ++ (0 ∷ 2 ∷ 1 ∷ 1 ∷ 0 ∷ 0 ∷ [])) 32 1 (0 ∷ 1 ∷ 2 ∷ 0 ∷ []) 20 ∷
    -- Case 3, which stops at a branching.
    stuck (table_A ++ (0 ∷ 1 ∷ 255 ∷ 2 ∷ 1 ∷ 1 ∷ 0 ∷ 2 ∷ 1 ∷ 2 ∷ 1 ∷ 0 ∷ 0 ∷ 0 ∷ 1 ∷ 7 ∷ 1 ∷ 2 ∷ [])) 31 0 (0 ∷ 2 ∷ 2 ∷ 2 ∷ []) 0 ∷
    -- Every other answer: verified, goal missed, budget spent, a lent state of another length, a refusal.
    row file_A lent_room usual 0 0 0 5 lent_room 0 ∷
    row (table_A ++ (0 ∷ 0 ∷ 1 ∷ 7 ∷ 1 ∷ 0 ∷ [])) lent_room usual 1 1 34 1 (marked (0 ∷ 2 ∷ 2 ∷ 2 ∷ [])) 0 ∷
    row file_A lent_room 4 3 0 0 4 lent_room 0 ∷
    row (table_A ++ (0 ∷ 1 ∷ 2 ∷ 0 ∷ 0 ∷ [])) [] usual 9 0 0 0 [] 0 ∷
    row (take 47 file_A) lent_room usual 11 1 47 0 lent_room 0 ∷
    -- By what is known neither line allows it, whichever does by cases (FORMAT 22.28).
    stuck either_line 14 0 (0 ∷ []) 5 ∷
    []

-- Every case is judged as its row says, and its answer carries the row's line.
pub line_cases_hold : map (λ (c : LineCase). judge format c.request c.lent c.budget) line_cases ≡ map (λ (c : LineCase). c.gives) line_cases
unfolding all_open table_A file_A front one_action known_there either_line line_cases
line_cases_hold = refl

pub lines_hold : map (λ (c : LineCase). line format c.request c.lent c.budget) line_cases ≡ map (λ (c : LineCase). c.carries) line_cases
unfolding all_open table_A file_A front one_action known_there either_line line_cases
lines_hold = refl
