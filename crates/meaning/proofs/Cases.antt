-- The cases of the format (FORMAT 13.17 to 13.39, 13.56 to 13.76) and one row or more for each decision that a row can show, computed by
-- the definitions: one equation over one table. Rows that take long to compute are in `LongCases` of `demands`. Assumes nothing.
use Prim.Native.Nat.{ℕ, zero, suc, ◌-◌}
use mathlib.Core.Path.{◌≡◌, refl}
use mathlib.Core.List.{List, [], ◌∷◌, ◌++◌, map}
use lib.ListN.{length, set, replicate, take}
use Rattle.meaning.specs.Limits.{format}
use Rattle.meaning.specs.Judging.{Judgement, judge}
use Rattle.meaning.proofs.Compute.{all_open}

-- A request, what is lent, the budget, and what the call gives.
pub record Case : Type 0 where
  pub request : List ℕ
  pub lent : List ℕ
  pub budget : ℕ
  pub gives : Judgement

abbrev pub row : (request lent : List ℕ) → (budget number input place count : ℕ) → (state : List ℕ) → Case
row request lent budget number input place count state = record {
  request = request;
  lent = lent;
  budget = budget;
  gives = record { answer = record { number = number; input = input; place = place; count = count }; state = state };
}

-- What is lent unless a row says otherwise: as many bytes as a state has, which are no marks.
abbrev pub lent_room : List ℕ
lent_room = replicate format.state 9

-- The budget of the program `judge`.
abbrev pub usual : ℕ
usual = 100000

-- Rows by their answer. The marks are those of the fluents from 0 up; zeros follow.
abbrev pub verified : (request : List ℕ) → (count : ℕ) → Case
verified request count = row request lent_room usual 0 0 0 count lent_room

abbrev pub marked : List ℕ → List ℕ
marked marks = marks ++ replicate (format.state - length marks) 0

abbrev pub missed : (request : List ℕ) → (place count : ℕ) → (marks : List ℕ) → Case
missed request place count marks = row request lent_room usual 1 1 place count (marked marks)

abbrev pub stuck : (request : List ℕ) → (place count : ℕ) → (marks : List ℕ) → Case
stuck request place count marks = row request lent_room usual 2 1 place count (marked marks)

abbrev pub refused : (request : List ℕ) → (number place : ℕ) → Case
refused request number place = row request lent_room usual number 1 place 0 lent_room

-- File A: its bytes 0 to 28, and those from 29 on.
unfoldable pub table_A : List ℕ
table_A = 4 ∷ 3 ∷ 3 ∷ 3 ∷ 5 ∷ 7 ∷ 3 ∷ 1 ∷ 2 ∷ 0 ∷ 1 ∷ 6 ∷ 1 ∷ 0 ∷ 2 ∷ 4 ∷ 0 ∷ 3 ∷ 0 ∷ 0 ∷ 1 ∷ 1 ∷ 3 ∷ 2 ∷ 1 ∷ 2 ∷ 1 ∷ 0 ∷ 0 ∷ []

unfoldable pub file_A : List ℕ
file_A = table_A ++ (0 ∷ 2 ∷ 0 ∷ 255 ∷ 2 ∷ 1 ∷ 1 ∷ 0 ∷ 2 ∷ 1 ∷ 2 ∷ 1 ∷ 0 ∷ 0 ∷ 0 ∷ 1 ∷ 7 ∷ 1 ∷ 2 ∷ [])

-- Case 10: every world reaches the goal.
unfoldable pub case_10 : List ℕ
case_10 = 2 ∷ 1 ∷ 0 ∷ 2 ∷ 0 ∷ 0 ∷ 1 ∷ 2 ∷ 0 ∷ 0 ∷ 1 ∷ 3 ∷ 1 ∷ 0 ∷ 0 ∷ 0 ∷ 0 ∷ 1 ∷ 0 ∷ 1 ∷ 0 ∷ 0 ∷ []

-- One fluent, one action, no facts and no lines: the six bytes before the plan.
unfoldable pub no_lines : List ℕ
no_lines = 1 ∷ 1 ∷ 0 ∷ 0 ∷ 0 ∷ 0 ∷ []

-- A sequence of one branching with one branch and no condition, up to that branch's sequence.
unfoldable pub opening : List ℕ
opening = 0 ∷ 1 ∷ 255 ∷ 1 ∷ 0 ∷ []

unfoldable pub copies : ℕ → List ℕ → List ℕ
copies zero xs = []
copies (suc k) xs = xs ++ copies k xs

pub cases : List Case
cases =
    -- Case 1.
    verified file_A 5 ∷
    -- Case 2.
    missed (table_A ++ (0 ∷ 1 ∷ 1 ∷ 1 ∷ 7 ∷ 1 ∷ 2 ∷ [])) 33 2 (0 ∷ 1 ∷ 2 ∷ 0 ∷ []) ∷
    -- Case 3.
    stuck (table_A ++ (0 ∷ 1 ∷ 255 ∷ 2 ∷ 1 ∷ 1 ∷ 0 ∷ 2 ∷ 1 ∷ 2 ∷ 1 ∷ 0 ∷ 0 ∷ 0 ∷ 1 ∷ 7 ∷ 1 ∷ 2 ∷ [])) 31 0 (0 ∷ 2 ∷ 2 ∷ 2 ∷ []) ∷
    -- Case 4.
    row file_A lent_room 4 3 0 0 4 lent_room ∷
    row file_A lent_room 5 0 0 0 5 lent_room ∷
    -- Case 5.
    verified (table_A ++ (0 ∷ 0 ∷ 0 ∷ 0 ∷ [])) 1 ∷
    -- Case 6.
    missed (table_A ++ (0 ∷ 0 ∷ 1 ∷ 7 ∷ 1 ∷ 0 ∷ [])) 34 1 (0 ∷ 2 ∷ 2 ∷ 2 ∷ []) ∷
    -- Case 7.
    stuck (table_A ++ (0 ∷ 1 ∷ 2 ∷ 0 ∷ 0 ∷ [])) 31 0 (0 ∷ 2 ∷ 2 ∷ 2 ∷ []) ∷
    -- Case 8.
    verified (table_A ++ (0 ∷ 1 ∷ 0 ∷ 0 ∷ 1 ∷ 0 ∷ [])) 3 ∷
    -- Case 9.
    verified (table_A ++ (0 ∷ 2 ∷ 0 ∷ 0 ∷ 0 ∷ 0 ∷ [])) 5 ∷
    -- Case 10.
    missed case_10 20 2 (0 ∷ 0 ∷ []) ∷
    -- A goal missed in both readings: the first is named, the second still walked.
    missed (table_A ++ (0 ∷ 1 ∷ 0 ∷ 1 ∷ 2 ∷ 0 ∷ [])) 33 3 (1 ∷ 2 ∷ 2 ∷ 2 ∷ []) ∷
    -- A goal missed in the first reading, and an item that can't be run in the second.
    stuck (table_A ++ (0 ∷ 2 ∷ 0 ∷ 255 ∷ 1 ∷ 1 ∷ 0 ∷ 0 ∷ 0 ∷ 1 ∷ 2 ∷ 0 ∷ [])) 32 2 (2 ∷ 2 ∷ 2 ∷ 2 ∷ []) ∷
    -- A goal and a whether entry missed: the goal is named.
    missed (table_A ++ (0 ∷ 0 ∷ 1 ∷ 2 ∷ 1 ∷ 0 ∷ [])) 32 1 (0 ∷ 2 ∷ 2 ∷ 2 ∷ []) ∷
    -- Case 11.
    refused [] 11 0 ∷
    refused (take 47 file_A) 11 47 ∷
    refused (file_A ++ (0 ∷ [])) 20 48 ∷
    -- Case 12.
    refused (set file_A 0 0) 12 0 ∷
    refused (set file_A 0 129) 12 0 ∷
    refused (set file_A 1 129) 12 1 ∷
    refused (set file_A 5 8) 13 5 ∷
    refused (set file_A 5 5) 14 5 ∷
    refused (set file_A 3 4) 15 4 ∷
    refused (set file_A 11 3) 16 10 ∷
    refused (set file_A 27 1) 17 27 ∷
    refused (set file_A 41 1) 18 32 ∷
    -- Case 13.
    row file_A (replicate 127 9) usual 9 0 0 0 (replicate 127 9) ∷
    row file_A (replicate 129 9) usual 9 0 0 0 (replicate 129 9) ∷
    row file_A (replicate 64 9) usual 9 0 0 0 (replicate 64 9) ∷
    refused (replicate 16385 0) 10 0 ∷
    -- What a test in another order would say otherwise: an entry's size goes before the next one's order, and 20 before 16.
    refused (set file_A 3 8) 13 3 ∷
    refused (set file_A 11 3 ++ (0 ∷ [])) 20 48 ∷
    -- The decisions of DECISIONS.md, by number. D1
    refused (set file_A 4 2) 14 4 ∷
    -- D2
    verified (table_A ++ (0 ∷ 0 ∷ 0 ∷ 2 ∷ 2 ∷ 3 ∷ [])) 1 ∷
    -- D3
    refused (table_A ++ (0 ∷ 1 ∷ 3 ∷ [])) 13 31 ∷
    refused (table_A ++ (0 ∷ 1 ∷ 254 ∷ [])) 13 31 ∷
    refused (table_A ++ (0 ∷ 0 ∷ 0 ∷ 1 ∷ 4 ∷ [])) 13 33 ∷
    -- D4
    refused (2 ∷ 1 ∷ 10 ∷ 0 ∷ 2 ∷ []) 11 5 ∷
    -- D5
    refused (2 ∷ 1 ∷ 129 ∷ []) 12 2 ∷
    refused (no_lines ++ copies 8 opening ++ (0 ∷ 1 ∷ 255 ∷ [])) 19 48 ∷
    -- D9, D10
    refused (take 30 file_A) 11 30 ∷
    refused (table_A ++ (255 ∷ 255 ∷ [])) 11 31 ∷
    -- D14
    refused (2 ∷ 1 ∷ 0 ∷ 4 ∷ 0 ∷ 0 ∷ 0 ∷ 0 ∷ 2 ∷ 0 ∷ 0 ∷ 3 ∷ 0 ∷ 0 ∷ 1 ∷ 0 ∷ 1 ∷ 0 ∷ 0 ∷ 0 ∷ 0 ∷ 0 ∷ 0 ∷ 0 ∷ []) 16 10 ∷
    -- D15
    refused (2 ∷ 1 ∷ 0 ∷ 2 ∷ 0 ∷ 0 ∷ 0 ∷ 0 ∷ 1 ∷ 0 ∷ 1 ∷ 0 ∷ 0 ∷ 1 ∷ 0 ∷ 1 ∷ 0 ∷ 0 ∷ 0 ∷ 0 ∷ []) 16 7 ∷
    -- Effects that clash only where the action can't be run, and a line under which both bodies can hold (FORMAT 13.70, 13.71).
    verified (2 ∷ 1 ∷ 1 ∷ 1 ∷ 2 ∷ 0 ∷ 2 ∷ 0 ∷ 0 ∷ 3 ∷ 1 ∷ 0 ∷ 1 ∷ 0 ∷ 1 ∷ 1 ∷ 0 ∷ 0 ∷ 1 ∷ 0 ∷ 1 ∷ 2 ∷ 0 ∷ []) 2 ∷
    refused (2 ∷ 1 ∷ 1 ∷ 1 ∷ 2 ∷ 0 ∷ 2 ∷ 0 ∷ 0 ∷ 3 ∷ 1 ∷ 0 ∷ 2 ∷ 0 ∷ 1 ∷ 1 ∷ 0 ∷ 0 ∷ 0 ∷ 0 ∷ 1 ∷ 0 ∷ 1 ∷ 2 ∷ 0 ∷ []) 16 8 ∷
    -- D121: a line for each body and none for both; a third line for both (FORMAT 13.72, 13.73).
    verified (3 ∷ 1 ∷ 2 ∷ 1 ∷ 2 ∷ 2 ∷ 0 ∷ 4 ∷ 1 ∷ 0 ∷ 0 ∷ 5 ∷ 1 ∷ 2 ∷ 2 ∷ 0 ∷ 1 ∷ 1 ∷ 0 ∷ 1 ∷ 3 ∷ 0 ∷ 0 ∷ 1 ∷ 0 ∷ 1 ∷ 5 ∷ 0 ∷ []) 2 ∷
    refused (3 ∷ 1 ∷ 2 ∷ 1 ∷ 2 ∷ 2 ∷ 0 ∷ 4 ∷ 1 ∷ 0 ∷ 0 ∷ 5 ∷ 1 ∷ 2 ∷ 3 ∷ 0 ∷ 1 ∷ 1 ∷ 0 ∷ 1 ∷ 3 ∷ 0 ∷ 1 ∷ 4 ∷ 0 ∷ 0 ∷ 1 ∷ 0 ∷ 1 ∷ 5 ∷ 0 ∷ []) 16 10 ∷
    -- No line of the action, and a line of another (FORMAT 13.74, 13.75).
    stuck (2 ∷ 1 ∷ 0 ∷ 2 ∷ 0 ∷ 2 ∷ 0 ∷ 0 ∷ 3 ∷ 0 ∷ 0 ∷ 0 ∷ 0 ∷ 1 ∷ 0 ∷ 0 ∷ 0 ∷ []) 14 0 (0 ∷ 0 ∷ []) ∷
    verified (2 ∷ 2 ∷ 0 ∷ 2 ∷ 0 ∷ 2 ∷ 0 ∷ 0 ∷ 3 ∷ 0 ∷ 1 ∷ 1 ∷ 0 ∷ 0 ∷ 0 ∷ 0 ∷ 0 ∷ 0 ∷ []) 1 ∷
    -- D122: the third effect, where the second was the place before (FORMAT 13.76).
    refused (3 ∷ 1 ∷ 0 ∷ 3 ∷ 0 ∷ 2 ∷ 0 ∷ 0 ∷ 3 ∷ 1 ∷ 0 ∷ 0 ∷ 3 ∷ 1 ∷ 4 ∷ 1 ∷ 0 ∷ 1 ∷ 1 ∷ 0 ∷ 0 ∷ 0 ∷ 0 ∷ 0 ∷ []) 16 11 ∷
    -- D16
    refused (2 ∷ 2 ∷ 0 ∷ 2 ∷ 0 ∷ 0 ∷ 0 ∷ 1 ∷ 0 ∷ 0 ∷ 0 ∷ 2 ∷ 1 ∷ 1 ∷ 0 ∷ 1 ∷ 0 ∷ 0 ∷ 0 ∷ 0 ∷ []) 17 12 ∷
    -- D17
    refused (2 ∷ 1 ∷ 0 ∷ 0 ∷ 0 ∷ 0 ∷ 0 ∷ 1 ∷ 255 ∷ 3 ∷ 1 ∷ 0 ∷ 0 ∷ 0 ∷ 1 ∷ 1 ∷ 0 ∷ 0 ∷ 2 ∷ 0 ∷ 2 ∷ 0 ∷ 0 ∷ 0 ∷ 0 ∷ []) 18 8 ∷
    refused (2 ∷ 1 ∷ 0 ∷ 0 ∷ 0 ∷ 0 ∷ 0 ∷ 1 ∷ 255 ∷ 2 ∷ 0 ∷ 0 ∷ 0 ∷ 1 ∷ 0 ∷ 0 ∷ 0 ∷ 0 ∷ 0 ∷ []) 18 8 ∷
    -- Two conditions of a branching inside another may both hold: its own byte is the place (FORMAT 4.16).
    refused (2 ∷ 1 ∷ 0 ∷ 0 ∷ 0 ∷ 0 ∷ 0 ∷ 1 ∷ 255 ∷ 1 ∷ 0 ∷ 0 ∷ 1 ∷ 255 ∷ 2 ∷ 1 ∷ 0 ∷ 0 ∷ 0 ∷ 1 ∷ 2 ∷ 0 ∷ 0 ∷ 0 ∷ 0 ∷ []) 18 13 ∷
    -- D18
    row (table_A ++ (0 ∷ 1 ∷ 2 ∷ 0 ∷ 0 ∷ [])) lent_room 0 2 1 31 0 (marked (0 ∷ 2 ∷ 2 ∷ 2 ∷ [])) ∷
    row (table_A ++ (0 ∷ 0 ∷ 0 ∷ 0 ∷ [])) lent_room 0 3 0 0 0 lent_room ∷
    -- D21
    missed (2 ∷ 1 ∷ 0 ∷ 0 ∷ 1 ∷ 0 ∷ 0 ∷ 2 ∷ 0 ∷ 1 ∷ 0 ∷ 0 ∷ 0 ∷ 1 ∷ 0 ∷ 1 ∷ 2 ∷ 0 ∷ []) 16 5 (1 ∷ 2 ∷ []) ∷
    -- D23
    verified (1 ∷ 1 ∷ 0 ∷ 0 ∷ 1 ∷ 0 ∷ 0 ∷ 0 ∷ 0 ∷ 1 ∷ 0 ∷ 0 ∷ 0 ∷ []) 2 ∷
    -- D24
    verified (1 ∷ 1 ∷ 0 ∷ 0 ∷ 0 ∷ 0 ∷ 0 ∷ 1 ∷ 255 ∷ 1 ∷ 0 ∷ 0 ∷ 0 ∷ 0 ∷ 0 ∷ []) 1 ∷
    -- File A with a line of each of the sections 3 to 5 said twice (FORMAT 2.35).
    verified (4 ∷ 3 ∷ 3 ∷ 3 ∷ 5 ∷ 7 ∷ 4 ∷ 1 ∷ 2 ∷ 0 ∷ 1 ∷ 2 ∷ 0 ∷ 1 ∷ 6 ∷ 1 ∷ 0 ∷ 2 ∷ 4 ∷ 0 ∷ 4 ∷ 0 ∷ 0 ∷ 1 ∷ 1 ∷ 3 ∷ 2 ∷ 1 ∷ 2 ∷ 0 ∷ 0 ∷ 2 ∷ 0 ∷ 0 ∷ 0 ∷ 0 ∷ 0 ∷ 2 ∷ 0 ∷ 255 ∷ 2 ∷ 1 ∷ 1 ∷ 0 ∷ 2 ∷ 1 ∷ 2 ∷ 1 ∷ 0 ∷ 0 ∷ 0 ∷ 1 ∷ 7 ∷ 1 ∷ 2 ∷ []) 5 ∷
    -- The limits (FORMAT 13.63 to 13.69): more than 64 fluents; the last fluent, its literals and its mark; the last action, and the item
    -- byte after it.
    verified (set file_A 0 65) 5 ∷
    verified (set (set file_A 0 128) 1 128) 5 ∷
    verified (128 ∷ 1 ∷ 1 ∷ 255 ∷ 0 ∷ 0 ∷ 0 ∷ 0 ∷ 0 ∷ 1 ∷ 255 ∷ 1 ∷ 127 ∷ []) 1 ∷
    refused (127 ∷ 1 ∷ 1 ∷ 255 ∷ 0 ∷ 0 ∷ 0 ∷ 0 ∷ 0 ∷ 1 ∷ 255 ∷ 1 ∷ 127 ∷ []) 13 3 ∷
    missed (128 ∷ 1 ∷ 0 ∷ 0 ∷ 1 ∷ 0 ∷ 0 ∷ 1 ∷ 0 ∷ 127 ∷ 0 ∷ 1 ∷ 0 ∷ 1 ∷ 254 ∷ 0 ∷ []) 14 3 (replicate 127 0 ++ (2 ∷ [])) ∷
    verified (1 ∷ 128 ∷ 0 ∷ 0 ∷ 1 ∷ 127 ∷ 0 ∷ 0 ∷ 0 ∷ 1 ∷ 127 ∷ 0 ∷ 0 ∷ []) 2 ∷
    refused (1 ∷ 128 ∷ 0 ∷ 0 ∷ 0 ∷ 0 ∷ 0 ∷ 1 ∷ 128 ∷ []) 13 8 ∷
    []

-- Every case is judged as its row says.
pub cases_hold : map (λ (c : Case). judge format c.request c.lent c.budget) cases ≡ map (λ (c : Case). c.gives) cases
unfolding all_open table_A file_A case_10 no_lines opening copies cases
cases_hold = refl
