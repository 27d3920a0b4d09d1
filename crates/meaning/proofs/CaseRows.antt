-- The cases of the call by cases (FORMAT 22.24 to 22.50), computed by the definitions: what the call gives, and the line that its answer carries. Rows in which
-- an action is run with 12 or more unknown fluents are in `WideCases` of `demands`, since their thousands of fillings are not computed. Assumes nothing.
use Prim.Native.Nat.{ℕ}
use mathlib.Core.Path.{◌≡◌, refl}
use mathlib.Core.List.{List, [], ◌∷◌, ◌++◌, map}
use lib.ListN.{set, replicate}
use Rattle.meaning.specs.Limits.{format}
use Rattle.meaning.specs.ByCases.{judge_by_cases, line_by_cases}
use Rattle.meaning.proofs.Compute.{all_open}
use Rattle.meaning.proofs.Cases.{lent_room, usual, marked, table_A, file_A, case_10}
use Rattle.meaning.proofs.LineCases.{LineCase, row, stuck, either_line}

-- Rows by their answer.
abbrev pub verified : (request : List ℕ) → (count : ℕ) → LineCase
verified request count = row request lent_room usual 0 0 0 count lent_room 0

abbrev pub spent : (request : List ℕ) → (budget : ℕ) → LineCase
spent request budget = row request lent_room budget 3 0 0 budget lent_room 0

abbrev missed : (request : List ℕ) → (place count : ℕ) → (marks : List ℕ) → LineCase
missed request place count marks = row request lent_room usual 1 1 place count (marked marks) 0

abbrev pub many_within : (request : List ℕ) → (budget place : ℕ) → LineCase
many_within request budget place = row request lent_room budget 44 1 place 0 lent_room 0

abbrev pub many : (request : List ℕ) → (place : ℕ) → LineCase
many request = many_within request usual

-- W: the first 13 fluents as a body, each true.
unfoldable pub wide : List ℕ
wide = 13 ∷ 0 ∷ 2 ∷ 4 ∷ 6 ∷ 8 ∷ 10 ∷ 12 ∷ 14 ∷ 16 ∷ 18 ∷ 20 ∷ 22 ∷ 24 ∷ []

-- No facts, and one effect of action 0 with that body, up to the executability lines.
unfoldable pub one_wide : List ℕ
one_wide = 0 ∷ 1 ∷ 0 ∷ 0 ∷ wide

-- Behind section 4: no knowledge lines, the plan of action 0 alone, no goals and no whether entries.
unfoldable pub one_action : List ℕ
one_action = 0 ∷ 0 ∷ 1 ∷ 0 ∷ 0 ∷ 0 ∷ []

pub by_cases : List LineCase
by_cases =
    -- Case 10, and with just too small a budget.
    verified case_10 2 ∷
    spent case_10 1 ∷
    -- A fluent that is made true where it is false.
    verified (1 ∷ 1 ∷ 0 ∷ 1 ∷ 0 ∷ 0 ∷ 1 ∷ 1 ∷ 1 ∷ 0 ∷ 0 ∷ 0 ∷ 0 ∷ 1 ∷ 0 ∷ 1 ∷ 0 ∷ 0 ∷ []) 2 ∷
    -- One line allows it where a fluent is true, another where it is false; the same lines of a sensing action.
    verified either_line 2 ∷
    verified (1 ∷ 1 ∷ 0 ∷ 0 ∷ 2 ∷ 0 ∷ 1 ∷ 0 ∷ 0 ∷ 1 ∷ 1 ∷ 1 ∷ 0 ∷ 0 ∷ 0 ∷ 1 ∷ 0 ∷ 0 ∷ 1 ∷ 0 ∷ []) 3 ∷
    -- Cases of two actions are not joined; a reading does not undo a case; of two unknown fluents that an action swaps one is read, and the other stays unknown.
    missed (4 ∷ 2 ∷ 0 ∷ 4 ∷ 0 ∷ 0 ∷ 1 ∷ 4 ∷ 0 ∷ 2 ∷ 1 ∷ 5 ∷ 1 ∷ 6 ∷ 1 ∷ 0 ∷ 1 ∷ 6 ∷ 1 ∷ 2 ∷ 2 ∷ 0 ∷ 0 ∷ 1 ∷ 0 ∷ 0 ∷ 0 ∷ 2 ∷ 0 ∷ 1 ∷ 1 ∷ 6 ∷ 0 ∷ []) 31 3 (0 ∷ 0 ∷ 0 ∷ 0 ∷ []) ∷
    missed (2 ∷ 3 ∷ 1 ∷ 0 ∷ 2 ∷ 0 ∷ 1 ∷ 1 ∷ 2 ∷ 2 ∷ 0 ∷ 1 ∷ 2 ∷ 3 ∷ 0 ∷ 0 ∷ 1 ∷ 0 ∷ 2 ∷ 0 ∷ 1 ∷ 1 ∷ 1 ∷ 0 ∷ 3 ∷ 0 ∷ 1 ∷ 2 ∷ 1 ∷ 0 ∷ 0 ∷ []) 29 6 (0 ∷ 2 ∷ []) ∷
    missed (2 ∷ 2 ∷ 0 ∷ 4 ∷ 0 ∷ 2 ∷ 1 ∷ 0 ∷ 0 ∷ 3 ∷ 1 ∷ 1 ∷ 0 ∷ 0 ∷ 1 ∷ 1 ∷ 0 ∷ 1 ∷ 1 ∷ 0 ∷ 2 ∷ 0 ∷ 0 ∷ 1 ∷ 0 ∷ 1 ∷ 1 ∷ 1 ∷ 0 ∷ 2 ∷ 0 ∷ 1 ∷ 0 ∷ 1 ∷ 0 ∷ []) 34 4 (0 ∷ 1 ∷ []) ∷
    -- An action that can be run in one filling only; one whose second line is short by fewer; a branching, of which no branch is chosen by cases.
    stuck (1 ∷ 1 ∷ 0 ∷ 0 ∷ 1 ∷ 0 ∷ 1 ∷ 0 ∷ 0 ∷ 0 ∷ 1 ∷ 0 ∷ 0 ∷ 0 ∷ []) 11 0 (0 ∷ []) 5 ∷
    stuck (2 ∷ 1 ∷ 0 ∷ 0 ∷ 2 ∷ 0 ∷ 2 ∷ 0 ∷ 2 ∷ 0 ∷ 1 ∷ 1 ∷ 0 ∷ 0 ∷ 1 ∷ 0 ∷ 0 ∷ 0 ∷ []) 15 0 (0 ∷ 0 ∷ []) 9 ∷
    stuck (1 ∷ 1 ∷ 0 ∷ 0 ∷ 0 ∷ 0 ∷ 0 ∷ 1 ∷ 255 ∷ 2 ∷ 1 ∷ 0 ∷ 0 ∷ 0 ∷ 1 ∷ 1 ∷ 0 ∷ 0 ∷ 0 ∷ 0 ∷ []) 8 0 (0 ∷ []) 0 ∷
    -- 13 open fluents, and the same with no budget.
    many (13 ∷ 1 ∷ one_wide ++ (1 ∷ 0 ∷ 0 ∷ []) ++ one_action) 26 ∷
    many_within (13 ∷ 1 ∷ one_wide ++ (1 ∷ 0 ∷ 0 ∷ []) ++ one_action) 0 26 ∷
    -- A body that is known false is counted; a line is known true, and the other has 13 open fluents.
    many (14 ∷ 1 ∷ 1 ∷ 1 ∷ 2 ∷ 0 ∷ 0 ∷ wide ++ (0 ∷ 0 ∷ 1 ∷ 26 ∷ 1 ∷ 0 ∷ 0 ∷ []) ++ one_action) 31 ∷
    many (13 ∷ 1 ∷ 0 ∷ 0 ∷ 2 ∷ 0 ∷ 0 ∷ 0 ∷ wide ++ one_action) 25 ∷
    -- No executability line: 44 goes before 2. Those of a sensing action are counted.
    many (13 ∷ 1 ∷ one_wide ++ (0 ∷ []) ++ one_action) 24 ∷
    many (13 ∷ 1 ∷ 0 ∷ 0 ∷ 1 ∷ 0 ∷ wide ++ (1 ∷ 0 ∷ 0 ∷ 0 ∷ 1 ∷ 0 ∷ 0 ∷ 0 ∷ [])) 25 ∷
    -- File A; 16 before the walk; a lent state of another length.
    verified file_A 5 ∷
    row (set file_A 11 3) lent_room usual 16 1 10 0 lent_room 0 ∷
    row file_A (replicate 127 9) usual 9 0 0 0 (replicate 127 9) 0 ∷
    []

-- Every case is judged as its row says, and its answer carries the row's line.
pub by_cases_hold : map (λ (c : LineCase). judge_by_cases format c.request c.lent c.budget) by_cases ≡ map (λ (c : LineCase). c.gives) by_cases
unfolding all_open table_A file_A case_10 either_line wide one_wide one_action by_cases
by_cases_hold = refl

pub by_cases_lines_hold : map (λ (c : LineCase). line_by_cases format c.request c.lent c.budget) by_cases ≡ map (λ (c : LineCase). c.carries) by_cases
unfolding all_open table_A file_A case_10 either_line wide one_wide one_action by_cases
by_cases_lines_hold = refl
