-- The cases of the guarded call (FORMAT 21.28 to 21.58), computed by the definitions: what the call gives, and the line that its answer carries.
-- Every number that a walk with guards can end with, and every one that the ninth section can get, has a row or more. Assumes nothing.
use Prim.Native.Nat.{ℕ, zero, suc, ◌+◌}
use mathlib.Core.Path.{◌≡◌, refl}
use mathlib.Core.List.{List, [], ◌∷◌, ◌++◌, map}
use lib.ListN.{set, replicate}
use Rattle.meaning.specs.Limits.{format}
use Rattle.meaning.specs.Guards.{judge_guarded, line_guarded}
use Rattle.meaning.proofs.Compute.{all_open}
use Rattle.meaning.proofs.Cases.{lent_room, usual, marked, table_A, file_A}
use Rattle.meaning.proofs.LineCases.{LineCase}

abbrev row : (request lent : List ℕ) → (budget number input place count : ℕ) → (state : List ℕ) → (carries : ℕ) → LineCase
row request lent budget number input place count state carries = record {
  request = request;
  lent = lent;
  budget = budget;
  gives = record { answer = record { number = number; input = input; place = place; count = count }; state = state };
  carries = carries;
}

-- Rows by their answer.
abbrev verified : (request : List ℕ) → (count : ℕ) → LineCase
verified request count = row request lent_room usual 0 0 0 count lent_room 0

abbrev spent : (request : List ℕ) → (budget : ℕ) → LineCase
spent request budget = row request lent_room budget 3 0 0 budget lent_room 0

abbrev broken_within : (request : List ℕ) → (budget place count : ℕ) → (marks : List ℕ) → LineCase
broken_within request budget place count marks = row request lent_room budget 43 1 place count (marked marks) 0

abbrev broken : (request : List ℕ) → (place count : ℕ) → (marks : List ℕ) → LineCase
broken request = broken_within request usual

abbrev refused : (request : List ℕ) → (number place : ℕ) → LineCase
refused request number place = row request lent_room usual number 1 place 0 lent_room 0

-- File A with its ninth section; and what stands from 29 on, with a ninth section.
abbrev with_guards : List ℕ → List ℕ
with_guards guards = file_A ++ guards

abbrev from_29 : (rest guards : List ℕ) → List ℕ
from_29 rest guards = table_A ++ (rest ++ guards)

-- The fluents from a first one on, each as true.
unfoldable pub each_true : (left literal : ℕ) → List ℕ
each_true zero literal = []
each_true (suc left) literal = literal ∷ each_true left (literal + 2)

-- 64 guards, each an initial fact.
most : List ℕ
most = 128 ∷ 1 ∷ 64 ∷ each_true 64 0 ++ (0 ∷ 0 ∷ 0 ∷ 0 ∷ 0 ∷ 0 ∷ 0 ∷ []) ++ (64 ∷ each_true 64 0)

-- The first state, that after opening once the bit is seen clear, and that after opening without a look.
first : List ℕ
first = 0 ∷ 2 ∷ 2 ∷ 2 ∷ []

opened : List ℕ
opened = 2 ∷ 1 ∷ 2 ∷ 2 ∷ []

opened_unseen : List ℕ
opened_unseen = 0 ∷ 1 ∷ 2 ∷ 0 ∷ []

pub guarded_cases : List LineCase
guarded_cases =
    -- No guards, and one that holds in every state.
    verified (with_guards (0 ∷ [])) 5 ∷
    verified (with_guards (1 ∷ 7 ∷ [])) 5 ∷
    -- One that the action which opens breaks, in the second reading; the same with just the budget for it, and with one less.
    broken (with_guards (1 ∷ 3 ∷ [])) 49 3 opened ∷
    broken_within (with_guards (1 ∷ 3 ∷ [])) 3 49 3 opened ∷
    spent (with_guards (1 ∷ 3 ∷ [])) 2 ∷
    -- One that the first state lacks, with no budget.
    broken_within (with_guards (1 ∷ 0 ∷ [])) 0 49 0 first ∷
    -- One that the last action breaks: the state is an end state, and is not counted.
    broken (with_guards (2 ∷ 5 ∷ 7 ∷ [])) 49 4 (2 ∷ 1 ∷ 1 ∷ 2 ∷ []) ∷
    -- The second of two, in the first state and after an action.
    broken (with_guards (2 ∷ 3 ∷ 6 ∷ [])) 50 0 first ∷
    broken (from_29 (0 ∷ 1 ∷ 1 ∷ 0 ∷ 0 ∷ []) (2 ∷ 5 ∷ 7 ∷ [])) 36 1 opened_unseen ∷
    -- An end state that misses a goal as well: 43 and not 1.
    broken (from_29 (0 ∷ 1 ∷ 1 ∷ 1 ∷ 7 ∷ 0 ∷ []) (1 ∷ 7 ∷ [])) 36 1 opened_unseen ∷
    -- A goal missed in the first reading, and a guard broken in the second: the miss is forgotten.
    broken (from_29 (0 ∷ 2 ∷ 0 ∷ 255 ∷ 2 ∷ 1 ∷ 1 ∷ 0 ∷ 2 ∷ 1 ∷ 2 ∷ 1 ∷ 0 ∷ 0 ∷ 0 ∷ 1 ∷ 1 ∷ 0 ∷ []) (1 ∷ 3 ∷ [])) 48 3 opened ∷
    -- A state that lacks a guard and in which the next item can't be run: 43 and not 2.
    broken (from_29 (0 ∷ 2 ∷ 1 ∷ 1 ∷ 0 ∷ 0 ∷ []) (1 ∷ 3 ∷ [])) 36 1 opened_unseen ∷
    broken (from_29 (0 ∷ 1 ∷ 2 ∷ 0 ∷ 0 ∷ []) (1 ∷ 0 ∷ [])) 35 0 first ∷
    -- Where all guards hold: an item that can't be run, with its line; a goal missed; the budget spent.
    row (from_29 (0 ∷ 2 ∷ 1 ∷ 1 ∷ 0 ∷ 0 ∷ []) (1 ∷ 5 ∷ [])) lent_room usual 2 1 32 1 (marked opened_unseen) 20 ∷
    row (from_29 (0 ∷ 0 ∷ 1 ∷ 7 ∷ 1 ∷ 0 ∷ []) (1 ∷ 7 ∷ [])) lent_room usual 1 1 34 1 (marked first) 0 ∷
    spent (with_guards (1 ∷ 7 ∷ [])) 4 ∷
    -- One that the second reading makes known: the first state lacks it.
    broken (with_guards (1 ∷ 1 ∷ [])) 49 0 first ∷
    -- 64 guards, and 65.
    verified most 1 ∷
    refused (with_guards (65 ∷ [])) 12 48 ∷
    -- A literal that there is not, one not above that before it, and a complement beside it.
    refused (with_guards (1 ∷ 8 ∷ [])) 13 49 ∷
    refused (with_guards (2 ∷ 7 ∷ 5 ∷ [])) 14 50 ∷
    refused (with_guards (2 ∷ 2 ∷ 3 ∷ [])) 15 50 ∷
    -- A byte behind the ninth section, no ninth section, and one that is cut short.
    refused (with_guards (0 ∷ 0 ∷ [])) 20 49 ∷
    refused file_A 11 48 ∷
    refused (with_guards (1 ∷ [])) 11 49 ∷
    -- 16, 17 and 18 go before a first state that lacks a guard, and 20 before 16.
    refused (set file_A 11 3 ++ (1 ∷ 0 ∷ [])) 16 10 ∷
    refused (set file_A 27 1 ++ (1 ∷ 0 ∷ [])) 17 27 ∷
    refused (set file_A 41 1 ++ (1 ∷ 0 ∷ [])) 18 32 ∷
    refused (set file_A 11 3 ++ (0 ∷ 0 ∷ [])) 20 49 ∷
    -- A lent state of another length, and too long a request.
    row (with_guards (0 ∷ [])) (replicate 127 9) usual 9 0 0 0 (replicate 127 9) 0 ∷
    refused (replicate 16385 0) 10 0 ∷
    []

-- Every case is judged as its row says, and its answer carries the row's line.
pub guarded_cases_hold : map (λ (c : LineCase). judge_guarded format c.request c.lent c.budget) guarded_cases ≡ map (λ (c : LineCase). c.gives) guarded_cases
unfolding all_open table_A file_A each_true most first opened opened_unseen guarded_cases
guarded_cases_hold = refl

pub guarded_lines_hold : map (λ (c : LineCase). line_guarded format c.request c.lent c.budget) guarded_cases ≡ map (λ (c : LineCase). c.carries) guarded_cases
unfolding all_open table_A file_A each_true most first opened opened_unseen guarded_cases
guarded_lines_hold = refl
