-- Releases over the table of File A, computed by the definitions: one equation over one table. Every answer of the call's own and every number that
-- a plan can get has a row or more. Assumes nothing.
use Prim.Native.Nat.{ℕ}
use mathlib.Core.Path.{◌≡◌, refl}
use mathlib.Core.List.{List, [], ◌∷◌, ◌++◌, map}
use lib.ListN.{set, replicate, take}
use Rattle.meaning.specs.Limits.{format}
use Rattle.meaning.specs.Releases.{Released, release, plans_in}
use Rattle.meaning.proofs.Compute.{all_open}
use Rattle.meaning.proofs.Cases.{table_A, usual, copies}

-- A file, the lent row, the budget, and what the call gives.
pub record Case : Type 0 where
  pub file : List ℕ
  pub lent : List ℕ
  pub budget : ℕ
  pub gives : Released

abbrev row : (file lent : List ℕ) → (budget number input place : ℕ) → (left : List ℕ) → Case
row file lent budget number input place left = record {
  file = file;
  lent = lent;
  budget = budget;
  gives = record { answer = record { number = number; input = input; place = place; count = 0 }; row = left };
}

-- A lent row of this many numbers, each no answer's.
abbrev nines : ℕ → List ℕ
nines n = replicate n 9

-- A file that is judged, and one that is refused.
abbrev pub judged : (file : List ℕ) → (size : ℕ) → (left : List ℕ) → Case
judged file size left = row file (nines size) usual 0 0 0 left

abbrev refused : (file : List ℕ) → (size number place : ℕ) → Case
refused file size number place = row file (nines size) usual number 1 place (nines size)

abbrev wrong_length : (file : List ℕ) → (size : ℕ) → Case
wrong_length file size = row file (nines size) usual 9 0 0 (nines size)

-- PLANS over that table, with their goals and whether lists. File A's own, of 19 bytes; one without items, of 4.
plan_A : List ℕ
plan_A = 0 ∷ 2 ∷ 0 ∷ 255 ∷ 2 ∷ 1 ∷ 1 ∷ 0 ∷ 2 ∷ 1 ∷ 2 ∷ 1 ∷ 0 ∷ 0 ∷ 0 ∷ 1 ∷ 7 ∷ 1 ∷ 2 ∷ []

unfoldable pub no_item : List ℕ
no_item = 0 ∷ 0 ∷ 0 ∷ 0 ∷ []

-- One that misses its goal, at its fifth byte; one whose item can't be run, at its third.
misses : List ℕ
misses = 0 ∷ 1 ∷ 1 ∷ 1 ∷ 7 ∷ 1 ∷ 2 ∷ []

sticks : List ℕ
sticks = 0 ∷ 1 ∷ 2 ∷ 0 ∷ 0 ∷ []

-- Two conditions that may both hold, in the branching at the fourth byte.
overlaps : List ℕ
overlaps = set plan_A 12 1

-- An action that there is not, at the third byte.
fails : List ℕ
fails = 0 ∷ 1 ∷ 3 ∷ 0 ∷ 0 ∷ []

-- The table of File A and a plan count. The plans begin at 30.
over_A : ℕ → List ℕ
over_A k = table_A ++ (k ∷ [])

-- One fluent, one action and no lines, and a plan count. The plans begin at 7.
unfoldable pub no_lines : ℕ → List ℕ
no_lines k = 1 ∷ 1 ∷ 0 ∷ 0 ∷ 0 ∷ 0 ∷ k ∷ []

pub releases : List Case
releases =
    -- One plan, two, and three: each by itself, its places counted in the file.
    judged (over_A 1 ++ plan_A) 4 (0 ∷ 0 ∷ 5 ∷ 0 ∷ []) ∷
    judged (over_A 2 ++ plan_A ++ no_item) 8 (0 ∷ 0 ∷ 5 ∷ 0 ∷ 0 ∷ 0 ∷ 1 ∷ 0 ∷ []) ∷
    judged (over_A 3 ++ misses ++ sticks ++ plan_A) 12 (1 ∷ 34 ∷ 2 ∷ 1 ∷ 2 ∷ 39 ∷ 0 ∷ 1 ∷ 0 ∷ 0 ∷ 5 ∷ 0 ∷ []) ∷
    judged (over_A 3 ++ plan_A ++ misses ++ sticks) 12 (0 ∷ 0 ∷ 5 ∷ 0 ∷ 1 ∷ 53 ∷ 2 ∷ 1 ∷ 2 ∷ 58 ∷ 0 ∷ 1 ∷ []) ∷
    -- Each has the whole budget.
    row (over_A 3 ++ no_item ++ plan_A ++ no_item) (nines 12) 4 0 0 0 (0 ∷ 0 ∷ 1 ∷ 0 ∷ 3 ∷ 0 ∷ 4 ∷ 0 ∷ 0 ∷ 0 ∷ 1 ∷ 0 ∷ []) ∷
    row (over_A 2 ++ plan_A ++ plan_A) (nines 8) 5 0 0 0 (0 ∷ 0 ∷ 5 ∷ 0 ∷ 0 ∷ 0 ∷ 5 ∷ 0 ∷ []) ∷
    row (over_A 2 ++ no_item ++ sticks) (nines 8) 0 0 0 0 (3 ∷ 0 ∷ 0 ∷ 0 ∷ 2 ∷ 36 ∷ 0 ∷ 1 ∷ []) ∷
    -- As many plans as there may be.
    judged (over_A 64 ++ copies 64 no_item) 256 (copies 64 (0 ∷ 0 ∷ 1 ∷ 0 ∷ [])) ∷
    -- 18 stops nobody.
    judged (over_A 3 ++ plan_A ++ overlaps ++ no_item) 12 (0 ∷ 0 ∷ 5 ∷ 0 ∷ 18 ∷ 52 ∷ 0 ∷ 1 ∷ 0 ∷ 0 ∷ 1 ∷ 0 ∷ []) ∷
    judged (over_A 2 ++ overlaps ++ overlaps) 8 (18 ∷ 33 ∷ 0 ∷ 1 ∷ 18 ∷ 52 ∷ 0 ∷ 1 ∷ []) ∷
    -- A plan that fails in reading: the first, a middle one, the last. What was judged before it stays, and nothing is asked of what follows.
    judged (over_A 3 ++ fails ++ plan_A ++ no_item) 12 (13 ∷ 32 ∷ 0 ∷ 1 ∷ 22 ∷ 0 ∷ 0 ∷ 0 ∷ 22 ∷ 0 ∷ 0 ∷ 0 ∷ []) ∷
    judged (over_A 3 ++ plan_A ++ fails ++ no_item) 12 (0 ∷ 0 ∷ 5 ∷ 0 ∷ 13 ∷ 51 ∷ 0 ∷ 1 ∷ 22 ∷ 0 ∷ 0 ∷ 0 ∷ []) ∷
    judged (over_A 3 ++ overlaps ++ misses ++ fails) 12 (18 ∷ 33 ∷ 0 ∷ 1 ∷ 1 ∷ 53 ∷ 2 ∷ 1 ∷ 13 ∷ 58 ∷ 0 ∷ 1 ∷ []) ∷
    -- A second fault is not looked for, nor are bytes after the last plan.
    judged (over_A 3 ++ fails ++ fails ++ fails) 12 (13 ∷ 32 ∷ 0 ∷ 1 ∷ 22 ∷ 0 ∷ 0 ∷ 0 ∷ 22 ∷ 0 ∷ 0 ∷ 0 ∷ []) ∷
    judged (over_A 2 ++ no_item ++ fails ++ (9 ∷ 9 ∷ [])) 8 (0 ∷ 0 ∷ 1 ∷ 0 ∷ 13 ∷ 36 ∷ 0 ∷ 1 ∷ []) ∷
    -- 11 at the file's length: in the last plan, in one before it, and where no byte of it is there.
    judged (over_A 2 ++ no_item ++ take 18 plan_A) 8 (0 ∷ 0 ∷ 1 ∷ 0 ∷ 11 ∷ 52 ∷ 0 ∷ 1 ∷ []) ∷
    judged (over_A 3 ++ no_item ++ no_item) 12 (0 ∷ 0 ∷ 1 ∷ 0 ∷ 0 ∷ 0 ∷ 1 ∷ 0 ∷ 11 ∷ 38 ∷ 0 ∷ 1 ∷ []) ∷
    judged (over_A 3 ++ no_item) 12 (0 ∷ 0 ∷ 1 ∷ 0 ∷ 11 ∷ 34 ∷ 0 ∷ 1 ∷ 22 ∷ 0 ∷ 0 ∷ 0 ∷ []) ∷
    judged (over_A 1) 4 (11 ∷ 30 ∷ 0 ∷ 1 ∷ []) ∷
    -- The other faults of a plan, its goals and its whether list: 12, 14, 15, 19; `LongCases` has 21.
    judged (over_A 2 ++ no_item ++ (0 ∷ 0 ∷ 129 ∷ 0 ∷ [])) 8 (0 ∷ 0 ∷ 1 ∷ 0 ∷ 12 ∷ 36 ∷ 0 ∷ 1 ∷ []) ∷
    judged (over_A 2 ++ (0 ∷ 0 ∷ 2 ∷ 3 ∷ 0 ∷ 0 ∷ []) ++ no_item) 8 (14 ∷ 34 ∷ 0 ∷ 1 ∷ 22 ∷ 0 ∷ 0 ∷ 0 ∷ []) ∷
    judged (over_A 2 ++ (0 ∷ 0 ∷ 2 ∷ 2 ∷ 3 ∷ 0 ∷ []) ++ no_item) 8 (15 ∷ 34 ∷ 0 ∷ 1 ∷ 22 ∷ 0 ∷ 0 ∷ 0 ∷ []) ∷
    judged (no_lines 2 ++ no_item ++ copies 9 (0 ∷ 1 ∷ 255 ∷ 1 ∷ 0 ∷ [])) 8 (0 ∷ 0 ∷ 1 ∷ 0 ∷ 19 ∷ 53 ∷ 0 ∷ 1 ∷ []) ∷
    -- THE CALL'S OWN. 10, before all else.
    refused (replicate 16385 0) 4 10 0 ∷
    refused (replicate 16385 0) 0 10 0 ∷
    -- Faults of sections 1 to 5, where the row's length is not looked at.
    refused [] 4 11 0 ∷
    refused (take 20 table_A) 0 11 20 ∷
    refused (set (over_A 1 ++ plan_A) 0 0) 4 12 0 ∷
    refused (set (over_A 1 ++ plan_A) 1 129) 5 12 1 ∷
    refused (set (over_A 1 ++ plan_A) 5 8) 4 13 5 ∷
    refused (set (over_A 1 ++ plan_A) 5 5) 4 14 5 ∷
    refused (set (over_A 1 ++ plan_A) 3 4) 7 15 4 ∷
    -- The plan count: missing, 0, and above 64.
    refused table_A 4 11 29 ∷
    refused (over_A 0) 0 12 29 ∷
    refused (over_A 65 ++ copies 65 no_item) 260 12 29 ∷
    refused (over_A 255 ++ plan_A) 4 12 29 ∷
    -- The row's length: too short, too long, for another number of plans. It goes before 16, 17 and 20, and before what the plans hold.
    wrong_length (over_A 2 ++ plan_A ++ no_item) 0 ∷
    wrong_length (over_A 2 ++ plan_A ++ no_item) 4 ∷
    wrong_length (over_A 2 ++ plan_A ++ no_item) 7 ∷
    wrong_length (over_A 2 ++ plan_A ++ no_item) 9 ∷
    wrong_length (over_A 2 ++ plan_A ++ no_item) 256 ∷
    wrong_length (set (over_A 1 ++ plan_A) 11 3) 8 ∷
    wrong_length (set (over_A 1 ++ plan_A) 27 1) 8 ∷
    wrong_length (over_A 1 ++ plan_A ++ (0 ∷ [])) 8 ∷
    wrong_length (over_A 1 ++ fails) 8 ∷
    -- 16 and 17, asked of the table once: they go before 20, and before a plan's fault.
    refused (set (over_A 2 ++ plan_A ++ no_item) 11 3) 8 16 10 ∷
    refused (set (over_A 2 ++ plan_A ++ no_item) 27 1) 8 17 27 ∷
    refused (set (over_A 1 ++ plan_A ++ (0 ∷ [])) 11 3) 4 16 10 ∷
    refused (set (over_A 1 ++ fails) 27 1) 4 17 27 ∷
    -- 20: bytes after the last plan, though a plan is refused by 18 or not verified.
    refused (over_A 1 ++ plan_A ++ (0 ∷ [])) 4 20 49 ∷
    refused (over_A 2 ++ overlaps ++ sticks ++ plan_A) 8 20 54 ∷
    refused (over_A 1 ++ no_item ++ no_item) 4 20 34 ∷
    []

-- Every file gets what its row says.
pub releases_hold : map (λ (c : Case). release format c.file c.lent c.budget) releases ≡ map (λ (c : Case). c.gives) releases
unfolding all_open table_A plan_A no_item misses sticks overlaps fails over_A no_lines copies releases
releases_hold = refl

-- The plan counts, of files that are judged, refused behind the count, and refused before it.
pub counts : List (List ℕ × ℕ)
counts =
    (over_A 1 ++ plan_A, 1) ∷
    (over_A 3 ++ fails, 3) ∷
    (over_A 64, 64) ∷
    (set (over_A 2) 11 3, 2) ∷
    (over_A 1 ++ plan_A ++ (0 ∷ []), 1) ∷
    (table_A, 0) ∷
    (over_A 0, 0) ∷
    (over_A 65, 0) ∷
    (set (over_A 1) 0 0, 0) ∷
    (replicate 16385 1, 0) ∷
    []

pub counts_hold : map (λ (c : List ℕ × ℕ). plans_in format c.0) counts ≡ map (λ (c : List ℕ × ℕ). c.1) counts
unfolding all_open table_A plan_A fails over_A counts
counts_hold = refl
