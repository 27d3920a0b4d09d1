-- The cases of the values call (FORMAT 26.36 to 26.90) but for those of `ValueCases` of `meaning`, which has the rows that edits of the definitions need. They are computed
-- by the definitions. Assumes nothing.
use Prim.Native.Nat.{ℕ}
use mathlib.Core.Path.{◌≡◌, refl}
use mathlib.Core.List.{List, [], ◌∷◌, ◌++◌, map}
use lib.ListN.{replicate}
use Rattle.meaning.specs.Limits.{format}
use Rattle.meaning.specs.Valued.{judge_values}
use Rattle.meaning.proofs.Compute.{all_open}
use Rattle.meaning.proofs.Cases.{Case, row, lent_room, usual, verified, missed, stuck, refused, opening, copies}
use Rattle.meaning.proofs.ValueCases.{light}

-- The tables of the illness and of the UNIX commands: the bytes before the plan (FORMAT 26.35).
illness : List ℕ
illness = 6 ∷ 6 ∷ 3 ∷ 2 ∷ 2 ∷ 2 ∷ 2 ∷ 9 ∷ 4 ∷ 0 ∷ 11 ∷ 3 ∷ 2 ∷ 4 ∷ 2 ∷ 5 ∷ 2 ∷ 22 ∷ 0 ∷ 3 ∷ 0 ∷ 0 ∷ 0 ∷ 1 ∷ 0 ∷ 1 ∷ 0 ∷ 0 ∷ 0 ∷ 1 ∷ 0 ∷ 1 ∷ 0 ∷ 2 ∷ 0 ∷ 1 ∷ 2 ∷ 1 ∷ 0 ∷ 4 ∷ 0 ∷ 1 ∷ 2 ∷ 1 ∷ 0 ∷ 6 ∷ 0 ∷ 1 ∷ 4 ∷ 1 ∷ 0 ∷ 8 ∷ 2 ∷ 5 ∷ 0 ∷ 0 ∷ 2 ∷ 2 ∷ 0 ∷ 1 ∷ 0 ∷ 0 ∷ 2 ∷ 2 ∷ 2 ∷ 1 ∷ 0 ∷ 2 ∷ 2 ∷ 2 ∷ 0 ∷ 1 ∷ 0 ∷ 4 ∷ 2 ∷ 2 ∷ 2 ∷ 1 ∷ 0 ∷ 6 ∷ 2 ∷ 2 ∷ 0 ∷ 1 ∷ 0 ∷ 8 ∷ 4 ∷ 0 ∷ 10 ∷ 1 ∷ 0 ∷ 0 ∷ 4 ∷ 4 ∷ 0 ∷ 1 ∷ 0 ∷ 1 ∷ 5 ∷ 0 ∷ 10 ∷ 1 ∷ 0 ∷ 2 ∷ 5 ∷ 4 ∷ 0 ∷ 1 ∷ 0 ∷ 3 ∷ 6 ∷ 0 ∷ 10 ∷ 1 ∷ 0 ∷ 4 ∷ 6 ∷ 4 ∷ 0 ∷ 1 ∷ 0 ∷ 5 ∷ 7 ∷ 0 ∷ 10 ∷ 1 ∷ 0 ∷ 6 ∷ 7 ∷ 4 ∷ 0 ∷ 1 ∷ 0 ∷ 7 ∷ 8 ∷ 0 ∷ 10 ∷ 1 ∷ 0 ∷ 8 ∷ 8 ∷ 4 ∷ 0 ∷ 1 ∷ 0 ∷ 9 ∷ 9 ∷ 0 ∷ 0 ∷ 1 ∷ 1 ∷ 3 ∷ 0 ∷ 2 ∷ 0 ∷ 3 ∷ 1 ∷ 5 ∷ 0 ∷ 4 ∷ 0 ∷ 5 ∷ 0 ∷ 6 ∷ 0 ∷ 7 ∷ 0 ∷ 8 ∷ 0 ∷ 2 ∷ 1 ∷ 1 ∷ 3 ∷ 2 ∷ []

unix : List ℕ
unix = 3 ∷ 2 ∷ 2 ∷ 2 ∷ 2 ∷ 2 ∷ 0 ∷ 0 ∷ 1 ∷ 0 ∷ 1 ∷ 0 ∷ 0 ∷ 2 ∷ 1 ∷ 1 ∷ 0 ∷ 2 ∷ 0 ∷ 0 ∷ 1 ∷ 0 ∷ 1 ∷ 1 ∷ 2 ∷ []

pub more_values : List Case
more_values =
    -- The examples of Son, Tu and Zhang: a traffic light, an illness with its tests and its cures, UNIX commands, a gas indicator (FORMAT 26.36, 26.38 to 26.42).
    verified (light ++ (0 ∷ 1 ∷ 0 ∷ 0 ∷ 1 ∷ 0 ∷ [])) 4 ∷
    missed (illness ++ (0 ∷ 4 ∷ 0 ∷ 1 ∷ 2 ∷ 3 ∷ 0 ∷ 1 ∷ 0 ∷ [])) 182 14 (0 ∷ 1 ∷ 1 ∷ 1 ∷ 2 ∷ 1 ∷ []) ∷
    stuck (illness ++ (0 ∷ 5 ∷ 0 ∷ 1 ∷ 2 ∷ 3 ∷ 255 ∷ 2 ∷ 1 ∷ 0 ∷ 0 ∷ 0 ∷ 1 ∷ 4 ∷ 1 ∷ 0 ∷ 1 ∷ 0 ∷ 1 ∷ 255 ∷ 2 ∷ 1 ∷ 0 ∷ 2 ∷ 0 ∷ 1 ∷ 5 ∷ 1 ∷ 0 ∷ 3 ∷ 0 ∷ 1 ∷ 255 ∷ 2 ∷ 1 ∷ 0 ∷ 4 ∷ 0 ∷ 1 ∷ 6 ∷ 1 ∷ 0 ∷ 5 ∷ 0 ∷ 1 ∷ 255 ∷ 2 ∷ 1 ∷ 0 ∷ 6 ∷ 0 ∷ 1 ∷ 7 ∷ 1 ∷ 0 ∷ 7 ∷ 0 ∷ 1 ∷ 255 ∷ 2 ∷ 1 ∷ 0 ∷ 8 ∷ 0 ∷ 1 ∷ 8 ∷ 1 ∷ 0 ∷ 9 ∷ 0 ∷ 0 ∷ 0 ∷ 0 ∷ [])) 180 4 (0 ∷ 1 ∷ 1 ∷ 1 ∷ 2 ∷ 1 ∷ []) ∷
    verified (unix ++ (0 ∷ 1 ∷ 0 ∷ 1 ∷ 0 ∷ 2 ∷ 0 ∷ [])) 2 ∷
    verified (unix ++ (0 ∷ 1 ∷ 1 ∷ 0 ∷ 1 ∷ 2 ∷ [])) 3 ∷
    verified (1 ∷ 16 ∷ 1 ∷ 0 ∷ 0 ∷ 1 ∷ 0 ∷ 0 ∷ 1 ∷ 0 ∷ 0 ∷ 0 ∷ 1 ∷ 0 ∷ 0 ∷ 1 ∷ 0 ∷ []) 17 ∷
    -- What facts leave: a value that they rule out is tried by a look; one value left is known; a list may say "is 0, is not 1"; the second goal missed (FORMAT 26.44 to 26.47).
    missed (1 ∷ 3 ∷ 1 ∷ 1 ∷ 0 ∷ 1 ∷ 0 ∷ 1 ∷ 0 ∷ 0 ∷ 1 ∷ 0 ∷ 0 ∷ 0 ∷ 1 ∷ 0 ∷ 1 ∷ 0 ∷ 1 ∷ 0 ∷ []) 17 4 (1 ∷ []) ∷
    verified (1 ∷ 3 ∷ 1 ∷ 2 ∷ 0 ∷ 1 ∷ 0 ∷ 5 ∷ 0 ∷ 0 ∷ 0 ∷ 0 ∷ 0 ∷ 1 ∷ 0 ∷ 2 ∷ 1 ∷ 0 ∷ []) 1 ∷
    verified (1 ∷ 3 ∷ 1 ∷ 2 ∷ 0 ∷ 0 ∷ 0 ∷ 3 ∷ 0 ∷ 0 ∷ 0 ∷ 0 ∷ 0 ∷ 2 ∷ 0 ∷ 0 ∷ 0 ∷ 3 ∷ 0 ∷ []) 1 ∷
    missed (2 ∷ 3 ∷ 3 ∷ 1 ∷ 1 ∷ 0 ∷ 4 ∷ 0 ∷ 0 ∷ 0 ∷ 0 ∷ 0 ∷ 2 ∷ 0 ∷ 4 ∷ 1 ∷ 5 ∷ 0 ∷ []) 15 1 (3 ∷ 0 ∷ []) ∷
    -- Whether entries: one missed, and neighbours (FORMAT 26.48, 26.49).
    missed (1 ∷ 3 ∷ 1 ∷ 1 ∷ 0 ∷ 3 ∷ 0 ∷ 0 ∷ 0 ∷ 0 ∷ 0 ∷ 0 ∷ 1 ∷ 0 ∷ []) 13 1 (0 ∷ []) ∷
    verified (2 ∷ 3 ∷ 2 ∷ 1 ∷ 2 ∷ 0 ∷ 4 ∷ 1 ∷ 1 ∷ 0 ∷ 0 ∷ 0 ∷ 0 ∷ 0 ∷ 0 ∷ 2 ∷ 0 ∷ 1 ∷ []) 1 ∷
    -- Bodies that say "is not": run where another value is known, not where only a fact says so (FORMAT 26.50, 26.51).
    verified (1 ∷ 3 ∷ 1 ∷ 1 ∷ 0 ∷ 2 ∷ 0 ∷ 1 ∷ 0 ∷ 1 ∷ 0 ∷ 1 ∷ 0 ∷ 0 ∷ 1 ∷ 0 ∷ 1 ∷ 0 ∷ 2 ∷ 0 ∷ []) 2 ∷
    stuck (1 ∷ 3 ∷ 1 ∷ 1 ∷ 0 ∷ 1 ∷ 0 ∷ 1 ∷ 0 ∷ 1 ∷ 0 ∷ 1 ∷ 0 ∷ 0 ∷ 1 ∷ 0 ∷ 0 ∷ 0 ∷ []) 15 0 (0 ∷ []) ∷
    -- Looks at a known fluent, and at two (FORMAT 26.52, 26.53).
    verified (1 ∷ 3 ∷ 1 ∷ 1 ∷ 0 ∷ 2 ∷ 0 ∷ 1 ∷ 0 ∷ 0 ∷ 1 ∷ 0 ∷ 0 ∷ 0 ∷ 1 ∷ 0 ∷ 1 ∷ 0 ∷ 2 ∷ 0 ∷ []) 2 ∷
    missed (2 ∷ 2 ∷ 3 ∷ 1 ∷ 0 ∷ 0 ∷ 1 ∷ 0 ∷ 0 ∷ 2 ∷ 0 ∷ 1 ∷ 0 ∷ 0 ∷ 0 ∷ 1 ∷ 0 ∷ 1 ∷ 1 ∷ 0 ∷ 0 ∷ []) 18 7 (1 ∷ 2 ∷ []) ∷
    -- Effects: one that may set another value, a body that says "is not"; branches that say "is" and "is not" (FORMAT 26.55 to 26.57).
    missed (2 ∷ 3 ∷ 2 ∷ 1 ∷ 1 ∷ 0 ∷ 2 ∷ 1 ∷ 0 ∷ 0 ∷ 4 ∷ 1 ∷ 1 ∷ 0 ∷ 1 ∷ 0 ∷ 0 ∷ 0 ∷ 0 ∷ 1 ∷ 0 ∷ 1 ∷ 0 ∷ 1 ∷ 0 ∷ []) 22 2 (0 ∷ 0 ∷ []) ∷
    verified (2 ∷ 3 ∷ 4 ∷ 1 ∷ 1 ∷ 0 ∷ 2 ∷ 1 ∷ 0 ∷ 1 ∷ 6 ∷ 2 ∷ 0 ∷ 1 ∷ 0 ∷ 5 ∷ 1 ∷ 0 ∷ 0 ∷ 0 ∷ 0 ∷ 1 ∷ 0 ∷ 1 ∷ 1 ∷ 6 ∷ 0 ∷ []) 2 ∷
    verified (light ++ (0 ∷ 2 ∷ 0 ∷ 255 ∷ 2 ∷ 1 ∷ 0 ∷ 0 ∷ 0 ∷ 0 ∷ 1 ∷ 0 ∷ 1 ∷ 0 ∷ 1 ∷ 255 ∷ 2 ∷ 1 ∷ 0 ∷ 2 ∷ 0 ∷ 0 ∷ 1 ∷ 0 ∷ 3 ∷ 0 ∷ 1 ∷ 0 ∷ 0 ∷ 1 ∷ 0 ∷ [])) 5 ∷
    -- Numbers of values (FORMAT 26.58 to 26.60).
    refused (2 ∷ 2 ∷ 1 ∷ 1 ∷ []) 12 2 ∷
    refused (1 ∷ 17 ∷ 1 ∷ 0 ∷ 0 ∷ 0 ∷ 0 ∷ 0 ∷ 0 ∷ 0 ∷ 0 ∷ []) 12 1 ∷
    refused (3 ∷ 2 ∷ 2 ∷ []) 11 3 ∷
    -- The two bytes of a literal, and the order of a list (FORMAT 26.61 to 26.67).
    refused (1 ∷ 3 ∷ 1 ∷ 1 ∷ 1 ∷ []) 13 4 ∷
    refused (1 ∷ 3 ∷ 1 ∷ 1 ∷ 0 ∷ 6 ∷ 0 ∷ 0 ∷ 0 ∷ 0 ∷ 0 ∷ 0 ∷ 0 ∷ []) 13 5 ∷
    refused (1 ∷ 3 ∷ 1 ∷ 1 ∷ 0 ∷ []) 11 5 ∷
    refused (2 ∷ 3 ∷ 3 ∷ 1 ∷ 2 ∷ 1 ∷ 0 ∷ 0 ∷ 6 ∷ []) 13 8 ∷
    refused (2 ∷ 3 ∷ 3 ∷ 1 ∷ 2 ∷ 1 ∷ 0 ∷ 0 ∷ 5 ∷ []) 14 7 ∷
    refused (1 ∷ 3 ∷ 1 ∷ 2 ∷ 0 ∷ 2 ∷ 0 ∷ 0 ∷ 0 ∷ 0 ∷ 0 ∷ 0 ∷ 0 ∷ 0 ∷ 0 ∷ []) 14 6 ∷
    refused (1 ∷ 3 ∷ 1 ∷ 2 ∷ 0 ∷ 2 ∷ 0 ∷ 2 ∷ 0 ∷ 0 ∷ 0 ∷ 0 ∷ 0 ∷ 0 ∷ 0 ∷ []) 14 6 ∷
    -- Literals that leave no value (FORMAT 26.68 to 26.70, 26.72).
    refused (1 ∷ 3 ∷ 1 ∷ 2 ∷ 0 ∷ 0 ∷ 0 ∷ 1 ∷ 0 ∷ 0 ∷ 0 ∷ 0 ∷ 0 ∷ 0 ∷ 0 ∷ []) 15 6 ∷
    refused (1 ∷ 3 ∷ 1 ∷ 2 ∷ 0 ∷ 0 ∷ 0 ∷ 2 ∷ 0 ∷ 0 ∷ 0 ∷ 0 ∷ 0 ∷ 0 ∷ 0 ∷ []) 15 6 ∷
    refused (1 ∷ 2 ∷ 1 ∷ 2 ∷ 0 ∷ 1 ∷ 0 ∷ 3 ∷ 0 ∷ 0 ∷ 0 ∷ 0 ∷ 0 ∷ 0 ∷ 0 ∷ []) 15 6 ∷
    refused (1 ∷ 3 ∷ 1 ∷ 3 ∷ 0 ∷ 0 ∷ 0 ∷ 3 ∷ 0 ∷ 4 ∷ 0 ∷ 0 ∷ 0 ∷ 0 ∷ 0 ∷ 0 ∷ 0 ∷ []) 15 8 ∷
    -- 46, before the body and after 13; a body that is too long (FORMAT 26.73 to 26.76).
    refused (1 ∷ 3 ∷ 1 ∷ 0 ∷ 1 ∷ 0 ∷ 0 ∷ 3 ∷ 0 ∷ 0 ∷ 0 ∷ 0 ∷ 0 ∷ 0 ∷ 0 ∷ []) 46 6 ∷
    refused (1 ∷ 3 ∷ 1 ∷ 0 ∷ 1 ∷ 0 ∷ 0 ∷ 3 ∷ 1 ∷ 1 ∷ 0 ∷ []) 46 6 ∷
    refused (1 ∷ 3 ∷ 1 ∷ 0 ∷ 1 ∷ 0 ∷ 0 ∷ 7 ∷ 0 ∷ []) 13 7 ∷
    refused (1 ∷ 16 ∷ 1 ∷ 0 ∷ 1 ∷ 0 ∷ 0 ∷ 0 ∷ 17 ∷ []) 12 8 ∷
    -- 16, by values and by sets (FORMAT 26.77 to 26.80).
    refused (1 ∷ 3 ∷ 1 ∷ 0 ∷ 2 ∷ 0 ∷ 0 ∷ 2 ∷ 0 ∷ 0 ∷ 0 ∷ 4 ∷ 0 ∷ 1 ∷ 0 ∷ 0 ∷ 0 ∷ 0 ∷ 0 ∷ 0 ∷ 0 ∷ []) 16 9 ∷
    verified (1 ∷ 3 ∷ 1 ∷ 0 ∷ 2 ∷ 0 ∷ 0 ∷ 2 ∷ 0 ∷ 0 ∷ 0 ∷ 2 ∷ 1 ∷ 0 ∷ 1 ∷ 1 ∷ 0 ∷ 0 ∷ 0 ∷ 0 ∷ 1 ∷ 0 ∷ 1 ∷ 0 ∷ 2 ∷ 0 ∷ []) 2 ∷
    verified (2 ∷ 3 ∷ 3 ∷ 1 ∷ 0 ∷ 2 ∷ 0 ∷ 1 ∷ 2 ∷ 2 ∷ 0 ∷ 1 ∷ 0 ∷ 3 ∷ 0 ∷ 1 ∷ 4 ∷ 1 ∷ 0 ∷ 5 ∷ 1 ∷ 0 ∷ 0 ∷ 0 ∷ 0 ∷ 0 ∷ 0 ∷ 0 ∷ []) 1 ∷
    refused (2 ∷ 3 ∷ 3 ∷ 1 ∷ 0 ∷ 2 ∷ 0 ∷ 1 ∷ 2 ∷ 1 ∷ 0 ∷ 1 ∷ 0 ∷ 1 ∷ 4 ∷ 1 ∷ 0 ∷ 3 ∷ 1 ∷ 0 ∷ 1 ∷ 0 ∷ 5 ∷ 0 ∷ 0 ∷ 0 ∷ 0 ∷ 0 ∷ []) 16 12 ∷
    -- 17, 18, 19, and 20 before 16 (FORMAT 26.81 to 26.85).
    refused (1 ∷ 3 ∷ 1 ∷ 0 ∷ 1 ∷ 0 ∷ 0 ∷ 2 ∷ 0 ∷ 1 ∷ 0 ∷ 0 ∷ 1 ∷ 0 ∷ 0 ∷ 0 ∷ 0 ∷ 0 ∷ 0 ∷ []) 17 13 ∷
    refused (1 ∷ 3 ∷ 1 ∷ 1 ∷ 0 ∷ 0 ∷ 0 ∷ 0 ∷ 0 ∷ 0 ∷ 1 ∷ 255 ∷ 2 ∷ 1 ∷ 0 ∷ 1 ∷ 0 ∷ 0 ∷ 1 ∷ 0 ∷ 3 ∷ 0 ∷ 0 ∷ 0 ∷ 0 ∷ []) 18 11 ∷
    verified (1 ∷ 3 ∷ 1 ∷ 1 ∷ 0 ∷ 4 ∷ 0 ∷ 0 ∷ 0 ∷ 0 ∷ 1 ∷ 255 ∷ 2 ∷ 2 ∷ 0 ∷ 1 ∷ 0 ∷ 3 ∷ 0 ∷ 0 ∷ 1 ∷ 0 ∷ 5 ∷ 0 ∷ 0 ∷ 0 ∷ 0 ∷ []) 1 ∷
    refused (1 ∷ 3 ∷ 1 ∷ 0 ∷ 0 ∷ 0 ∷ 0 ∷ copies 8 opening ++ (0 ∷ 1 ∷ 255 ∷ [])) 19 49 ∷
    refused (1 ∷ 3 ∷ 1 ∷ 0 ∷ 2 ∷ 0 ∷ 0 ∷ 2 ∷ 0 ∷ 0 ∷ 0 ∷ 4 ∷ 0 ∷ 1 ∷ 0 ∷ 0 ∷ 0 ∷ 0 ∷ 0 ∷ 0 ∷ 0 ∷ 0 ∷ []) 20 21 ∷
    -- The budget, and the sizes (FORMAT 26.86 to 26.89).
    row (light ++ (0 ∷ 1 ∷ 0 ∷ 0 ∷ 1 ∷ 0 ∷ [])) lent_room 3 3 0 0 3 lent_room ∷
    row (light ++ (0 ∷ 1 ∷ 0 ∷ 0 ∷ 1 ∷ 0 ∷ [])) lent_room 4 0 0 0 4 lent_room ∷
    row (light ++ (0 ∷ 1 ∷ 0 ∷ 0 ∷ 1 ∷ 0 ∷ [])) (replicate 127 9) usual 9 0 0 0 (replicate 127 9) ∷
    refused (replicate 16385 0) 10 0 ∷
    -- File A (FORMAT 26.90).
    verified (4 ∷ 2 ∷ 2 ∷ 2 ∷ 2 ∷ 3 ∷ 3 ∷ 1 ∷ 1 ∷ 2 ∷ 2 ∷ 3 ∷ 1 ∷ 3 ∷ 1 ∷ 1 ∷ 0 ∷ 0 ∷ 1 ∷ 3 ∷ 0 ∷ 1 ∷ 0 ∷ 0 ∷ 2 ∷ 2 ∷ 0 ∷ 0 ∷ 3 ∷ 0 ∷ 0 ∷ 1 ∷ 1 ∷ 1 ∷ 2 ∷ 2 ∷ 1 ∷ 1 ∷ 0 ∷ 1 ∷ 0 ∷ 0 ∷ 0 ∷ 2 ∷ 0 ∷ 255 ∷ 2 ∷ 1 ∷ 0 ∷ 1 ∷ 0 ∷ 2 ∷ 1 ∷ 2 ∷ 1 ∷ 0 ∷ 0 ∷ 0 ∷ 0 ∷ 1 ∷ 3 ∷ 2 ∷ 1 ∷ 2 ∷ []) 5 ∷
    []

pub more_values_hold : map (λ (c : Case). judge_values format c.request c.lent c.budget) more_values ≡ map (λ (c : Case). c.gives) more_values
unfolding all_open opening copies light illness unix more_values
more_values_hold = refl
