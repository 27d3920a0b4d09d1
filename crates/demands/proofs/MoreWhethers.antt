-- The cases of the whether call (FORMAT section 17): File A with its whether entry, the examples of Son and Baral that ask whether, and a row
-- or more for each answer and each rule of the closing layout, computed by the definitions. No edit of the definitions is refuted by one of
-- these alone: the rows that edits need are in `WhetherCases` of `meaning`. Assumes nothing.
use Prim.Native.Nat.{ℕ}
use mathlib.Core.Path.{◌≡◌, refl}
use mathlib.Core.List.{List, [], ◌∷◌, ◌++◌, map}
use lib.ListN.{set, take, replicate}
use Rattle.meaning.specs.Limits.{format}
use Rattle.meaning.specs.Derivations.{check}
use Rattle.meaning.proofs.Compute.{all_open}
use Rattle.meaning.proofs.Cases.{table_A, file_A}
use Rattle.meaning.proofs.DerivationCases.{Case, request_14, lines_14, sensing_seven}
use Rattle.meaning.proofs.WhetherCases.{row, list, numbers, line, together, written, derived, nothing, one, whether, two_fluents, both_run, both_known, known, four, four_then}
use Rattle.demands.proofs.MoreDerivations.{derivation_14}

-- The branching of File A, and its plan: look, then that.
choice : List ℕ
choice = 255 ∷ 2 ∷ 1 ∷ 1 ∷ 0 ∷ 2 ∷ 1 ∷ 2 ∷ 1 ∷ 0 ∷ 0 ∷ 0 ∷ []

chosen : List ℕ
chosen = 0 ∷ 1 ∷ choice

plan_A : List ℕ
plan_A = 0 ∷ 2 ∷ 0 ∷ choice

-- The nine lines of case 14; and nine more, for whether the map is new: the first of them is used by nothing, then where the bit is set
-- rules 6, 8 and 12, where it is clear rules 6, 8, 11 and 12, and rule 10 over both.
nine : List (List ℕ)
nine =
    line (0 ∷ 3 ∷ 5 ∷ 7 ∷ []) nothing 1 (list (0 ∷ 3 ∷ 5 ∷ 7 ∷ [])) [] ∷
    line (0 ∷ 3 ∷ 5 ∷ 7 ∷ []) nothing 6 (list (7 ∷ [])) (0 ∷ []) ∷
    line (0 ∷ 3 ∷ 5 ∷ 7 ∷ []) chosen 4 (list (7 ∷ [])) (1 ∷ []) ∷
    line (1 ∷ 3 ∷ 5 ∷ 7 ∷ []) (one 1) 2 (list (1 ∷ 2 ∷ 5 ∷ 7 ∷ [])) [] ∷
    line (1 ∷ 2 ∷ 5 ∷ 7 ∷ []) (one 2) 2 (list (1 ∷ 2 ∷ 4 ∷ 7 ∷ [])) [] ∷
    line (1 ∷ 3 ∷ 5 ∷ 7 ∷ []) (0 ∷ 2 ∷ 1 ∷ 2 ∷ []) 5 (list (1 ∷ 2 ∷ 4 ∷ 7 ∷ [])) (3 ∷ 4 ∷ []) ∷
    line (1 ∷ 3 ∷ 5 ∷ 7 ∷ []) (0 ∷ 2 ∷ 1 ∷ 2 ∷ []) 6 (list (7 ∷ [])) (5 ∷ []) ∷
    line (1 ∷ 3 ∷ 5 ∷ 7 ∷ []) chosen 4 (list (7 ∷ [])) (6 ∷ []) ∷
    line (3 ∷ 5 ∷ 7 ∷ []) plan_A 3 (list (7 ∷ [])) (2 ∷ 7 ∷ []) ∷
    []

further : List (List ℕ)
further =
    line (3 ∷ 5 ∷ 7 ∷ []) (one 0) 7 (whether 0) [] ∷
    line (0 ∷ 3 ∷ 5 ∷ 7 ∷ []) nothing 6 (list (5 ∷ [])) (0 ∷ []) ∷
    line (0 ∷ 3 ∷ 5 ∷ 7 ∷ []) nothing 8 (whether 2) (10 ∷ []) ∷
    line (0 ∷ 3 ∷ 5 ∷ 7 ∷ []) chosen 12 (whether 2) (11 ∷ []) ∷
    line (1 ∷ 2 ∷ 5 ∷ 7 ∷ []) (one 2) 6 (list (4 ∷ [])) (4 ∷ []) ∷
    line (1 ∷ 2 ∷ 5 ∷ 7 ∷ []) (one 2) 8 (whether 2) (13 ∷ []) ∷
    line (1 ∷ 3 ∷ 5 ∷ 7 ∷ []) (0 ∷ 2 ∷ 1 ∷ 2 ∷ []) 11 (whether 2) (3 ∷ 14 ∷ []) ∷
    line (1 ∷ 3 ∷ 5 ∷ 7 ∷ []) chosen 12 (whether 2) (15 ∷ []) ∷
    line (3 ∷ 5 ∷ 7 ∷ []) plan_A 10 (whether 2) (12 ∷ 16 ∷ []) ∷
    []

-- Example 1 of Son and Baral up to its plan: the bomb is neither disarmed nor exploded, and action 0, looking, shows whether it is locked.
bomb : List ℕ
bomb = 3 ∷ 3 ∷ 2 ∷ 1 ∷ 3 ∷ 4 ∷ 2 ∷ 2 ∷ 1 ∷ 5 ∷ 2 ∷ 0 ∷ 1 ∷ 4 ∷ 1 ∷ 5 ∷ 1 ∷ 4 ∷ 1 ∷ 4 ∷ 1 ∷ 5 ∷ 3 ∷ 0 ∷ 1 ∷ 3 ∷ 1 ∷ 1 ∷ 3 ∷ 2 ∷ 1 ∷ 3 ∷ 1 ∷ 0 ∷ 2 ∷ []

-- What is asked: whether the bomb is locked after looking; and of example 2, whether g is true after action 0 alone.
look_locked : List ℕ
look_locked = bomb ++ (0 ∷ 1 ∷ 0 ∷ 0 ∷ 1 ∷ 2 ∷ [])

one_run : List ℕ
one_run = two_fluents ++ (0 ∷ 1 ∷ 0 ∷ 0 ∷ 1 ∷ 1 ∷ [])

-- The lines for the first, and for both actions of example 2: there are no goals, and rule 7 settles the fluent.
looked : List (List ℕ)
looked =
    line [] nothing 1 (list []) [] ∷
    line (1 ∷ 3 ∷ 4 ∷ []) nothing 6 (list []) (0 ∷ []) ∷
    line (1 ∷ 3 ∷ 5 ∷ []) nothing 6 (list []) (0 ∷ []) ∷
    line (1 ∷ 3 ∷ []) (one 0) 3 (list []) (1 ∷ 2 ∷ []) ∷
    line (1 ∷ 3 ∷ []) (one 0) 7 (whether 2) [] ∷
    []

sensed : List (List ℕ)
sensed =
    line (0 ∷ []) (one 0) 2 (list (1 ∷ [])) [] ∷
    line (1 ∷ []) (one 1) 7 (whether 1) [] ∷
    line (0 ∷ []) (0 ∷ 2 ∷ 0 ∷ 1 ∷ []) 11 (whether 1) (0 ∷ 1 ∷ []) ∷
    line [] nothing 1 (list []) [] ∷
    line (1 ∷ 2 ∷ []) nothing 6 (list []) (3 ∷ []) ∷
    line (1 ∷ 3 ∷ []) nothing 6 (list []) (3 ∷ []) ∷
    line (1 ∷ []) (one 1) 3 (list []) (4 ∷ 5 ∷ []) ∷
    line (0 ∷ []) (0 ∷ 2 ∷ 0 ∷ 1 ∷ []) 5 (list []) (0 ∷ 6 ∷ []) ∷
    []

-- Whether two fluents are known, in order.
both_asked : List ℕ
both_asked = 2 ∷ 1 ∷ 2 ∷ 0 ∷ 2 ∷ 0 ∷ 0 ∷ 0 ∷ 0 ∷ 0 ∷ 0 ∷ 2 ∷ 0 ∷ 1 ∷ []

-- A plan of one branching, whose one branch does nothing: where f is false, and where g is true.
if_not_f : List ℕ
if_not_f = 0 ∷ 1 ∷ 255 ∷ 1 ∷ 1 ∷ 1 ∷ 0 ∷ 0 ∷ []

if_g : List ℕ
if_g = 0 ∷ 1 ∷ 255 ∷ 1 ∷ 1 ∷ 2 ∷ 0 ∷ 0 ∷ []

pub more_whethers : List Case
more_whethers =
    -- File A, with rules 7, 8, 10, 11 and 12 among its lines (FORMAT 17.1, 17.21 to 17.25).
    row file_A (derived (nine ++ further) (8 ∷ 17 ∷ [])) 0 0 0 ∷
    -- Case 14 in the closing layout, three bytes longer (FORMAT 17.42); and its bytes in the plain one.
    row request_14 (derived nine (8 ∷ [])) 0 0 0 ∷
    row request_14 derivation_14 14 2 21 ∷
    -- Example 1 of Son and Baral: whether the bomb is locked after looking.
    row look_locked (derived looked (3 ∷ 4 ∷ [])) 0 0 0 ∷
    -- Example 2: whether g after both actions; and after action 0 alone, which nothing gives: not rule 7, and the goals' line does not say it.
    row both_run (derived sensed (7 ∷ 2 ∷ [])) 0 0 0 ∷
    row one_run (derived (line (0 ∷ []) (one 0) 2 (list (1 ∷ [])) [] ∷ line (0 ∷ []) (one 0) 6 (list []) (0 ∷ []) ∷ line (0 ∷ []) (one 0) 7 (whether 1) [] ∷ []) (1 ∷ 2 ∷ [])) 34 2 21 ∷
    row one_run (derived (line (0 ∷ []) (one 0) 2 (list (1 ∷ [])) [] ∷ line (0 ∷ []) (one 0) 6 (list []) (0 ∷ []) ∷ []) (1 ∷ 1 ∷ [])) 36 2 24 ∷
    -- The request goes first, and 30 is never given: the derivation's length is tested next (FORMAT 17.9, 17.10).
    row (take 10 file_A) (derived (nine ++ further) (8 ∷ 17 ∷ [])) 11 1 10 ∷
    row (set file_A 41 1) [] 18 1 32 ∷
    row file_A (replicate 32769 0) 10 2 0 ∷
    -- Reading a derivation: no bytes, a line count of 0 and of 1,025.
    row file_A [] 11 2 0 ∷
    row file_A (0 ∷ 0 ∷ []) 12 2 0 ∷
    row file_A (4 ∷ 1 ∷ []) 12 2 0 ∷
    -- The conclusion is a fluent after 7, 8, 10, 11 and 12, and must be below n (FORMAT 17.5, 17.11).
    row both_run (0 ∷ 1 ∷ 0 ∷ 0 ∷ 0 ∷ 7 ∷ 2 ∷ []) 13 2 6 ∷
    row both_run (0 ∷ 1 ∷ 0 ∷ 0 ∷ 0 ∷ 8 ∷ 2 ∷ []) 13 2 6 ∷
    row both_run (0 ∷ 1 ∷ 0 ∷ 0 ∷ 0 ∷ 10 ∷ 2 ∷ []) 13 2 6 ∷
    row both_run (0 ∷ 1 ∷ 0 ∷ 0 ∷ 0 ∷ 11 ∷ 2 ∷ []) 13 2 6 ∷
    row both_run (0 ∷ 1 ∷ 0 ∷ 0 ∷ 0 ∷ 12 ∷ 2 ∷ []) 13 2 6 ∷
    row both_run (0 ∷ 1 ∷ 0 ∷ 0 ∷ 0 ∷ 7 ∷ []) 11 2 6 ∷
    row both_run (0 ∷ 1 ∷ 0 ∷ 0 ∷ 0 ∷ 7 ∷ 1 ∷ 65 ∷ []) 12 2 7 ∷
    -- It is a list after every other byte (FORMAT 17.6).
    row both_run (0 ∷ 1 ∷ 0 ∷ 0 ∷ 0 ∷ 0 ∷ 129 ∷ []) 12 2 6 ∷
    row both_run (0 ∷ 1 ∷ 0 ∷ 0 ∷ 0 ∷ 6 ∷ 129 ∷ []) 12 2 6 ∷
    row both_run (0 ∷ 1 ∷ 0 ∷ 0 ∷ 0 ∷ 9 ∷ 129 ∷ []) 12 2 6 ∷
    row both_run (0 ∷ 1 ∷ 0 ∷ 0 ∷ 0 ∷ 13 ∷ 129 ∷ []) 12 2 6 ∷
    row both_run (0 ∷ 1 ∷ 0 ∷ 0 ∷ 0 ∷ 255 ∷ 129 ∷ []) 12 2 6 ∷
    -- The closing list: it is missing, it ends too soon, its count is 255 and read on, and a byte follows it (FORMAT 17.7, 17.8, 17.12).
    row both_run (written sensed) 11 2 83 ∷
    row both_run (take 87 (derived sensed (7 ∷ 2 ∷ []))) 11 2 87 ∷
    row both_run (written sensed ++ (255 ∷ 0 ∷ 7 ∷ 0 ∷ 2 ∷ [])) 11 2 88 ∷
    row both_run (derived sensed (7 ∷ 2 ∷ []) ++ (0 ∷ [])) 20 2 88 ∷
    -- 18 goes before 31, and 20 before 18.
    row both_run (0 ∷ 1 ∷ 0 ∷ 0 ∷ 1 ∷ 255 ∷ 2 ∷ 0 ∷ 0 ∷ 0 ∷ 0 ∷ 0 ∷ 0 ∷ 9 ∷ 0 ∷ 0 ∷ 0 ∷ []) 18 2 5 ∷
    row both_run (0 ∷ 1 ∷ 0 ∷ 0 ∷ 1 ∷ 255 ∷ 2 ∷ 0 ∷ 0 ∷ 0 ∷ 0 ∷ 0 ∷ 0 ∷ 9 ∷ 0 ∷ 0 ∷ 0 ∷ 0 ∷ []) 20 2 17 ∷
    -- 31: rule bytes 0, 9 and 13; it goes before 33 and 32 in a line (FORMAT 17.13, 17.18, 17.19).
    row both_run (four_then (line (2 ∷ []) nothing 0 (list (2 ∷ [])) [])) 31 2 36 ∷
    row both_run (four_then (line (2 ∷ []) nothing 9 (list (2 ∷ [])) [])) 31 2 36 ∷
    row both_run (four_then (line (2 ∷ []) nothing 13 (list (2 ∷ [])) [])) 31 2 36 ∷
    row both_run (four_then (line (2 ∷ []) nothing 9 (list (2 ∷ [])) (4 ∷ []))) 31 2 36 ∷
    -- 33: a number of citations that the rule does not take; it goes before 32.
    row both_run (four_then (line [] (one 1) 7 (whether 1) (0 ∷ []))) 33 2 36 ∷
    row both_run (four_then (line (2 ∷ []) nothing 8 (whether 1) [])) 33 2 36 ∷
    row both_run (four_then (line [] (one 1) 10 (whether 1) (1 ∷ 3 ∷ 3 ∷ []))) 33 2 36 ∷
    row both_run (four_then (line [] (one 1) 10 (whether 1) [])) 33 2 36 ∷
    row both_run (four_then (line (2 ∷ []) nothing 11 (whether 1) (1 ∷ []))) 33 2 36 ∷
    row both_run (four_then (line (2 ∷ []) if_g 12 (whether 1) (1 ∷ 1 ∷ []))) 33 2 36 ∷
    row both_run (four_then (line (2 ∷ []) nothing 8 (whether 1) (4 ∷ 5 ∷ []))) 33 2 36 ∷
    -- 32: the line itself, a later one, and none such.
    row both_run (four_then (line (2 ∷ []) nothing 8 (whether 1) (4 ∷ []))) 32 2 36 ∷
    row both_run (derived (line (2 ∷ []) nothing 8 (whether 1) (1 ∷ []) ∷ line (2 ∷ []) nothing 1 (list (2 ∷ [])) [] ∷ []) []) 32 2 2 ∷
    row both_run (four_then (line [] (one 1) 10 (whether 1) (1 ∷ 1025 ∷ []))) 32 2 36 ∷
    -- 34 by rule 7: an action that senses nothing, two items, none, a branching, and an action that can't be run (FORMAT 17.21).
    row both_run (four_then (line [] (one 0) 7 (whether 1) [])) 34 2 36 ∷
    row both_run (four_then (line [] (0 ∷ 2 ∷ 1 ∷ 1 ∷ []) 7 (whether 1) [])) 34 2 36 ∷
    row both_run (four_then (line (2 ∷ []) nothing 7 (whether 1) [])) 34 2 36 ∷
    row both_run (four_then (line (2 ∷ []) if_g 7 (whether 1) [])) 34 2 36 ∷
    row look_locked (derived (line (1 ∷ []) (one 0) 7 (whether 2) [] ∷ []) []) 34 2 2 ∷
    -- Rule 7 holds where the fluent is known, and where six others are sensed with it (FORMAT 17.27): only the closing list is not right.
    row both_run (four_then (line (2 ∷ []) (one 1) 7 (whether 1) [])) 36 2 44 ∷
    row sensing_seven (derived (line [] (one 0) 7 (whether 3) [] ∷ []) []) 36 2 9 ∷
    -- 34 by rule 8: another fluent, a fluent cited, another X, another plan, no literal (FORMAT 17.22, 17.28).
    row both_run (four_then (line (2 ∷ []) nothing 8 (whether 0) (0 ∷ []))) 34 2 36 ∷
    row both_run (four_then (line (2 ∷ []) nothing 8 (whether 1) (1 ∷ []))) 34 2 36 ∷
    row both_run (four_then (line (0 ∷ 2 ∷ []) nothing 8 (whether 1) (0 ∷ []))) 34 2 36 ∷
    row both_run (four_then (line (2 ∷ []) (one 0) 8 (whether 1) (0 ∷ []))) 34 2 36 ∷
    row both_run (derived (line [] nothing 1 (list []) [] ∷ line [] nothing 8 (whether 1) (0 ∷ []) ∷ []) []) 34 2 8 ∷
    -- 34 by rule 10: the readings in the other order, one reading only, one twice, lists cited, another fluent, an action that does not sense
    -- (FORMAT 17.23, 17.26); and as it should be.
    row both_run (four_then (line [] (one 1) 10 (whether 1) (3 ∷ 1 ∷ []))) 34 2 36 ∷
    row both_run (four_then (line [] (one 1) 10 (whether 1) (1 ∷ []))) 34 2 36 ∷
    row both_run (four_then (line [] (one 1) 10 (whether 1) (1 ∷ 1 ∷ []))) 34 2 36 ∷
    row both_run (four_then (line [] (one 1) 10 (whether 1) (0 ∷ 2 ∷ []))) 34 2 36 ∷
    row both_run (four_then (line [] (one 1) 10 (whether 0) (1 ∷ 3 ∷ []))) 34 2 36 ∷
    row both_run (four_then (line (2 ∷ []) (one 0) 10 (whether 1) (1 ∷ []))) 34 2 36 ∷
    row both_run (four_then (line [] (one 1) 10 (whether 1) (1 ∷ 3 ∷ []))) 36 2 47 ∷
    -- 34 by rule 11: a fluent first, a list second, another middle, another X, another plan (FORMAT 17.24, 17.26); and as it should be.
    row both_run (four_then (line (2 ∷ []) nothing 11 (whether 1) (1 ∷ 1 ∷ []))) 34 2 36 ∷
    row both_run (four_then (line (2 ∷ []) nothing 11 (whether 1) (0 ∷ 0 ∷ []))) 34 2 36 ∷
    row both_run (four_then (line (2 ∷ []) nothing 11 (whether 1) (0 ∷ 3 ∷ []))) 34 2 36 ∷
    row both_run (four_then (line (0 ∷ 2 ∷ []) nothing 11 (whether 1) (0 ∷ 1 ∷ []))) 34 2 36 ∷
    row both_run (four_then (line (2 ∷ []) (one 1) 11 (whether 1) (0 ∷ 1 ∷ []))) 34 2 36 ∷
    row both_run (four_then (line (2 ∷ []) nothing 11 (whether 1) (0 ∷ 1 ∷ []))) 36 2 47 ∷
    -- A middle that is only contained.
    row both_run (derived (line (0 ∷ 2 ∷ []) nothing 1 (list (0 ∷ 2 ∷ [])) [] ∷ line (2 ∷ []) nothing 1 (list (2 ∷ [])) [] ∷ line (2 ∷ []) nothing 8 (whether 1) (1 ∷ []) ∷ line (0 ∷ 2 ∷ []) nothing 11 (whether 1) (0 ∷ 2 ∷ []) ∷ []) []) 34 2 29 ∷
    -- 34 by rule 12: a condition that is possible and not within X, a list cited (FORMAT 17.25, 17.26); and as it should be.
    row both_run (four_then (line (2 ∷ []) if_not_f 12 (whether 1) (1 ∷ []))) 34 2 36 ∷
    row both_run (four_then (line (2 ∷ []) if_g 12 (whether 1) (0 ∷ []))) 34 2 36 ∷
    row both_run (four_then (line (2 ∷ []) if_g 12 (whether 1) (1 ∷ []))) 36 2 51 ∷
    -- 34 by rules 3, 4, 5 and 6 where they cite a fluent (FORMAT 17.26); and the last three as they should be.
    row both_run (four_then (line [] (one 1) 3 (list []) (1 ∷ 3 ∷ []))) 34 2 36 ∷
    row both_run (four_then (line (2 ∷ []) if_g 4 (list (2 ∷ [])) (1 ∷ []))) 34 2 36 ∷
    row both_run (four_then (line (2 ∷ []) nothing 5 (list (2 ∷ [])) (1 ∷ 0 ∷ []))) 34 2 36 ∷
    row both_run (four_then (line (2 ∷ []) nothing 5 (list (2 ∷ [])) (0 ∷ 1 ∷ []))) 34 2 36 ∷
    row both_run (four_then (line (2 ∷ []) nothing 6 (list []) (1 ∷ []))) 34 2 36 ∷
    row both_run (four_then (line (2 ∷ []) if_g 4 (list (2 ∷ [])) (0 ∷ []))) 36 2 52 ∷
    row both_run (four_then (line (2 ∷ []) nothing 5 (list (2 ∷ [])) (0 ∷ 0 ∷ []))) 36 2 48 ∷
    row both_run (four_then (line (2 ∷ []) nothing 6 (list []) (0 ∷ []))) 36 2 45 ∷
    -- The closing list as it should be: the fluent by rule 8, and by rule 11 with nothing to do first; and two whether entries in their order,
    -- and out of it (FORMAT 17.30 to 17.34).
    row both_known (derived known (1 ∷ 3 ∷ [])) 0 0 0 ∷
    row both_known (derived known (1 ∷ 8 ∷ [])) 0 0 0 ∷
    row both_asked (derived known (1 ∷ 5 ∷ 3 ∷ [])) 0 0 0 ∷
    row both_asked (derived known (1 ∷ 3 ∷ 5 ∷ [])) 36 2 111 ∷
    -- 36: a closing list with no entry, one long, 255 long, and one short; each placed at its count (FORMAT 17.35).
    row both_known (derived known []) 36 2 108 ∷
    row both_known (derived known (1 ∷ 3 ∷ 3 ∷ [])) 36 2 108 ∷
    row both_known (written known ++ (255 ∷ replicate 510 0)) 36 2 108 ∷
    row both_asked (derived known (1 ∷ 3 ∷ [])) 36 2 108 ∷
    -- 36: an entry that names no line, first or second; placed at the entry (FORMAT 17.36).
    row both_known (derived known (10 ∷ 3 ∷ [])) 36 2 109 ∷
    row both_known (derived known (1 ∷ 10 ∷ [])) 36 2 111 ∷
    row both_known (derived known (1 ∷ 65535 ∷ [])) 36 2 111 ∷
    -- 36: for the goals a line about a fluent, and one with more than the goals; for the fluent the goals' line, a line for another fluent, with
    -- another X, with another plan, and one with its literal.
    row both_known (derived known (3 ∷ 3 ∷ [])) 36 2 109 ∷
    row both_known (derived known (0 ∷ 3 ∷ [])) 36 2 109 ∷
    row both_known (derived known (1 ∷ 1 ∷ [])) 36 2 111 ∷
    row both_known (derived known (1 ∷ 5 ∷ [])) 36 2 111 ∷
    row both_known (derived known (1 ∷ 7 ∷ [])) 36 2 111 ∷
    row both_known (derived known (1 ∷ 9 ∷ [])) 36 2 111 ∷
    row both_known (derived known (1 ∷ 2 ∷ [])) 36 2 111 ∷
    -- A fault of a line goes before 36 (FORMAT 17.13, 17.14).
    row both_known (derived (line [] nothing 1 (list (0 ∷ [])) [] ∷ []) []) 34 2 2 ∷
    row both_known (derived (line [] nothing 9 (list []) [] ∷ []) (9 ∷ [])) 31 2 2 ∷
    []

-- Every derivation is answered as its row says.
pub more_whethers_hold : map (λ (c : Case). check format c.layout c.request c.derivation) more_whethers ≡ map (λ (c : Case). c.gives) more_whethers
unfolding all_open table_A file_A request_14 lines_14 derivation_14 sensing_seven list numbers line together written derived nothing one whether choice chosen plan_A nine further bomb two_fluents look_locked both_run one_run looked sensed both_known both_asked known four if_not_f if_g four_then more_whethers
more_whethers_hold = refl
