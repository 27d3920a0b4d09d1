-- Rows of the whether call (FORMAT section 17), those by which an edit of the definitions is refuted, computed by the definitions. The other
-- rows are in `MoreWhethers` of `demands`. Assumes nothing.
use Prim.Native.Nat.{ℕ, ◌/◌, ◌%◌}
use mathlib.Core.Path.{◌≡◌, refl}
use mathlib.Core.List.{List, [], ◌∷◌, ◌++◌, map}
use lib.ListN.{length}
use Rattle.meaning.specs.declared.Layout.TheVariants.{Closing}
use Rattle.meaning.specs.Limits.{format}
use Rattle.meaning.specs.Derivations.{check}
use Rattle.meaning.proofs.Compute.{all_open}
use Rattle.meaning.proofs.DerivationCases.{Case, row_in}

abbrev pub row : (request derivation : List ℕ) → (number input place : ℕ) → Case
row = row_in Closing

-- WRITING. A list with its count, line numbers, a line, and a derivation: its lines with their count, and the numbers that close it.
unfoldable pub list : List ℕ → List ℕ
list xs = length xs ∷ xs

unfoldable pub numbers : List ℕ → List ℕ
numbers [] = []
numbers (k ∷ ks) = k / 256 ∷ k % 256 ∷ numbers ks

unfoldable pub line : (X c : List ℕ) → (rule : ℕ) → (Y cited : List ℕ) → List ℕ
line X c rule Y cited = list X ++ c ++ (rule ∷ Y) ++ (length cited ∷ numbers cited)

unfoldable pub together : List (List ℕ) → List ℕ
together [] = []
together (l ∷ ls) = l ++ together ls

unfoldable pub written : List (List ℕ) → List ℕ
written lines = numbers (length lines ∷ []) ++ together lines

unfoldable pub derived : (lines : List (List ℕ)) → (closing : List ℕ) → List ℕ
derived lines closing = written lines ++ (length closing ∷ numbers closing)

-- The plans of no item and of one action; and a conclusion that is a fluent, where a list is written by `list`.
unfoldable pub nothing : List ℕ
nothing = 0 ∷ 0 ∷ []

unfoldable pub one : (action : ℕ) → List ℕ
one action = 0 ∷ 1 ∷ action ∷ []

unfoldable pub whether : (fluent : ℕ) → List ℕ
whether fluent = fluent ∷ []

-- THE INPUTS.
-- Example 2 of Son and Baral up to its plan: f is true, action 0 makes it false, and action 1 shows whether g is true.
unfoldable pub two_fluents : List ℕ
two_fluents = 2 ∷ 2 ∷ 1 ∷ 0 ∷ 1 ∷ 0 ∷ 1 ∷ 0 ∷ 2 ∷ 0 ∷ 0 ∷ 1 ∷ 0 ∷ 1 ∷ 1 ∷ 1 ∷ []

-- It asks whether g is true after both actions.
unfoldable pub both_run : List ℕ
both_run = two_fluents ++ (0 ∷ 2 ∷ 0 ∷ 1 ∷ 0 ∷ 1 ∷ 1 ∷ [])

-- Two fluents that are known to be true, an empty plan and no goals, and whether the second is known.
unfoldable pub both_known : List ℕ
both_known = 2 ∷ 1 ∷ 2 ∷ 0 ∷ 2 ∷ 0 ∷ 0 ∷ 0 ∷ 0 ∷ 0 ∷ 0 ∷ 1 ∷ 1 ∷ []

-- Line 1 answers for the goals, 3 and 8 for the second fluent, 8 by rule 11 with nothing to do first, and 5 for the first fluent. Line 7 has
-- another X, and line 9 another plan.
unfoldable pub known : List (List ℕ)
known =
    line (0 ∷ 2 ∷ []) nothing 1 (list (0 ∷ 2 ∷ [])) [] ∷
    line (0 ∷ 2 ∷ []) nothing 6 (list []) (0 ∷ []) ∷
    line (0 ∷ 2 ∷ []) nothing 6 (list (2 ∷ [])) (0 ∷ []) ∷
    line (0 ∷ 2 ∷ []) nothing 8 (whether 1) (2 ∷ []) ∷
    line (0 ∷ 2 ∷ []) nothing 6 (list (0 ∷ [])) (0 ∷ []) ∷
    line (0 ∷ 2 ∷ []) nothing 8 (whether 0) (4 ∷ []) ∷
    line (2 ∷ []) nothing 1 (list (2 ∷ [])) [] ∷
    line (2 ∷ []) nothing 8 (whether 1) (6 ∷ []) ∷
    line (0 ∷ 2 ∷ []) nothing 11 (whether 1) (2 ∷ 7 ∷ []) ∷
    line (0 ∷ 2 ∷ []) (0 ∷ 1 ∷ 255 ∷ 1 ∷ 0 ∷ 0 ∷ 0 ∷ []) 12 (whether 1) (3 ∷ []) ∷
    []

-- Over example 2: g is settled where it is true and where it is false; and then one line more, at place 36, with an empty closing list.
unfoldable pub four : List (List ℕ)
four =
    line (2 ∷ []) nothing 1 (list (2 ∷ [])) [] ∷
    line (2 ∷ []) nothing 8 (whether 1) (0 ∷ []) ∷
    line (3 ∷ []) nothing 1 (list (3 ∷ [])) [] ∷
    line (3 ∷ []) nothing 8 (whether 1) (2 ∷ []) ∷
    []

unfoldable pub four_then : List ℕ → List ℕ
four_then l = derived (four ++ (l ∷ [])) []

pub whethers : List Case
whethers =
    -- Rule 7 with a fluent that the action does not sense (FORMAT 17.21).
    row both_run (four_then (line [] (one 1) 7 (whether 0) [])) 34 2 36 ∷
    -- Rule 8 from a line with two literals (FORMAT 17.22, 17.28).
    row both_run (derived (line (0 ∷ 2 ∷ []) nothing 1 (list (0 ∷ 2 ∷ [])) [] ∷ line (0 ∷ 2 ∷ []) nothing 8 (whether 1) (0 ∷ []) ∷ []) []) 34 2 12 ∷
    -- A closing list that is one short, placed at its count (FORMAT 17.35).
    row both_known (derived known (1 ∷ [])) 36 2 108 ∷
    []

-- Every derivation is answered as its row says.
pub whethers_hold : map (λ (c : Case). check format c.layout c.request c.derivation) whethers ≡ map (λ (c : Case). c.gives) whethers
unfolding all_open list numbers line together written derived nothing one whether two_fluents both_run both_known known four four_then whethers
whethers_hold = refl
