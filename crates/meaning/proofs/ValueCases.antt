-- Cases of the values call (FORMAT 26.37, 26.43, 26.54, 26.71), computed by the definitions: those that edits of the definitions need. `MoreValues` of `demands`
-- has the others of section 26. Assumes nothing.
use Prim.Native.Nat.{ℕ}
use mathlib.Core.Path.{◌≡◌, refl}
use mathlib.Core.List.{List, [], ◌∷◌, ◌++◌, map}
use Rattle.meaning.specs.Limits.{format}
use Rattle.meaning.specs.Valued.{judge_values}
use Rattle.meaning.proofs.Compute.{all_open}
use Rattle.meaning.proofs.Cases.{Case, verified, missed, refused}

-- A traffic light with three colours, and one action that looks at it: the bytes before the plan.
unfoldable pub light : List ℕ
light = 1 ∷ 3 ∷ 1 ∷ 0 ∷ 0 ∷ 1 ∷ 0 ∷ 0 ∷ 1 ∷ 0 ∷ 0 ∷ []

pub value_cases : List Case
value_cases =
    -- Its first miss is in the second reading, where the colour is 1.
    missed (light ++ (0 ∷ 1 ∷ 0 ∷ 1 ∷ 0 ∷ 0 ∷ 0 ∷ [])) 15 4 (2 ∷ []) ∷
    -- A fact "is not" that leaves two values is not kept.
    missed (1 ∷ 3 ∷ 1 ∷ 1 ∷ 0 ∷ 1 ∷ 0 ∷ 0 ∷ 0 ∷ 0 ∷ 0 ∷ 1 ∷ 0 ∷ 1 ∷ 0 ∷ []) 12 1 (0 ∷ []) ∷
    -- An effect whose body is possible sets the value that is known.
    verified (2 ∷ 3 ∷ 2 ∷ 1 ∷ 1 ∷ 0 ∷ 2 ∷ 1 ∷ 0 ∷ 0 ∷ 2 ∷ 1 ∷ 1 ∷ 0 ∷ 1 ∷ 0 ∷ 0 ∷ 0 ∷ 0 ∷ 1 ∷ 0 ∷ 1 ∷ 0 ∷ 2 ∷ 0 ∷ []) 2 ∷
    -- Three literals that leave no value, of which every two leave one.
    refused (1 ∷ 3 ∷ 1 ∷ 3 ∷ 0 ∷ 1 ∷ 0 ∷ 3 ∷ 0 ∷ 5 ∷ 0 ∷ 0 ∷ 0 ∷ 0 ∷ 0 ∷ 0 ∷ 0 ∷ []) 15 8 ∷
    []

-- Every case is judged as its row says.
pub value_cases_hold : map (λ (c : Case). judge_values format c.request c.lent c.budget) value_cases ≡ map (λ (c : Case). c.gives) value_cases
unfolding all_open light value_cases
value_cases_hold = refl
