-- The cases of the derive call (FORMAT 24.30 to 24.50), computed by the definitions: what it gives and leaves in the room. No edit of the
-- definitions is refuted by one of these alone: the rows that edits need are in `SchemeCases` of `meaning`. Assumes nothing.
use Prim.Native.Nat.{ℕ}
use mathlib.Core.Path.{◌≡◌, refl}
use mathlib.Core.List.{List, [], ◌∷◌, ◌++◌, map}
use lib.ListN.{set, take}
use Rattle.meaning.specs.Limits.{format}
use Rattle.meaning.specs.Schemes.{derive}
use Rattle.meaning.proofs.Compute.{all_open}
use Rattle.meaning.proofs.Cases.{usual, table_A, file_A}
use Rattle.meaning.proofs.DerivationCases.{request_14, sensing_seven}
use Rattle.meaning.proofs.SchemeCases.{DeriveCase, derived_in, derived, not_derived}

-- D (FORMAT 24.29).
derivation_D : List ℕ
derivation_D = 0 ∷ 11 ∷ 4 ∷ 0 ∷ 3 ∷ 5 ∷ 7 ∷ 0 ∷ 0 ∷ 4 ∷ 0 ∷ 3 ∷ 5 ∷ 7 ∷ 1 ∷ 0 ∷ 4 ∷ 0 ∷ 3 ∷ 5 ∷ 7 ∷ 0 ∷ 0 ∷ 1 ∷ 7 ∷ 6 ∷ 1 ∷ 0 ∷ 0 ∷ 4 ∷ 0 ∷ 3 ∷ 5 ∷ 7 ∷ 0 ∷ 1 ∷ 255 ∷ 2 ∷ 1 ∷ 1 ∷ 0 ∷ 2 ∷ 1 ∷ 2 ∷ 1 ∷ 0 ∷ 0 ∷ 0 ∷ 1 ∷ 7 ∷ 4 ∷ 1 ∷ 0 ∷ 1 ∷ 4 ∷ 1 ∷ 3 ∷ 5 ∷ 7 ∷ 0 ∷ 1 ∷ 1 ∷ 4 ∷ 1 ∷ 2 ∷ 5 ∷ 7 ∷ 2 ∷ 0 ∷ 4 ∷ 1 ∷ 2 ∷ 5 ∷ 7 ∷ 0 ∷ 1 ∷ 2 ∷ 4 ∷ 1 ∷ 2 ∷ 4 ∷ 7 ∷ 2 ∷ 0 ∷ 4 ∷ 1 ∷ 2 ∷ 4 ∷ 7 ∷ 0 ∷ 0 ∷ 4 ∷ 1 ∷ 2 ∷ 4 ∷ 7 ∷ 1 ∷ 0 ∷ 4 ∷ 1 ∷ 2 ∷ 4 ∷ 7 ∷ 0 ∷ 0 ∷ 1 ∷ 7 ∷ 6 ∷ 1 ∷ 0 ∷ 5 ∷ 4 ∷ 1 ∷ 2 ∷ 5 ∷ 7 ∷ 0 ∷ 1 ∷ 2 ∷ 1 ∷ 7 ∷ 5 ∷ 2 ∷ 0 ∷ 4 ∷ 0 ∷ 6 ∷ 4 ∷ 1 ∷ 3 ∷ 5 ∷ 7 ∷ 0 ∷ 2 ∷ 1 ∷ 2 ∷ 1 ∷ 7 ∷ 5 ∷ 2 ∷ 0 ∷ 3 ∷ 0 ∷ 7 ∷ 4 ∷ 1 ∷ 3 ∷ 5 ∷ 7 ∷ 0 ∷ 1 ∷ 255 ∷ 2 ∷ 1 ∷ 1 ∷ 0 ∷ 2 ∷ 1 ∷ 2 ∷ 1 ∷ 0 ∷ 0 ∷ 0 ∷ 1 ∷ 7 ∷ 4 ∷ 1 ∷ 0 ∷ 8 ∷ 3 ∷ 3 ∷ 5 ∷ 7 ∷ 0 ∷ 2 ∷ 0 ∷ 255 ∷ 2 ∷ 1 ∷ 1 ∷ 0 ∷ 2 ∷ 1 ∷ 2 ∷ 1 ∷ 0 ∷ 0 ∷ 0 ∷ 1 ∷ 7 ∷ 3 ∷ 2 ∷ 0 ∷ 2 ∷ 0 ∷ 9 ∷ []

-- Two items that are too wide, the first of them in a branch that is not chosen.
wide_twice : List ℕ
wide_twice = 8 ∷ 1 ∷ 1 ∷ 0 ∷ 0 ∷ 1 ∷ 0 ∷ 0 ∷ 7 ∷ 0 ∷ 1 ∷ 0 ∷ 2 ∷ 0 ∷ 3 ∷ 0 ∷ 4 ∷ 0 ∷ 5 ∷ 0 ∷ 6 ∷ 0 ∷ 7 ∷ 0 ∷ 2 ∷ 255 ∷ 2 ∷ 1 ∷ 1 ∷ 0 ∷ 1 ∷ 0 ∷ 1 ∷ 0 ∷ 0 ∷ 0 ∷ 0 ∷ 0 ∷ 0 ∷ []

pub more_written : List DeriveCase
more_written =
    -- A room that is just long enough, a longer one, one that is one byte short, and none.
    derived request_14 196 derivation_D ∷
    derived_in request_14 198 usual 196 (derivation_D ++ (9 ∷ 9 ∷ [])) ∷
    not_derived request_14 195 usual 39 0 0 0 ∷
    not_derived request_14 0 usual 39 0 0 0 ∷
    -- The budget, and the order of 30, 3 and 39; a goal missed, an action that can't be run.
    derived_in request_14 196 5 196 derivation_D ∷
    not_derived request_14 0 4 3 0 0 4 ∷
    not_derived file_A 0 0 30 1 46 0 ∷
    not_derived (table_A ++ (0 ∷ 1 ∷ 1 ∷ 1 ∷ 7 ∷ 0 ∷ [])) 196 usual 1 1 33 2 ∷
    not_derived (table_A ++ (0 ∷ 1 ∷ 2 ∷ 0 ∷ 0 ∷ [])) 196 usual 2 1 31 0 ∷
    -- The empty plan, a known fluent that is sensed, four readings.
    derived (table_A ++ (0 ∷ 0 ∷ 0 ∷ 0 ∷ [])) 25 (0 ∷ 2 ∷ 3 ∷ 3 ∷ 5 ∷ 7 ∷ 0 ∷ 0 ∷ 3 ∷ 3 ∷ 5 ∷ 7 ∷ 1 ∷ 0 ∷ 3 ∷ 3 ∷ 5 ∷ 7 ∷ 0 ∷ 0 ∷ 0 ∷ 6 ∷ 1 ∷ 0 ∷ 0 ∷ []) ∷
    derived (table_A ++ (0 ∷ 2 ∷ 0 ∷ 0 ∷ 0 ∷ 0 ∷ [])) 95 (0 ∷ 7 ∷ 4 ∷ 0 ∷ 3 ∷ 5 ∷ 7 ∷ 0 ∷ 0 ∷ 4 ∷ 0 ∷ 3 ∷ 5 ∷ 7 ∷ 1 ∷ 0 ∷ 4 ∷ 0 ∷ 3 ∷ 5 ∷ 7 ∷ 0 ∷ 0 ∷ 0 ∷ 6 ∷ 1 ∷ 0 ∷ 0 ∷ 4 ∷ 0 ∷ 3 ∷ 5 ∷ 7 ∷ 0 ∷ 1 ∷ 0 ∷ 0 ∷ 3 ∷ 1 ∷ 0 ∷ 1 ∷ 4 ∷ 1 ∷ 3 ∷ 5 ∷ 7 ∷ 0 ∷ 0 ∷ 4 ∷ 1 ∷ 3 ∷ 5 ∷ 7 ∷ 1 ∷ 0 ∷ 4 ∷ 1 ∷ 3 ∷ 5 ∷ 7 ∷ 0 ∷ 0 ∷ 0 ∷ 6 ∷ 1 ∷ 0 ∷ 3 ∷ 4 ∷ 1 ∷ 3 ∷ 5 ∷ 7 ∷ 0 ∷ 1 ∷ 0 ∷ 0 ∷ 3 ∷ 1 ∷ 0 ∷ 4 ∷ 3 ∷ 3 ∷ 5 ∷ 7 ∷ 0 ∷ 2 ∷ 0 ∷ 0 ∷ 0 ∷ 3 ∷ 2 ∷ 0 ∷ 2 ∷ 0 ∷ 5 ∷ []) ∷
    derived (2 ∷ 1 ∷ 0 ∷ 0 ∷ 1 ∷ 0 ∷ 0 ∷ 2 ∷ 0 ∷ 1 ∷ 0 ∷ 0 ∷ 0 ∷ 1 ∷ 0 ∷ 0 ∷ 0 ∷ []) 97 (0 ∷ 9 ∷ 2 ∷ 0 ∷ 2 ∷ 0 ∷ 0 ∷ 2 ∷ 0 ∷ 2 ∷ 1 ∷ 0 ∷ 2 ∷ 0 ∷ 2 ∷ 0 ∷ 0 ∷ 0 ∷ 6 ∷ 1 ∷ 0 ∷ 0 ∷ 2 ∷ 0 ∷ 3 ∷ 0 ∷ 0 ∷ 2 ∷ 0 ∷ 3 ∷ 1 ∷ 0 ∷ 2 ∷ 0 ∷ 3 ∷ 0 ∷ 0 ∷ 0 ∷ 6 ∷ 1 ∷ 0 ∷ 2 ∷ 2 ∷ 1 ∷ 2 ∷ 0 ∷ 0 ∷ 2 ∷ 1 ∷ 2 ∷ 1 ∷ 0 ∷ 2 ∷ 1 ∷ 2 ∷ 0 ∷ 0 ∷ 0 ∷ 6 ∷ 1 ∷ 0 ∷ 4 ∷ 2 ∷ 1 ∷ 3 ∷ 0 ∷ 0 ∷ 2 ∷ 1 ∷ 3 ∷ 1 ∷ 0 ∷ 2 ∷ 1 ∷ 3 ∷ 0 ∷ 0 ∷ 0 ∷ 6 ∷ 1 ∷ 0 ∷ 6 ∷ 0 ∷ 0 ∷ 1 ∷ 0 ∷ 0 ∷ 3 ∷ 4 ∷ 0 ∷ 1 ∷ 0 ∷ 3 ∷ 0 ∷ 5 ∷ 0 ∷ 7 ∷ []) ∷
    -- Example 3.1 of Zhao and Shen.
    derived (3 ∷ 3 ∷ 2 ∷ 3 ∷ 5 ∷ 4 ∷ 1 ∷ 2 ∷ 1 ∷ 0 ∷ 1 ∷ 4 ∷ 1 ∷ 1 ∷ 2 ∷ 1 ∷ 1 ∷ 0 ∷ 2 ∷ 0 ∷ 1 ∷ 1 ∷ 3 ∷ 0 ∷ 1 ∷ 5 ∷ 1 ∷ 1 ∷ 5 ∷ 2 ∷ 1 ∷ 5 ∷ 1 ∷ 0 ∷ 0 ∷ 0 ∷ 3 ∷ 0 ∷ 255 ∷ 2 ∷ 1 ∷ 1 ∷ 0 ∷ 1 ∷ 2 ∷ 1 ∷ 0 ∷ 0 ∷ 0 ∷ 1 ∷ 3 ∷ 0 ∷ 2 ∷ 5 ∷ 0 ∷ []) 225 (0 ∷ 13 ∷ 3 ∷ 0 ∷ 3 ∷ 5 ∷ 0 ∷ 1 ∷ 1 ∷ 3 ∷ 0 ∷ 2 ∷ 5 ∷ 2 ∷ 0 ∷ 3 ∷ 0 ∷ 2 ∷ 5 ∷ 0 ∷ 0 ∷ 3 ∷ 0 ∷ 2 ∷ 5 ∷ 1 ∷ 0 ∷ 3 ∷ 0 ∷ 2 ∷ 5 ∷ 0 ∷ 0 ∷ 3 ∷ 0 ∷ 2 ∷ 5 ∷ 6 ∷ 1 ∷ 0 ∷ 1 ∷ 3 ∷ 0 ∷ 3 ∷ 5 ∷ 0 ∷ 1 ∷ 1 ∷ 3 ∷ 0 ∷ 2 ∷ 5 ∷ 5 ∷ 2 ∷ 0 ∷ 0 ∷ 0 ∷ 2 ∷ 3 ∷ 0 ∷ 3 ∷ 5 ∷ 0 ∷ 2 ∷ 255 ∷ 2 ∷ 1 ∷ 1 ∷ 0 ∷ 1 ∷ 2 ∷ 1 ∷ 0 ∷ 0 ∷ 0 ∷ 1 ∷ 3 ∷ 0 ∷ 2 ∷ 5 ∷ 4 ∷ 1 ∷ 0 ∷ 3 ∷ 3 ∷ 1 ∷ 3 ∷ 5 ∷ 0 ∷ 1 ∷ 2 ∷ 3 ∷ 0 ∷ 3 ∷ 5 ∷ 2 ∷ 0 ∷ 3 ∷ 0 ∷ 3 ∷ 5 ∷ 0 ∷ 1 ∷ 1 ∷ 3 ∷ 0 ∷ 2 ∷ 5 ∷ 2 ∷ 0 ∷ 3 ∷ 0 ∷ 2 ∷ 5 ∷ 0 ∷ 0 ∷ 3 ∷ 0 ∷ 2 ∷ 5 ∷ 1 ∷ 0 ∷ 3 ∷ 0 ∷ 2 ∷ 5 ∷ 0 ∷ 0 ∷ 3 ∷ 0 ∷ 2 ∷ 5 ∷ 6 ∷ 1 ∷ 0 ∷ 7 ∷ 3 ∷ 0 ∷ 3 ∷ 5 ∷ 0 ∷ 1 ∷ 1 ∷ 3 ∷ 0 ∷ 2 ∷ 5 ∷ 5 ∷ 2 ∷ 0 ∷ 6 ∷ 0 ∷ 8 ∷ 3 ∷ 1 ∷ 3 ∷ 5 ∷ 0 ∷ 2 ∷ 2 ∷ 1 ∷ 3 ∷ 0 ∷ 2 ∷ 5 ∷ 5 ∷ 2 ∷ 0 ∷ 5 ∷ 0 ∷ 9 ∷ 3 ∷ 1 ∷ 3 ∷ 5 ∷ 0 ∷ 2 ∷ 255 ∷ 2 ∷ 1 ∷ 1 ∷ 0 ∷ 1 ∷ 2 ∷ 1 ∷ 0 ∷ 0 ∷ 0 ∷ 1 ∷ 3 ∷ 0 ∷ 2 ∷ 5 ∷ 4 ∷ 1 ∷ 0 ∷ 10 ∷ 2 ∷ 3 ∷ 5 ∷ 0 ∷ 3 ∷ 0 ∷ 255 ∷ 2 ∷ 1 ∷ 1 ∷ 0 ∷ 1 ∷ 2 ∷ 1 ∷ 0 ∷ 0 ∷ 0 ∷ 1 ∷ 3 ∷ 0 ∷ 2 ∷ 5 ∷ 3 ∷ 2 ∷ 0 ∷ 4 ∷ 0 ∷ 11 ∷ []) ∷
    -- Items that are too wide, after 1.
    not_derived sensing_seven 0 usual 37 1 24 0 ∷
    not_derived (take 25 sensing_seven ++ (1 ∷ 0 ∷ 0 ∷ [])) 0 usual 1 1 26 129 ∷
    not_derived wide_twice 0 usual 37 1 36 0 ∷
    -- 16 first, and a request that ends too soon.
    not_derived (set request_14 11 3) 0 usual 16 1 10 0 ∷
    not_derived (take 46 request_14) 0 usual 11 1 46 0 ∷
    []

pub more_written_hold : map (λ (c : DeriveCase). derive format c.request c.room c.budget) more_written ≡ map (λ (c : DeriveCase). c.gives) more_written
unfolding all_open table_A file_A request_14 sensing_seven derivation_D wide_twice more_written
more_written_hold = refl
