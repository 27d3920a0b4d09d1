-- Cases of the derive call (of FORMAT 24.30 to 24.50), those by which an edit of the definitions is refuted, computed by the definitions: what
-- it gives and leaves in the room. The others are in `MoreWritten` of `demands`. Assumes nothing.
use Prim.Native.Nat.{ℕ}
use mathlib.Core.Path.{◌≡◌, refl}
use mathlib.Core.List.{List, [], ◌∷◌, ◌++◌, map}
use lib.ListN.{replicate}
use Rattle.meaning.specs.Limits.{format}
use Rattle.meaning.specs.Indexes.{Built}
use Rattle.meaning.specs.Schemes.{derive}
use Rattle.meaning.proofs.Compute.{all_open}
use Rattle.meaning.proofs.Cases.{usual, table_A}
use Rattle.meaning.proofs.DerivationCases.{sensing_seven}

-- A request, the lent room, the budget, and what the call gives.
pub record DeriveCase : Type 0 where
  pub request : List ℕ
  pub room : List ℕ
  pub budget : ℕ
  pub gives : Built

-- A lent room of so many bytes; a derivation written into it, with so many lent bytes behind; and the room as lent.
abbrev nines : ℕ → List ℕ
nines n = replicate n 9

abbrev pub derived_in : (request : List ℕ) → (size budget count : ℕ) → (left : List ℕ) → DeriveCase
derived_in request size budget count left = record { request = request; room = nines size; budget = budget; gives = record { answer = record { number = 0; input = 0; place = 0; count = count }; room = left } }

abbrev pub derived : (request : List ℕ) → (size : ℕ) → (left : List ℕ) → DeriveCase
derived request size left = derived_in request size usual size left

abbrev pub not_derived : (request : List ℕ) → (size budget number input place count : ℕ) → DeriveCase
not_derived request size budget number input place count = record { request = request; room = nines size; budget = budget; gives = record { answer = record { number = number; input = input; place = place; count = count }; room = nines size } }

pub derive_cases : List DeriveCase
derive_cases =
    -- Rule 6 where Y is X, branches joined with what is left, and a budget that is spent before an item is too wide.
    derived (table_A ++ (0 ∷ 0 ∷ 3 ∷ 3 ∷ 5 ∷ 7 ∷ 0 ∷ [])) 28 (0 ∷ 2 ∷ 3 ∷ 3 ∷ 5 ∷ 7 ∷ 0 ∷ 0 ∷ 3 ∷ 3 ∷ 5 ∷ 7 ∷ 1 ∷ 0 ∷ 3 ∷ 3 ∷ 5 ∷ 7 ∷ 0 ∷ 0 ∷ 3 ∷ 3 ∷ 5 ∷ 7 ∷ 6 ∷ 1 ∷ 0 ∷ 0 ∷ []) ∷
    derived (1 ∷ 1 ∷ 1 ∷ 0 ∷ 0 ∷ 1 ∷ 0 ∷ 0 ∷ 0 ∷ 0 ∷ 2 ∷ 255 ∷ 1 ∷ 1 ∷ 0 ∷ 0 ∷ 1 ∷ 255 ∷ 1 ∷ 0 ∷ 0 ∷ 1 ∷ 0 ∷ 0 ∷ 0 ∷ 0 ∷ []) 100 (0 ∷ 8 ∷ 1 ∷ 0 ∷ 0 ∷ 1 ∷ 0 ∷ 1 ∷ 0 ∷ 2 ∷ 0 ∷ 1 ∷ 0 ∷ 0 ∷ 1 ∷ 0 ∷ 1 ∷ 0 ∷ 2 ∷ 0 ∷ 1 ∷ 0 ∷ 0 ∷ 0 ∷ 1 ∷ 0 ∷ 1 ∷ 0 ∷ 1 ∷ 0 ∷ 0 ∷ 0 ∷ 0 ∷ 6 ∷ 1 ∷ 0 ∷ 2 ∷ 1 ∷ 0 ∷ 0 ∷ 1 ∷ 0 ∷ 0 ∷ 5 ∷ 2 ∷ 0 ∷ 1 ∷ 0 ∷ 3 ∷ 1 ∷ 0 ∷ 0 ∷ 2 ∷ 0 ∷ 0 ∷ 0 ∷ 5 ∷ 2 ∷ 0 ∷ 0 ∷ 0 ∷ 4 ∷ 1 ∷ 0 ∷ 0 ∷ 2 ∷ 255 ∷ 1 ∷ 0 ∷ 0 ∷ 1 ∷ 0 ∷ 0 ∷ 0 ∷ 4 ∷ 1 ∷ 0 ∷ 5 ∷ 1 ∷ 0 ∷ 0 ∷ 2 ∷ 255 ∷ 1 ∷ 1 ∷ 0 ∷ 0 ∷ 1 ∷ 255 ∷ 1 ∷ 0 ∷ 0 ∷ 1 ∷ 0 ∷ 0 ∷ 0 ∷ 4 ∷ 1 ∷ 0 ∷ 6 ∷ []) ∷
    not_derived sensing_seven 0 128 3 0 0 128 ∷
    []

pub derive_cases_hold : map (λ (c : DeriveCase). derive format c.request c.room c.budget) derive_cases ≡ map (λ (c : DeriveCase). c.gives) derive_cases
unfolding all_open table_A sensing_seven derive_cases
derive_cases_hold = refl
