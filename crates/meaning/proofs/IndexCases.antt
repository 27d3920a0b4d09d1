-- The cases of the index call (FORMAT 23.28 to 23.36) and of the indexed call (23.37 to 23.53), computed by the definitions: what the first gives and leaves in the room,
-- and what the second gives, with the line that its answer carries. Assumes nothing.
use Prim.Native.Nat.{ℕ}
use mathlib.Core.Path.{◌≡◌, refl}
use mathlib.Core.List.{List, [], ◌∷◌, ◌++◌, map}
use lib.ListN.{set, replicate, take}
use Rattle.meaning.specs.Limits.{format}
use Rattle.meaning.specs.Indexes.{Built, build, judge_indexed, line_indexed}
use Rattle.meaning.proofs.Compute.{all_open}
use Rattle.meaning.proofs.Cases.{lent_room, usual, marked, table_A, file_A, copies}
use Rattle.meaning.proofs.LineCases.{LineCase, row, stuck}
use Rattle.meaning.proofs.GuardedCases.{each_true}

-- I and T (FORMAT 23.27): the index of File A, and a request in which an effect is said twice, with its index.
index_A : List ℕ
index_A = 0 ∷ 1 ∷ 0 ∷ 18 ∷ 2 ∷ 0 ∷ 7 ∷ 0 ∷ 10 ∷ 1 ∷ 0 ∷ 20 ∷ 1 ∷ 0 ∷ 14 ∷ 1 ∷ 0 ∷ 23 ∷ []

twice : List ℕ
twice = 1 ∷ 1 ∷ 0 ∷ 2 ∷ 0 ∷ 0 ∷ 0 ∷ 0 ∷ 0 ∷ 0 ∷ 1 ∷ 0 ∷ 0 ∷ 0 ∷ 0 ∷ 0 ∷ 0 ∷ 0 ∷ []

index_twice : List ℕ
index_twice = 2 ∷ 0 ∷ 4 ∷ 0 ∷ 7 ∷ 1 ∷ 0 ∷ 11 ∷ []

-- THE INDEX CALL. A request, the lent room, and what the call gives.
pub record BuildCase : Type 0 where
  pub request : List ℕ
  pub room : List ℕ
  pub gives : Built

-- A lent room of so many bytes; an index written into it, with so many lent bytes behind; and the room as lent.
abbrev nines : ℕ → List ℕ
nines n = replicate n 9

abbrev built : (request : List ℕ) → (size count : ℕ) → (left : List ℕ) → BuildCase
built request size count left = record { request = request; room = nines size; gives = record { answer = record { number = 0; input = 0; place = 0; count = count }; room = left } }

abbrev not_built : (request : List ℕ) → (size number input place : ℕ) → BuildCase
not_built request size number input place = record { request = request; room = nines size; gives = record { answer = record { number = number; input = input; place = place; count = 0 }; room = nines size } }

-- All 128 fluents, each an initial fact, and nine effects of 19 bytes each.
many_bytes : List ℕ
many_bytes = 128 ∷ 1 ∷ 128 ∷ each_true 128 0 ++ (9 ∷ []) ++ copies 9 (0 ∷ 0 ∷ 16 ∷ each_true 16 0) ++ (1 ∷ 0 ∷ 0 ∷ 0 ∷ 0 ∷ 0 ∷ 0 ∷ 0 ∷ [])

pub building : List BuildCase
building =
    -- A room that is just long enough, a longer one, one that is one byte short, and none.
    built file_A 18 18 index_A ∷
    built file_A 20 18 (index_A ++ (9 ∷ 9 ∷ [])) ∷
    not_built file_A 17 39 0 0 ∷
    not_built file_A 0 39 0 0 ∷
    -- A line that is said twice; lines of two actions in turn, and an action without lines.
    built twice 8 8 index_twice ∷
    built (1 ∷ 3 ∷ 0 ∷ 3 ∷ 2 ∷ 0 ∷ 0 ∷ 0 ∷ 0 ∷ 0 ∷ 2 ∷ 0 ∷ 0 ∷ 2 ∷ 2 ∷ 0 ∷ 0 ∷ 0 ∷ 0 ∷ 0 ∷ 0 ∷ 0 ∷ 0 ∷ []) 16 16
    (1 ∷ 0 ∷ 7 ∷ 1 ∷ 0 ∷ 16 ∷ 0 ∷ 0 ∷ 2 ∷ 0 ∷ 4 ∷ 0 ∷ 10 ∷ 1 ∷ 0 ∷ 14 ∷ []) ∷
    -- Offsets above 255.
    built many_bytes 22 22 (9 ∷ 0 ∷ 132 ∷ 0 ∷ 151 ∷ 0 ∷ 170 ∷ 0 ∷ 189 ∷ 0 ∷ 208 ∷ 0 ∷ 227 ∷ 0 ∷ 246 ∷ 1 ∷ 9 ∷ 1 ∷ 28 ∷ 1 ∷ 1 ∷ 48 ∷ []) ∷
    -- 16 before 39, and a request that ends too soon.
    not_built (set file_A 11 3) 0 16 1 10 ∷
    not_built (take 47 file_A) 18 11 1 47 ∷
    []

-- Every index is built as its row says.
pub building_holds : map (λ (c : BuildCase). build format c.request c.room) building ≡ map (λ (c : BuildCase). c.gives) building
unfolding all_open table_A file_A copies each_true index_A twice index_twice many_bytes building
building_holds = refl

-- THE INDEXED CALL. An index, and a case of the other inputs with the line.
pub record IndexedCase : Type 0 where
  pub index : List ℕ
  pub of : LineCase

abbrev indexed : (index : List ℕ) → LineCase → IndexedCase
indexed index of = record { index = index; of = of }

-- The index differs at a place.
abbrev differs : (request index : List ℕ) → (place : ℕ) → IndexedCase
differs request index place = indexed index (row request lent_room usual 45 3 place 0 lent_room 0)

pub indexed_cases : List IndexedCase
indexed_cases =
    -- The right index, and just too small a budget.
    indexed index_A (row file_A lent_room usual 0 0 0 5 lent_room 0) ∷
    indexed index_A (row file_A lent_room 4 3 0 0 4 lent_room 0) ∷
    -- No index, one byte missing, and one too many.
    differs file_A [] 0 ∷
    differs file_A (take 17 index_A) 17 ∷
    differs file_A (index_A ++ (0 ∷ [])) 18 ∷
    -- The place of a body, executability lines before effects, and the offsets of one action in another order.
    differs file_A (set index_A 3 19) 3 ∷
    differs file_A (1 ∷ 0 ∷ 18 ∷ 0 ∷ 1 ∷ 0 ∷ 20 ∷ 2 ∷ 0 ∷ 7 ∷ 0 ∷ 10 ∷ 1 ∷ 0 ∷ 23 ∷ 1 ∷ 0 ∷ 14 ∷ []) 0 ∷
    differs file_A (set (set index_A 6 10) 8 7) 6 ∷
    -- The index of another request.
    differs file_A index_twice 0 ∷
    -- A line that is said twice: its index, one without the second place, and one that has the first place twice.
    indexed index_twice (row twice lent_room usual 0 0 0 1 lent_room 0) ∷
    differs twice (1 ∷ 0 ∷ 4 ∷ 1 ∷ 0 ∷ 11 ∷ []) 0 ∷
    differs twice (2 ∷ 0 ∷ 4 ∷ 0 ∷ 4 ∷ 1 ∷ 0 ∷ 11 ∷ []) 4 ∷
    -- No budget; 9 before 45; 16 before 45.
    indexed [] (row file_A lent_room 0 45 3 0 0 lent_room 0) ∷
    indexed [] (row file_A (replicate 127 9) usual 9 0 0 0 (replicate 127 9) 0) ∷
    indexed [] (row (set file_A 11 3) lent_room usual 16 1 10 0 lent_room 0) ∷
    -- A goal that is missed, and an action that can't be run, with its line.
    indexed index_A (row (table_A ++ (0 ∷ 1 ∷ 1 ∷ 1 ∷ 7 ∷ 1 ∷ 2 ∷ [])) lent_room usual 1 1 33 2 (marked (0 ∷ 1 ∷ 2 ∷ 0 ∷ [])) 0) ∷
    indexed index_A (stuck (table_A ++ (0 ∷ 1 ∷ 2 ∷ 0 ∷ 0 ∷ [])) 31 0 (0 ∷ 2 ∷ 2 ∷ 2 ∷ []) 23) ∷
    []

-- Every case is judged as its row says, and its answer carries the row's line.
pub indexed_cases_hold : map (λ (c : IndexedCase). judge_indexed format c.of.request c.index c.of.lent c.of.budget) indexed_cases ≡ map (λ (c : IndexedCase). c.of.gives) indexed_cases
unfolding all_open table_A file_A index_A twice index_twice indexed_cases
indexed_cases_hold = refl

pub indexed_lines_hold : map (λ (c : IndexedCase). line_indexed format c.of.request c.index c.of.lent c.of.budget) indexed_cases ≡ map (λ (c : IndexedCase). c.of.carries) indexed_cases
unfolding all_open table_A file_A index_A twice index_twice indexed_cases
indexed_lines_hold = refl
