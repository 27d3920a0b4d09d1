-- Stores in a row: one before others, others behind them, and those beyond the end. Assumes nothing.
use Prim.Native.Nat.{ℕ, suc, ◌+◌, ◌-◌, ◌≤◌, ◌<◌}
use native.Mathlib.Omega.{arith}
use native.Mathlib.Numerals.{add-one}
use mathlib.Core.Path.{◌≡◌, refl, ◌∙◌, ap}
use mathlib.Core.List.{List, [], ◌∷◌, ◌++◌}
use lib.ListN.{length, get_or, take, drop, set, length-set}
use lib.Seq.{sets, set_comm, set_out, drop-cons}

pub store_before : (vs l : List ℕ) (i j v : ℕ) → i < j → set (sets l j vs) i v ≡ sets (set l i v) j vs
store_before [] l i j v less = refl
store_before (w ∷ vs) l i j v less =
    store_before vs (set l j w) i (suc j) v (omega arith)
    ∙ ap (λ (xs : List ℕ). sets xs (suc j) vs) (set_comm l j i w v (λ e. omega arith))

pub stores_behind : (vs ws l : List ℕ) (i : ℕ) → sets l i (vs ++ ws) ≡ sets (sets l i vs) (i + length vs) ws
stores_behind [] ws l i = let same : i ≡ i + 0 = omega arith in ap (λ (j : ℕ). sets l j ws) same
stores_behind (v ∷ vs) ws l i =
    let same : suc i + length vs ≡ i + suc (length vs) = omega arith in
    stores_behind vs ws (set l i v) (suc i) ∙ ap (λ (j : ℕ). sets (sets (set l i v) (suc i) vs) j ws) same

pub stores_out : (vs l : List ℕ) (i : ℕ) → length l ≤ i → sets l i vs ≡ l
stores_out [] l i out = refl
stores_out (v ∷ vs) l i out = let same = length-set l i v in stores_out vs (set l i v) (suc i) (omega arith) ∙ set_out l i v out

-- WHAT IS TO BE STORED, from a list's entry i up to e: the entry and those after it, or nothing.
pub part_first : (xs : List ℕ) (i e : ℕ) → i < e → e ≤ length xs → take (e - i) (drop i xs) ≡ get_or xs i 0 ∷ take (e - (i + 1)) (drop (i + 1) xs)
part_first xs i e more inside =
    let less : e - i ≡ suc (e - (i + 1)) = omega arith in
    rw (less, add-one i, drop-cons xs i 0 (omega arith))

pub part_none : (xs : List ℕ) (i e : ℕ) → e ≤ i → take (e - i) (drop i xs) ≡ []
part_none xs i e over = let none : e - i ≡ 0 = omega arith in rw none
