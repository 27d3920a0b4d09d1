-- A list as the slice of its entries. Assumes nothing.
use Prim.Native.Nat.{ℕ, zero, suc, ◌+◌, ◌-◌, ◌*◌, ◌/◌, ◌≤◌, ◌<◌}
use native.Mathlib.Omega.{arith}
use mathlib.Core.Path.{◌≡◌, refl, sym, ◌∙◌, ap, subst}
use mathlib.Core.Bool.{Bool, true, false, ◌&&◌}
use mathlib.Core.List.{List, [], ◌∷◌}
use lib.ListN.{length, get_or, take, drop}
use lib.Seq.{drop-cons}
use Rattle.std.proofs.lemmas.List.{get_or_default}
use Rattle.std.proofs.Common.{add-one}
use Rattle.std.specs.List.{list_all}
use Rattle.meaning.specs.Tests.{both, each_of}
use Rattle.meaning.specs.Limits.{format, all_literals}
use Rattle.reading.specs.Listed.{bytes_from, listed, ListHere}

bytes_taken : (s : List ℕ) (i k : ℕ) → i + k ≤ length s → take k (drop i s) ≡ bytes_from s i k
unfolding bytes_from
bytes_taken s i zero h = refl
bytes_taken s i (suc k) h =
    let here : i < length s = omega arith in
    let others : take k (drop (i + 1) s) ≡ bytes_from s (i + 1) k = bytes_taken s (i + 1) k (omega arith) in
    rw (drop-cons s i 0 here, ← add-one i) (ap (λ (r : List ℕ). get_or s i 0 ∷ r) others)

pub listed_taken : (s : List ℕ) (p : ℕ) → p + get_or s p 0 < length s → (n : ℕ) → n ≡ get_or s p 0 → take (p + 1 + n - (p + 1)) (drop (p + 1) s) ≡ listed s p
unfolding listed
listed_taken s p ends n is =
    let many : p + 1 + n - (p + 1) ≡ get_or s p 0 = omega (arith, is) in
    rw many (bytes_taken s (p + 1) (get_or s p 0) (omega arith))

pub bytes_in_twos : (s : List ℕ) (p : ℕ) → p + 2 * get_or s p 0 < length s → (n : ℕ) → n ≡ get_or s p 0
    → take (p + 1 + 2 * n - (p + 1)) (drop (p + 1) s) ≡ bytes_from s (p + 1) (2 * get_or s p 0)
bytes_in_twos s p ends n is =
    let many : p + 1 + 2 * n - (p + 1) ≡ 2 * get_or s p 0 = omega (arith, is) in
    rw many (bytes_taken s (p + 1) (2 * get_or s p 0) (omega arith))

bytes_many : (s : List ℕ) (i k : ℕ) → length (bytes_from s i k) ≡ k
unfolding bytes_from
bytes_many s i zero = refl
bytes_many s i (suc k) = ap suc (bytes_many s (i + 1) k)

bytes_at : (s : List ℕ) (i k j : ℕ) → j < k → get_or (bytes_from s i k) j 0 ≡ get_or s (i + j) 0
unfolding bytes_from
bytes_at s i zero j h = absurd (omega arith)
bytes_at s i (suc k) zero h = ap (λ (q : ℕ). get_or s q 0) {x = i} {y = i + 0} (omega arith)
bytes_at s i (suc k) (suc j) h = bytes_at s (i + 1) k j (omega arith) ∙ ap (λ (q : ℕ). get_or s q 0) {x = i + 1 + j} {y = i + suc j} (omega arith)

pub listed_many : (s : List ℕ) (p : ℕ) → length (listed s p) ≡ get_or s p 0
unfolding listed
listed_many s p = bytes_many s (p + 1) (get_or s p 0)

module _ (bound : ℕ) (s : List ℕ) (p : ℕ) (here : ListHere bound s p) where
  pub listed_below : (k : ℕ) → k < length (listed s p) → get_or (listed s p) k 0 < bound
  unfolding listed
  listed_below k h =
      let many = listed_many s p in
      let inside : k < get_or s p 0 = omega (arith, many, h) in
      subst (λ (y : ℕ). y < bound) (sym (bytes_at s (p + 1) (get_or s p 0) k inside)) (here.below k inside)

  -- An entry, as going over the slice gives it.
  pub entry_below : (x k : ℕ) → k < length (listed s p) → x ≡ get_or (listed s p) k x → x < bound
  entry_below x k h is = subst (λ (y : ℕ). y < bound) (sym (is ∙ get_or_default (listed s p) k x 0 h)) (listed_below k h)

-- The fluent of a literal has a mark, also where the limit leaves some bytes that are no literal.
pub fluent_listed : (s : List ℕ) (p : ℕ) → ListHere all_literals s p → (items : List ℕ) → items ≡ listed s p → (i : ℕ) → i < length items → (l : ℕ) → l ≡ get_or items i 0
    → l / 2 < format.fluents
fluent_listed s p here items same i more l is =
    let below : l < all_literals = subst (λ (y : ℕ). y < all_literals) (sym (is ∙ ap (λ (ls : List ℕ). get_or ls i 0) same)) (listed_below all_literals s p here i (subst (λ (ls : List ℕ). i < length ls) same more)) in omega arith

-- What `all` tells of a list is what is said of each of its entries.
pub all_each : (test : ℕ → Bool) (xs : List ℕ) → list_all test xs ≡ each_of test xs
unfolding each_of both
all_each test [] = refl
all_each test (x ∷ xs) = elim (test x) as (λ b. (b && list_all test xs) ≡ both b (each_of test xs)) [ true ↦ all_each test xs | false ↦ refl ]
