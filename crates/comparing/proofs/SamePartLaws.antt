-- Parts of an input compared entry by entry: what the whole gives is what the rest gives; and a part of a given number of bytes from a place is
-- the bytes from there. Assumes nothing.
use Prim.Native.Nat.{ℕ, zero, suc, ◌+◌, ◌-◌, ◌≤◌, ◌<◌}
use native.Mathlib.Omega.{arith}
use mathlib.Core.Path.{◌≡◌, refl, sym, ◌∙◌, ap}
use mathlib.Core.Bool.{Bool, true, false}
use mathlib.Core.List.{List, ◌∷◌, ◌++◌}
use lib.ListN.{length, get_or, take, drop}
use lib.Seq.{drop-cons}
use lib.Dec.{eqb}
use denote.Ref.{Bor}
use Rattle.std.specs.Prelude.{Option, Some, None, MatchOption, Decides}
use Rattle.std.specs.Cmp.Lexicographic.{pointwise}
use Rattle.std.specs.Option.{option_eq}
use Rattle.std.proofs.lemmas.Bool.Decides.{same_from_decides, Decides-eqb}
use Rattle.std.proofs.lemmas.List.{append_cancel_left}
use Rattle.std.proofs.lemmas.Slice.Eq.{slice_eq-Decides, strip_prefix_is}
use Rattle.meaning.specs.Limits.{all_literals}
use Rattle.meaning.specs.Derivations.{same_list}
use Rattle.meaning.proofs.TestLaws.{by-test}
use Rattle.meaning.proofs.SetLaws.{same_list_is, same_list_self}
use Rattle.reading.specs.Listed.{bytes_from, listed, ListHere}

-- EQUAL LISTS pass, and lists that differ do not.
pub same_list_equal : (xs ys : List ℕ) → xs ≡ ys → same_list xs ys ≡ true
same_list_equal xs ys e = rw e (same_list_self ys)

pub same_list_other : (xs ys : List ℕ) → (xs ≡ ys → ⊥) → false ≡ same_list xs ys
same_list_other xs ys other = by-test (same_list xs ys) (λ t. absurd (other (same_list_is xs ys t))) sym

pub drop_next : (xs : List ℕ) (i : ℕ) → i < length xs → drop i xs ≡ get_or xs i 0 ∷ drop (i + 1) xs
drop_next xs i more = let up : suc i ≡ i + 1 = omega arith in drop-cons xs i 0 more ∙ ap (λ (k : ℕ). get_or xs i 0 ∷ drop k xs) up

-- WHAT `==` SAYS of two parts, and of what is left of a part behind another.
same_list_decides : (xs ys : List ℕ) → Decides (same_list xs ys) (xs ≡ ys)
same_list_decides xs ys = (same_list_is xs ys, same_list_equal xs ys)

pub parts_same : (xs ys : List ℕ) (r : Bool) → r ≡ pointwise eqb xs ys → r ≡ same_list xs ys
parts_same xs ys r is = same_from_decides r (same_list xs ys) (slice_eq-Decides Decides-eqb xs ys r is) (same_list_decides xs ys)

joined_decides : (whole first rest left : List ℕ) (r : Bool) → whole ≡ first ++ left → r ≡ pointwise eqb left rest → r ≡ same_list whole (first ++ rest)
joined_decides whole first rest left r stripped is =
    let same = slice_eq-Decides Decides-eqb left rest r is in
    same_from_decides r (same_list whole (first ++ rest))
    (λ t. stripped ∙ ap (λ (xs : List ℕ). first ++ xs) (same.0 t), λ e. same.1 (append_cancel_left first left rest (sym stripped ∙ e)))
    (same_list_decides whole (first ++ rest))

pub joined_stripped : (whole first : List ℕ) (rest : Bor (List ℕ)) (left : Option (Bor (List ℕ)))
    → MatchOption left (pointwise eqb (take (length first) whole) first ≡ false) (λ x. (pointwise eqb (take (length first) whole) first ≡ true) × (x.now ≡ drop (length first) whole) × (length x.now + length first ≡ length whole))
    → (r : Bool) → r ≡ option_eq (λ x y. pointwise eqb x.now y.now) left (Some rest) → r ≡ same_list whole (first ++ rest.now)
joined_stripped whole first rest None none r is = is ∙ same_list_other whole (first ++ rest.now) (strip_prefix_is Decides-eqb whole first None none rest.now)
joined_stripped whole first rest (Some x) some r is = joined_decides whole first rest.now x.now r (strip_prefix_is Decides-eqb whole first (Some x) some) is

-- A PART `&s[a..b]` holds `take (b - a) (drop a s)`: the bytes from place a on, and that many.
pub bytes_take : (s : List ℕ) (k p : ℕ) → p + k ≤ length s → bytes_from s p k ≡ take k (drop p s)
unfolding bytes_from
bytes_take s zero p within = refl
bytes_take s (suc k) p within =
    ap (λ (xs : List ℕ). get_or s p 0 ∷ xs) (bytes_take s k (p + 1) (omega (arith, within)))
    ∙ ap (take (suc k)) (sym (drop_next s p (omega (arith, within))))

pub part_bytes : (s : List ℕ) (a b : ℕ) → a ≤ b → b ≤ length s → take (b - a) (drop a s) ≡ bytes_from s a (b - a)
part_bytes s a b up within = sym (bytes_take s (b - a) a (omega (arith, up, within)))

module _ (s : List ℕ) (p k : ℕ) (within : p + k ≤ length s) where
  pub part_is : take (p + k - p) (drop p s) ≡ bytes_from s p k
  part_is = let size : p + k - p ≡ k = omega arith in rw size (sym (bytes_take s k p within))

-- The part after the count of a list that stands at p.
pub part_listed : (bound : ℕ) (s : List ℕ) (p x : ℕ) → ListHere bound s p → x ≡ get_or s p 0 → take (p + 1 + x - (p + 1)) (drop (p + 1) s) ≡ listed s p
unfolding listed
part_listed bound s p x here byte = let ends = here.ends in part_is s (p + 1) x (omega (arith, ends, byte)) ∙ ap (bytes_from s (p + 1)) byte

pub lists_same : (s : List ℕ) (p : ℕ) (u : List ℕ) (q x y : ℕ) (r : Bool) → ListHere all_literals s p → ListHere all_literals u q → x ≡ get_or s p 0 → y ≡ get_or u q 0
    → r ≡ same_list (take (p + 1 + x - (p + 1)) (drop (p + 1) s)) (take (q + 1 + y - (q + 1)) (drop (q + 1) u)) → r ≡ same_list (listed s p) (listed u q)
lists_same s p u q x y r here there first second is = is ∙ rw (part_listed all_literals s p x here first, part_listed all_literals u q y there second)
