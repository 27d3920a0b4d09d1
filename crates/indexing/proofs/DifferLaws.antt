-- The first difference of two strings of bytes: the first pair of bytes that are apart, or else the end of the shorter one. Assumes nothing.
use Prim.Native.Nat.{ℕ, ◌+◌, ◌≤◌, min}
use native.Mathlib.Omega.{arith}
use mathlib.Core.Path.{◌≡◌, refl, sym, ◌∙◌, ap}
use mathlib.Core.Bool.{Bool, not}
use mathlib.Core.List.{List, [], ◌∷◌}
use lib.ListN.{length, take, drop}
use lib.Seq.{take_at, sets, length-sets, sets-eq}
use Rattle.std.specs.Prelude.{Option, None, Some}
use Rattle.std.proofs.Common.{Option, None, Some, eqb}
use Rattle.std.specs.List.{zip, position, position_from}
use Rattle.std.proofs.lemmas.Iterator.Adapters.{position_from-zero}
use Rattle.std.proofs.lemmas.List.{length-take-le}
use Rattle.meaning.specs.Refusals
use Rattle.meaning.specs.Indexes.{difference_from, first_difference}
use Rattle.meaning.proofs.TestLaws.{by-test, pick_true, pick_false}
use Rattle.finding.specs.Places.{found}

-- A PAIR of bytes that are not the same.
abbrev apart : ℕ × ℕ → Bool
apart p = not (eqb p.0 p.1)

-- The first of them is the first difference.
differ_at : (p i : ℕ) (xs ys : List ℕ) → position_from apart p (zip xs ys) ≡ Some i → difference_from p xs ys ≡ Refusals.Found.at i
unfolding difference_from
differ_at p i [] ys is = let e : ◌≡◌ {A = Option ℕ} None (Some i) = is in cc
differ_at p i (x ∷ xs) [] is = let e : ◌≡◌ {A = Option ℕ} None (Some i) = is in cc
differ_at p i (x ∷ xs) (y ∷ ys) is =
    by-test (eqb x y)
    (λ t. pick_true _ _ _ t ∙ differ_at (p + 1) i xs ys (rw t at is))
    (λ f. pick_false _ _ _ f ∙ (let e : ◌≡◌ {A = Option ℕ} (Some p) (Some i) = rw f at is in let same : p ≡ i = cc in ap Refusals.Found.at same))

-- Where there is none, the two are the same up to the end of the shorter one.
none_differ : (p : ℕ) (xs ys : List ℕ) → position_from apart p (zip xs ys) ≡ None → length xs ≡ length ys → difference_from p xs ys ≡ Refusals.Found.nowhere
unfolding difference_from
none_differ p [] [] is long = refl
none_differ p [] (y ∷ ys) is long = absurd (omega (arith, long))
none_differ p (x ∷ xs) [] is long = absurd (omega (arith, long))
none_differ p (x ∷ xs) (y ∷ ys) is long =
    by-test (eqb x y)
    (λ t. pick_true _ _ _ t ∙ none_differ (p + 1) xs ys (rw t at is) (omega (arith, long)))
    (λ f. let e : ◌≡◌ {A = Option ℕ} (Some p) None = rw f at is in cc)

ends_differ : (p : ℕ) (xs ys : List ℕ) → position_from apart p (zip xs ys) ≡ None → (length xs ≡ length ys → ⊥) → difference_from p xs ys ≡ Refusals.Found.at (p + min (length xs) (length ys))
unfolding difference_from
ends_differ p [] [] is long = absurd (long refl)
ends_differ p [] (y ∷ ys) is long = ap Refusals.Found.at (omega arith)
ends_differ p (x ∷ xs) [] is long = ap Refusals.Found.at (omega arith)
ends_differ p (x ∷ xs) (y ∷ ys) is long =
    by-test (eqb x y)
    (λ t. pick_true _ _ _ t ∙ ends_differ (p + 1) xs ys (rw t at is) (λ e. long (omega (arith, e))) ∙ ap Refusals.Found.at (omega arith))
    (λ f. let e : ◌≡◌ {A = Option ℕ} (Some p) None = rw f at is in cc)

module _ (one : List ℕ) (n : ℕ) (other : List ℕ) (inside : n ≤ length one) (r : Option ℕ) (first : r ≡ position apart (zip (take n one) other)) where
  from_start : r ≡ position_from apart 0 (zip (take n one) other)
  from_start = first ∙ position_from-zero apart (zip (take n one) other)

  long : length (take n one) ≡ n
  long = length-take-le n one inside

  pub another_byte : (i : ℕ) → r ≡ Some i → Some i ≡ found (first_difference (take n one) other)
  unfolding first_difference found
  another_byte i is = sym (ap found (differ_at 0 i (take n one) other (sym from_start ∙ is)))

  module _ (is : r ≡ None) where
    pub no_difference : n ≡ length other → None ≡ found (first_difference (take n one) other)
    unfolding first_difference found
    no_difference same = sym (ap found (none_differ 0 (take n one) other (sym from_start ∙ is) (long ∙ same)))

    pub another_end : (n ≡ length other → ⊥) → (least : ℕ) → least ≡ min n (length other) → Some least ≡ found (first_difference (take n one) other)
    unfolding first_difference found
    another_end apart least at =
        let size = long in
        let end : least ≡ 0 + min (length (take n one)) (length other) = omega (arith, at, size) in
        ap Some end ∙ sym (ap found (ends_differ 0 (take n one) other (sym from_start ∙ is) (λ e. apart (omega (arith, e, size)))))

-- AN INDEX that was put into a room with enough bytes is what its first bytes are.
module _ (index before room : List ℕ) (enough : length index ≤ length before) (put : room ≡ sets before 0 index) (n : ℕ) (long : n ≡ length index) where
  pub put_inside : n ≤ length room
  put_inside = let sized = ap length put ∙ length-sets before 0 index in omega arith

  put_first : take n room ≡ index
  put_first =
      let fits : 0 + length index ≤ length before = omega arith in
      ap (take n) (put ∙ sets-eq index before 0 fits) ∙ take_at index (drop (0 + length index) before) n (sym long)

  pub put_differs : (other : List ℕ) (r : Option ℕ) → r ≡ found (first_difference (take n room) other) → r ≡ found (first_difference index other)
  put_differs other r is = is ∙ ap (λ (one : List ℕ). found (first_difference one other)) put_first
