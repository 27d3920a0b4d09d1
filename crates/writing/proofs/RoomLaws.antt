-- What is put into a room: a number, a part of an input, and what a state knows. What is still to be stored makes of the room what all of it makes of the room as it was
-- lent. Assumes nothing.
use Prim.Native.Nat.{ℕ, suc, min, ◌+◌, ◌-◌, ◌*◌, ◌/◌, ◌%◌, ◌≤◌, ◌<◌}
use native.Mathlib.Omega.{arith}
use mathlib.Core.Path.{◌≡◌, refl, sym, ◌∙◌, ap, ap₂}
use mathlib.Core.List.{List, [], ◌∷◌}
use lib.ListN.{length, get_or, take, drop, set, length-set}
use lib.Seq.{sets}
use lib.Dec.{ltb}
use borrow.Author.Tests.{ltb-true, ltb-false}
use Rattle.meaning.proofs.TestLaws.{by-test}
use mir.Syntax.{w8, w64}
use mir.Val.{Fits}
use Rattle.meaning.specs.Limits.{format}
use Rattle.meaning.specs.Derivations.{literals_of}
use Rattle.meaning.specs.Layouts.{list_written, number_written}
use Rattle.steps.specs.AtHand.{Marked}
use Rattle.steps.proofs.StoreLaws.{store_before, stores_out, part_first, part_none}
use Rattle.steps.proofs.KnownLists.{known_above, known_far, unmarked_step, marked_step}

-- A NUMBER.
pub number_put : (room mid after : List ℕ) (q k : ℕ) → mid ≡ set room q (k / 256) → after ≡ set mid (q + 1) (k % 256) → after ≡ sets room q (number_written k)
unfolding number_written
number_put room mid after q k high low = let on : q + 1 ≡ suc q = omega arith in low ∙ rw (high, on)

-- A PART of an input, from p up to e. The bytes from i on are still to be stored, the first of them at `at`.
pub record Copying (s before : List ℕ) (p e q : ℕ) (room : List ℕ) (i at : ℕ) : Type 0 where
  pub inside : e ≤ length s
  pub most : i ≤ e
  pub sized : length room ≡ length before
  pub same : sets before q (take (e - p) (drop p s)) ≡ sets room at (take (e - i) (drop i s))

pub copying_starts : (s room : List ℕ) (p e q : ℕ) → p ≤ e → e ≤ length s → Copying s room p e q room (p + 0) (q + 0)
copying_starts s room p e q order inside =
    let first : p + 0 ≡ p = omega arith in
    let start : q + 0 ≡ q = omega arith in
    record { inside = inside; most = omega arith; sized = refl; same = rw (first, start) }

-- Behind the room's end nothing of it is put.
pub part_out : (s room : List ℕ) (p e q : ℕ) → length room ≤ q → room ≡ sets room q (take (e - p) (drop p s))
part_out s room p e q out = sym (stores_out (take (e - p) (drop p s)) room q out)

-- So many bytes as fit behind q are stored.
module _ (s before : List ℕ) (p e q fitting : ℕ) (fit : fitting ≡ min (e - p) (length before - q)) (room : List ℕ) (i : ℕ) (copies : Copying s before p e q room (p + i) (q + i)) where
  part_over : e ≤ p + i → room ≡ sets before q (take (e - p) (drop p s))
  part_over over = sym (copies.same ∙ rw (part_none s (p + i) e over))

  pub part_put : fitting ≤ i → room ≡ sets before q (take (e - p) (drop p s))
  part_put over =
      let sized = copies.sized in
      by-test (ltb (p + i) e)
      (λ t. let less = ltb-true _ _ t in sym (copies.same ∙ stores_out (take (e - (p + i)) (drop (p + i) s)) room (q + i) (omega (arith, less, over, fit, sized))))
      (λ f. part_over (ltb-false _ _ f))

  pub copying_next : i < fitting → Copying s before p e q (set room (q + i) (get_or s (p + i) 0)) (p + (i + 1)) (q + (i + 1))
  copying_next more =
      let inside = copies.inside in
      let less : p + i < e = omega (arith, more, fit) in
      let next : p + (i + 1) ≡ p + i + 1 = omega arith in
      let on : q + (i + 1) ≡ suc (q + i) = omega arith in
      record {
        inside = inside;
        most = omega (arith, less);
        sized = length-set room (q + i) (get_or s (p + i) 0) ∙ copies.sized;
        same = copies.same ∙ rw (part_first s (p + i) e less inside, next, on);
      }

-- WHAT A STATE KNOWS. The literals of the fluents below f are put behind the place of their count, and those from f up are still to be.
pub record Listing (marks before : List ℕ) (q : ℕ) (room : List ℕ) (p count f : ℕ) : Type 0 where
  pub marked : Marked marks
  pub near : q < 281474976710656
  pub most : f ≤ format.fluents
  pub few : count ≤ f
  pub placed : p ≡ q + 1 + count
  pub sized : length room ≡ length before
  pub counted : count + length (known_above marks f) ≡ length (literals_of marks)
  pub same : sets before (q + 1) (literals_of marks) ≡ sets room p (known_above marks f)

pub listing_starts : (marks room : List ℕ) (q : ℕ) → Marked marks → q < 281474976710656 → Listing marks room q room (q + 1) 0 0
unfolding literals_of
listing_starts marks room q marked near = record {
  marked = marked;
  near = near;
  most = omega arith;
  few = omega arith;
  placed = omega arith;
  sized = refl;
  counted = omega arith;
  same = refl;
}

module _ (marks before : List ℕ) (q : ℕ) (room : List ℕ) (p count f : ℕ) (lists : Listing marks before q room p count f) where
  module _ (more : f < format.fluents) where
    mark_small : get_or marks f 0 ≤ 2
    mark_small = lists.marked.small f

    pub unmarked_next : get_or marks f 0 ≡ 0 → Listing marks before q room p count (f + 1)
    unmarked_next none =
        let few = lists.few in
        let on = unmarked_step marks lists.marked f more none in
        let counted = lists.counted in
        let long = ap length on in
        record {
          marked = lists.marked;
          near = lists.near;
          most = omega arith;
          few = omega arith;
          placed = lists.placed;
          sized = lists.sized;
          counted = omega (arith, counted, long);
          same = lists.same ∙ ap (λ (xs : List ℕ). sets room p xs) on;
        }

    pub place_fits : Fits w64 (p + 1)
    place_fits = let is = lists.placed in let few = lists.few in let near = lists.near in record { fits = omega (arith, is, few, near, more) }

    pub count_fits : Fits w8 (count + 1)
    count_fits = let few = lists.few in record { fits = omega (arith, few, more) }

    pub marked_next : (get_or marks f 0 ≡ 0 → ⊥) → (mark : ℕ) → mark ≡ get_or marks f 0 → (after : List ℕ) → after ≡ set room p (2 * f + mark - 1) → Listing marks before q after (p + 1) (count + 1) (f + 1)
    marked_next some mark at after put =
        let few = lists.few in
        let is = lists.placed in
        let step : known_above marks f ≡ (2 * f + mark - 1) ∷ known_above marks (f + 1) = rw at (marked_step marks lists.marked f more some) in
        let counted = lists.counted in
        let long = ap length step in
        let on : p + 1 ≡ suc p = omega arith in
        record {
          marked = lists.marked;
          near = lists.near;
          most = omega arith;
          few = omega arith;
          placed = omega arith;
          sized = ap length put ∙ length-set room p (2 * f + mark - 1) ∙ lists.sized;
          counted = omega (arith, counted, long);
          same = lists.same ∙ rw (step, put, on);
        }

  -- All are put.
  module _ (over : format.fluents ≤ f) where
    none_left : known_above marks f ≡ []
    none_left = known_far marks lists.marked f over

    count_is : count ≡ length (literals_of marks)
    count_is = let is = lists.counted in let none = ap length none_left in omega (arith, is, none)

    pub known_ends : p ≡ q + length (list_written (literals_of marks))
    unfolding list_written
    known_ends = let is = lists.placed in let count = count_is in omega (arith, is, count)

    pub known_within : p ≤ q + 1 + format.fluents
    known_within = let is = lists.placed in let few = lists.few in let most = lists.most in omega (arith, is, few, most)

    pub known_put : (after : List ℕ) → after ≡ set room q count → after ≡ sets before q (list_written (literals_of marks))
    unfolding list_written
    known_put after put =
        let on : q + 1 ≡ suc q = omega arith in
        let is : sets before (q + 1) (literals_of marks) ≡ room = lists.same ∙ ap (λ (xs : List ℕ). sets room p xs) none_left in
        put
        ∙ ap₂ (λ (xs : List ℕ) (n : ℕ). set xs q n) (sym is) count_is
        ∙ store_before (literals_of marks) before q (q + 1) (length (literals_of marks)) (omega arith)
        ∙ ap (λ (i : ℕ). sets (set before q (length (literals_of marks))) i (literals_of marks)) on

    pub known_sized : (after : List ℕ) → after ≡ set room q count → length after ≡ length before
    known_sized after put = ap length put ∙ length-set room q count ∙ lists.sized
