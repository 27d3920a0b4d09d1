-- Lists with entries removed are read: what was read ascends, no literal beside its complement, and stays so without some of its entries; and a list that
-- is so is read wherever it is written. Assumes nothing.
use Prim.Native.Nat.{ℕ, zero, suc, ◌+◌, ◌-◌, ◌≤◌}
use native.Mathlib.Omega.{arith}
use mathlib.Core.Path.{◌≡◌, refl, ◌∙◌, ap, subst}
use mathlib.Core.Bool.{Bool, false}
use mathlib.Core.List.{List, [], ◌∷◌}
use lib.ListN.{length}
use lib.Dec.{leb, ltb, eqb}
use borrow.Author.Tests.{ltb-true, ltb-false, le-ltb, eqb-true}
use Rattle.meaning.specs.Tests.{both, either, those_of}
use Rattle.meaning.specs.Literals.{complement}
use Rattle.meaning.specs.Reading.{got, byte_at, count_at, below_at, Kind, bound_of, have_complements, entry_at, entries_at, list_at}
use Rattle.meaning.specs.Layouts.{list_written}
use Rattle.meaning.proofs.TestLaws.{by-test, both_left, both_right, pick_false}
use Rattle.meaning.proofs.PickLaws.{pick_has}
use Rattle.meaning.proofs.SettledLaws.{got_same}
use Rattle.meaning.proofs.RangeLaws.{complement_near, not_refused, after_got, count_within}
use Rattle.meaning.proofs.MovedReads.{next_is, Stands, byte_stands, count_copied, list_copied}

module _ (kind : Kind) (n : ℕ) where
  -- Each entry passes the tests of reading, behind the entry before it.
  abbrev beside : (floor x : ℕ) → Bool
  beside floor x = both (have_complements kind) (both (ltb 0 floor) (eqb x (complement (floor - 1))))

  abbrev pub InOrder : ℕ → List ℕ → Type 0
  InOrder floor [] = Unit {0}
  InOrder floor (x ∷ xs) = (leb (bound_of kind n) x ≡ false) × (ltb x floor ≡ false) × (beside floor x ≡ false) × InOrder (x + 1) xs

  entry_passes : (s : List ℕ) (p floor x e : ℕ) → entry_at kind n s p floor ≡ got x e → (leb (bound_of kind n) x ≡ false) × (ltb x floor ≡ false) × (beside floor x ≡ false)
  unfolding entry_at below_at
  entry_passes s p floor x e read =
      after_got (below_at (bound_of kind n) s p) _ read λ y q below rest.
      after_got (byte_at s p) _ below λ z i byte within.
      let above = not_refused _ _ _ _ rest in
      let apart = not_refused _ _ _ _ above.1 in
      let bounded = not_refused _ _ _ _ within in
      let is : y ≡ x = got_same apart.1 in
      let was : z ≡ x = got_same bounded.1 ∙ is in
      (rw was at bounded.0, rw is at above.0, rw is at apart.0)

  entries_in_order : (s : List ℕ) (left p floor : ℕ) (xs : List ℕ) (e : ℕ) → entries_at kind n s left p floor ≡ got xs e → InOrder floor xs
  unfolding entries_at
  entries_in_order s zero p floor xs e read = subst (InOrder floor) (got_same read) tt
  entries_in_order s (suc left) p floor xs e read =
      after_got (entry_at kind n s p floor) _ read λ y i one rest.
      after_got (entries_at kind n s left i (y + 1)) _ rest λ ys j more last.
      let here = entry_passes s p floor y i one in
      subst (InOrder floor) (got_same last) (here.0, here.1, here.2, entries_in_order s left i (y + 1) ys j more)

  -- What was read ascends, and is no longer than it may be.
  pub list_in_order : (most : ℕ) (s : List ℕ) (p : ℕ) (xs : List ℕ) (e : ℕ) → list_at kind n most s p ≡ got xs e → InOrder 0 xs
  unfolding list_at
  list_in_order most s p xs e read = after_got (count_at 0 most s p) _ read λ c i _ rest. entries_in_order s c i 0 xs e rest

  pub list_few : (most : ℕ) (s : List ℕ) (p : ℕ) (xs : List ℕ) (e : ℕ) → list_at kind n most s p ≡ got xs e → length xs ≤ most
  unfolding list_at list_written
  list_few most s p xs e read =
      let counts = ((list_copied kind n s most p).holds xs e read).there.1 in
      after_got (count_at 0 most s p) _ read λ c i count _.
      let few = count_within 0 most s p c i count in
      let byte = ((count_copied s 0 most p).holds c i count).there.1 in
      omega (arith, few, byte, counts)

  -- ENTRIES REMOVED. What ascends behind an entry ascends behind an earlier one.
  lower_floor : (floor y : ℕ) → floor ≤ y → (xs : List ℕ) → InOrder (y + 1) xs → InOrder floor xs
  lower_floor floor y below [] order = tt
  lower_floor floor y below (x ∷ xs) order =
      let above = ltb-false x (y + 1) order.1 in (
        order.0,
        le-ltb x floor (omega (arith, above, below)),
        by-test (beside floor x)
            (λ t.
            let inner = both_right _ _ t in
            let some = ltb-true 0 floor (both_left _ _ inner) in
            let same = eqb-true x (complement (floor - 1)) (both_right _ _ inner) in
            let near = complement_near (floor - 1) in
            absurd (omega (arith, above, below, some, same, near)))
            (λ f. f),
        order.3,
      )

  pub kept_in_order : (keep : ℕ → Bool) (floor : ℕ) (xs : List ℕ) → InOrder floor xs → InOrder floor (those_of keep xs)
  unfolding those_of
  kept_in_order keep floor [] order = tt
  kept_in_order keep floor (x ∷ xs) order =
      let rest = kept_in_order keep (x + 1) xs order.3 in
      pick_has (InOrder floor) (keep x) _ _ (λ _. (order.0, order.1, order.2, rest)) (λ _. lower_floor floor x (ltb-false x floor order.1) (those_of keep xs) rest)

  -- READ wherever it is written.
  entries_read : (u : List ℕ) (xs : List ℕ) (floor p q : ℕ) → InOrder floor xs → Stands u p xs q → entries_at kind n u (length xs) p floor ≡ got xs q
  unfolding entries_at entry_at below_at
  entries_read u [] floor p q order st = ap (λ (e : ℕ). got [] e) st
  entries_read u (x ∷ xs) floor p q order st =
      let byte = byte_stands u p x (p + 1) (st.0, st.1, refl) in
      next_is _ _ _ _ (next_is _ _ _ _ (next_is _ _ _ _ byte ∙ pick_false _ _ _ order.0) ∙ pick_false _ _ _ order.1 ∙ pick_false _ _ _ order.2)
      ∙ next_is _ _ _ _ (entries_read u xs (x + 1) (p + 1) q order.3 st.2)

  pub list_read : (most : ℕ) (u xs : List ℕ) (p q : ℕ) → InOrder 0 xs → length xs ≤ most → Stands u p (list_written xs) q → list_at kind n most u p ≡ got xs q
  unfolding list_at count_at list_written either
  list_read most u xs p q order few st =
      let byte = byte_stands u p (length xs) (p + 1) (st.0, st.1, refl) in
      let fits : either (ltb (length xs) 0) (ltb most (length xs)) ≡ false = rw (le-ltb (length xs) 0 (omega arith)) (le-ltb most (length xs) few) in
      next_is _ _ _ _ (next_is _ _ _ _ byte ∙ pick_false _ _ _ fits)
      ∙ entries_read u xs 0 (p + 1) q order st.2

pub those_length : {A : Type 0} (keep : A → Bool) (xs : List A) → length (those_of keep xs) ≤ length xs
unfolding those_of
those_length keep [] = omega arith
those_length {A} keep (x ∷ xs) = let less = those_length keep xs in pick_has (λ (ys : List A). length ys ≤ suc (length xs)) (keep x) _ _ (λ _. omega (arith, less)) (λ _. omega (arith, less))
