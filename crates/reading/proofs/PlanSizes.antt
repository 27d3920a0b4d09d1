-- What reading guarantees of a part of a plan: the items met are those before it and its own, at most the limit, and the place after it is as
-- far on as it has bytes, within the input. Each reader passes on what its parts give. Assumes nothing.
use Prim.Native.Nat.{ℕ, ◌+◌, ◌≤◌, ◌<◌}
use native.Mathlib.Omega.{arith}
use mathlib.Core.Path.{◌≡◌, refl}
use mathlib.Core.List.{List}
use lib.ListN.{length}
use borrow.Author.Tests.{leb-false}
use Rattle.meaning.specs.Limits.{format}
use Rattle.meaning.specs.Requests.{Item}
use Rattle.meaning.specs.Reading
use Rattle.meaning.specs.declared.Form.{Form}
use Rattle.meaning.specs.declared.Form.TheVariants.{Flags, Valued}
use Rattle.meaning.specs.Reading.{Got, byte_at, two_bytes_at, count_at, list_at, literals_at, body_at, item_at, sequence_at, branching_at}
use Rattle.meaning.proofs.GotLaws.{On, Held, held_got}
use Rattle.meaning.proofs.PlaceLaws.{byte_held, two_bytes_held, count_held, list_held}
use Rattle.meaning.proofs.PlanReads.{Said, PassedAs, item_on_as, sequence_on_as}
use Rattle.reading.specs.Listed.{span}
use Rattle.reading.specs.Planned.{items_of, items_in, items_under, bytes_of, bytes_in, bytes_under, place_of}
use Rattle.reading.proofs.ValueSizes.{value_list_far}

-- A given number of bytes was read, and they were there.
pub record Through (s : List ℕ) (p bytes q : ℕ) : Type 0 where
  pub after : q ≡ p + bytes
  pub inside : q ≤ length s

module _ (s : List ℕ) where
  -- Where a reader stops, as it is known of every input.
  module _ {A : Type 0} (p : ℕ) (bytes : A → ℕ) (m : Got A) (held : Held (λ _ _. Unit {0}) (λ x q. (q ≤ length s) × (q ≡ p + bytes x)) m) where
    stops : On m (λ x q. Through s p (bytes x) q)
    stops = record { holds = λ x q e. let h = held_got _ (λ x q. (q ≤ length s) × (q ≡ p + bytes x)) m held x q e in record { after = h.1; inside = h.0 } }

  pub byte_through : (p : ℕ) → On (byte_at s p) (λ _ q. Through s p 1 q)
  byte_through p = stops p (λ _. 1) _ (byte_held s (λ _ _. Unit {0}) tt (λ _ _ _ _. tt) p)

  pub two_bytes_through : (p : ℕ) → On (two_bytes_at s p) (λ _ q. Through s p 2 q)
  two_bytes_through p = stops p (λ _. 2) _ (two_bytes_held s (λ _ _. Unit {0}) tt (λ _ _ _ _. tt) p)

  pub count_through : (least most p : ℕ) → On (count_at least most s p) (λ _ q. Through s p 1 q)
  count_through least most p = stops p (λ _. 1) _ (count_held s (λ _ _. Unit {0}) tt (λ _ _ _ _. tt) least most p)

  pub list_through : (kind : Reading.Kind) (n most p : ℕ) → On (list_at kind n most s p) (λ c q. Through s p (1 + length c) q)
  list_through kind n most p =
      record {
        holds = λ c q e.
            let h = (stops (p + 1) length _ (list_held s (λ _ _. Unit {0}) tt (λ _ _ _ _. tt) kind n most p)).holds c q e in
            let a = h.after in
            record { after = omega arith; inside = h.inside };
      }

  -- As the form writes literals.
  pub literals_through : (form : Form) (n most p : ℕ) → On (literals_at form n most s p) (λ c q. Through s p (1 + span form (length c)) q)
  literals_through Flags n most p = list_through Reading.Kind.literals n most p
  literals_through Valued n most p = record { holds = λ c q e. let far = value_list_far n s most p c q e in record { after = far.0; inside = far.1 } }

  pub body_through : (form : Form) (n p : ℕ) → On (body_at format form n s p) (λ c q. Through s p (1 + span form (length c)) q)
  unfolding body_at
  body_through form n p = literals_through form n 16 p

-- A part with a given number of items and of bytes.
pub record Counted (s : List ℕ) (p met own bytes items q : ℕ) : Type 0 where
  pub through : Through s p bytes q
  pub counted : items ≡ met + own
  pub most : items ≤ format.items

pub record ItemRead (form : Form) (s : List ℕ) (p met : ℕ) (i : Item ℕ) (items q : ℕ) : Type 0 where
  pub sized : Counted s p met (items_in i) (bytes_in form i) items q
  pub below : met < format.items
  pub place : place_of i ≡ p

module _ (form : Form) (n m : ℕ) (s : List ℕ) where
  abbrev plan_sized : Said
  plan_sized = record {
    item = λ deep p met x e. ItemRead form s p met x.value x.items e;
    items = λ deep left p met x e. p ≤ length s → met ≤ format.items → Counted s p met (items_of x.value) (bytes_of form x.value) x.items e;
    sequence = λ deep p met x e. met ≤ format.items → Counted s p met (items_of x.value) (2 + bytes_of form x.value) x.items e;
    branches = λ deep left p met x e. p ≤ length s → met ≤ format.items → Counted s p met (items_under x.value) (bytes_under form x.value) x.items e;
  }

  nothing_counted : (p met : ℕ) → p ≤ length s → met ≤ format.items → Counted s p met 0 0 met p
  nothing_counted p met here few = record { through = record { after = omega arith; inside = here }; counted = omega arith; most = few }

  both_counted : (p met own bytes k q own' bytes' l e : ℕ) → Counted s p met own bytes k q → Counted s q k own' bytes' l e → Counted s p met (own + own') (bytes + bytes') l e
  both_counted p met own bytes k q own' bytes' l e one more =
      let a = one.through.after in let b = more.through.after in
      let c = one.counted in let d = more.counted in
      record { through = record { after = omega arith; inside = more.through.inside }; counted = omega arith; most = more.most }

  sizes_passed : PassedAs format form n m s plan_sized
  unfolding items_of items_in items_under bytes_of bytes_in bytes_under place_of
  sizes_passed = record {
    an_action = λ deep p met x q read few _ _.
        let below = leb-false format.items met few in
        record { sized = record { through = (byte_through s p).holds x q read; counted = refl; most = omega arith }; below = below; place = refl };
    a_branching = λ deep p met x q c r bs e read few _ counted all.
        let below = leb-false format.items met few in
        let count = (count_through s 1 8 (p + 1)).holds c r counted in
        let rest = all count.inside (omega arith) in
        let a = count.after in let b = rest.through.after in let d = rest.counted in
        record { sized = record { through = record { after = omega arith; inside = rest.through.inside }; counted = omega arith; most = rest.most }; below = below; place = refl };
    no_item = λ deep p met here few. nothing_counted p met here few;
    an_item = λ deep left p met i q rest e one more here few. both_counted _ _ _ _ _ _ _ _ _ _ one.sized (more one.sized.through.inside one.sized.most);
    a_sequence = λ deep p met c q x e read all few.
        let two = (two_bytes_through s p).holds c q read in
        let rest = all two.inside few in
        let a = two.after in let b = rest.through.after in
        record { through = record { after = omega arith; inside = rest.through.inside }; counted = rest.counted; most = rest.most };
    no_branch = λ deep p met here few. nothing_counted p met here few;
    a_branch = λ deep left p met c q b r rest e read _ one more here few.
        let condition = (body_through s form n p).holds c q read in
        let body = one few in
        let all = both_counted _ _ _ _ _ _ _ _ _ _ body (more body.through.inside body.most) in
        let a = condition.after in let d = all.through.after in
        record { through = record { after = omega arith; inside = all.through.inside }; counted = all.counted; most = all.most };
  }

  -- With a given number of branchings one inside another.
  pub item_read : (deep p met : ℕ) → On (item_at format form n m s (branching_at format form n m s deep) p met) (λ x q. ItemRead form s p met x.value x.items q)
  item_read = item_on_as format form n m s plan_sized sizes_passed

  pub sequence_read : (deep p met : ℕ) → met ≤ format.items
      → On (sequence_at format form n m s (branching_at format form n m s deep) p met) (λ x q. Counted s p met (items_of x.value) (2 + bytes_of form x.value) x.items q)
  sequence_read deep p met few = record { holds = λ x q e. (sequence_on_as format form n m s plan_sized sizes_passed deep p met).holds x q e few }
