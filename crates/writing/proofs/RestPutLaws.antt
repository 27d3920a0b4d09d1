-- What is left of a plan, put item by item: each item is copied from where it stands, and the position after it has what is left then. Assumes nothing.
use Prim.Native.Nat.{ℕ, suc, ◌+◌, ◌-◌, ◌*◌, ◌/◌, ◌%◌, ◌≤◌, ◌<◌}
use native.Mathlib.Omega.{arith}
use mathlib.Core.Path.{◌≡◌, refl, sym, ◌∙◌, ap, ap₂}
use mathlib.Core.List.{List, ◌++◌}
use lib.ListN.{length, length-append, get_or, take, drop, set}
use lib.Seq.{sets, length-sets}
use mir.Syntax.{w64}
use mir.Val.{Fits}
use Rattle.meaning.specs.Limits.{format}
use Rattle.meaning.specs.Requests.{Sequence, done}
use Rattle.meaning.specs.Layouts.{number_written, items_in, items_written, item_written, plan_written}
use Rattle.reading.specs.Noted.{slots}
use Rattle.reading.specs.Planned.{items_of}
use Rattle.steps.specs.Held.{plan_in}
use Rattle.steps.specs.AtHand.{AtHand}
use Rattle.steps.specs.Rests.{rest_at, after_first, Position}
use Rattle.steps.specs.Steps.{Followed}
use Rattle.steps.proofs.HandLaws.{few_items}
use Rattle.steps.proofs.RestLaws.{rest_past}
use Rattle.writing.specs.Ends.{ItemEnds}
use Rattle.steps.proofs.StoreLaws.{store_before, stores_behind}
use Rattle.meaning.specs.declared.Form.TheVariants.{Flags}

-- What is left from position i on is still to be put, from p on; the items before it are put.
pub record ItemsPut (s t before : List ℕ) (at q : ℕ) (room : List ℕ) (i p items : ℕ) : Type 0 where
  pub short : length s ≤ format.request
  pub position : Position (plan_in Flags s t) i
  pub few : items ≤ i
  pub near : q < 140737488355330
  pub within : p ≤ q + format.request * items
  pub sized : length room ≡ length before
  pub counted : items_in (rest_at (plan_in Flags s t) at) ≡ items + items_in (rest_at (plan_in Flags s t) i)
  pub placed : q + length (items_written (rest_at (plan_in Flags s t) at)) ≡ p + length (items_written (rest_at (plan_in Flags s t) i))
  pub same : sets before q (items_written (rest_at (plan_in Flags s t) at)) ≡ sets room p (items_written (rest_at (plan_in Flags s t) i))

pub items_start : (s t room : List ℕ) (at q : ℕ) → AtHand Flags s t → Position (plan_in Flags s t) at → q < 140737488355330 → ItemsPut s t room at q room at q 0
items_start s t room at q here position near = record {
  short = here.short;
  position = position;
  few = omega arith;
  near = near;
  within = omega arith;
  sized = refl;
  counted = omega arith;
  placed = refl;
  same = refl;
}

module _ (s t before : List ℕ) (at q : ℕ) (room : List ℕ) (i p items : ℕ) (puts : ItemsPut s t before at q room i p items) where
  -- One more item.
  module _ (more : i < format.items) where
    pub item_less : i < items_of (plan_in Flags s t)
    item_less = puts.position.there (λ e. omega (arith, e, more))

    pub slot_fits : Fits w64 (0 + i)
    slot_fits = record { fits = omega (arith, more) }

    pub slot_there : 0 + i < slots
    slot_there = omega (arith, more)

    pub place_near : p < 281474976710656
    place_near = let within = puts.within in let near = puts.near in let few = puts.few in omega (arith, within, near, few, more)

    pub items_fit : Fits w64 (items + 1)
    items_fit = let few = puts.few in record { fits = omega (arith, few, more) }

    module _ (start end : ℕ) (starts : start ≡ get_or t (0 + i) 0) (ends : ItemEnds s t i end) where
      pub part_order : start ≤ end
      part_order = let is = ends.ends in omega (arith, starts, is)

      pub part_inside : end ≤ length s
      part_inside = ends.within

      part_short : end - start ≤ format.request
      part_short = let inside = part_inside in let short = puts.short in omega (arith, inside, short)

      pub place_fits : Fits w64 (p + (end - start))
      place_fits = let near = place_near in let short = part_short in record { fits = omega (arith, near, short) }

      module _ (after : List ℕ) (put : after ≡ sets room p (take (end - start) (drop start s))) where
        long : end - start ≡ length (item_written ends.this)
        long = let is = ends.ends in omega (arith, starts, is)

        -- What is copied is the item.
        part_is : take (end - start) (drop start s) ≡ item_written ends.this
        part_is = ap₂ (λ (n p : ℕ). take n (drop p s)) long starts ∙ ends.bytes

        module _ (r : ℕ) (follows : Followed Flags s t i r) where
          left_is : rest_at (plan_in Flags s t) r ≡ ends.after
          unfolding after_first
          left_is = follows.rest ∙ rw ends.rest

          bytes_are : items_written (rest_at (plan_in Flags s t) i) ≡ item_written ends.this ++ items_written (rest_at (plan_in Flags s t) r)
          unfolding items_written
          bytes_are = rw (ends.rest, left_is)

          one_more : items_in (rest_at (plan_in Flags s t) i) ≡ 1 + items_in (rest_at (plan_in Flags s t) r)
          unfolding items_in
          one_more = rw (ends.rest, left_is) (omega arith)

          pub items_next : ItemsPut s t before at q after r (p + (end - start)) (items + 1)
          items_next =
              let few = puts.few in let later = follows.later in
              let within = puts.within in let short = part_short in
              let counted = puts.counted in let one = one_more in
              let placed = puts.placed in
              let size = long in
              let sum = ap length bytes_are ∙ length-append (item_written ends.this) (items_written (rest_at (plan_in Flags s t) r)) in
              let on : p + length (item_written ends.this) ≡ p + (end - start) = omega (arith, size) in
              record {
                short = puts.short;
                position = follows.at;
                few = omega (arith, few, later);
                near = puts.near;
                within = omega (arith, within, short);
                sized = ap length put ∙ length-sets room p (take (end - start) (drop start s)) ∙ puts.sized;
                counted = omega (arith, counted, one);
                placed = omega (arith, placed, sum, size);
                same =
                    puts.same
                    ∙ ap (λ (xs : List ℕ). sets room p xs) bytes_are
                    ∙ stores_behind (item_written ends.this) (items_written (rest_at (plan_in Flags s t) r)) room p
                    ∙ ap₂ (λ (xs : List ℕ) (j : ℕ). sets xs j (items_written (rest_at (plan_in Flags s t) r))) (sym (put ∙ ap (λ (xs : List ℕ). sets room p xs) part_is)) on;
              }

          pub items_less : format.items - r < format.items - i
          items_less = let later = follows.later in let most = follows.at.most in omega (arith, later, most, more)

  -- None is left.
  module _ (here : AtHand Flags s t) (over : format.items ≤ i) where
    none_left : rest_at (plan_in Flags s t) i ≡ done
    unfolding rest_at
    none_left = let few = few_items s t here in rest_past (plan_in Flags s t) 0 i done (omega (arith, few, over))

    pub items_end : p ≡ q + length (items_written (rest_at (plan_in Flags s t) at))
    unfolding items_written
    items_end = let placed = puts.placed in let none = ap (λ (b : Sequence ℕ). length (items_written b)) none_left in omega (arith, placed, none)

    pub items_few : items ≤ format.items
    items_few = let few = puts.few in let most = puts.position.most in omega (arith, few, most)

    pub items_within : p ≤ q + format.request * format.items
    items_within = let within = puts.within in let few = items_few in omega (arith, within, few)

    pub items_counted : items ≡ items_in (rest_at (plan_in Flags s t) at)
    unfolding items_in
    items_counted = let counted = puts.counted in let none = ap items_in none_left in omega (arith, counted, none)

    pub items_are : room ≡ sets before q (items_written (rest_at (plan_in Flags s t) at))
    unfolding items_written
    items_are = sym (puts.same ∙ ap (λ (b : Sequence ℕ). sets room p (items_written b)) none_left)

-- THE NUMBER of items, put before them.
module _ (room mid after : List ℕ) (q end : ℕ) (c : Sequence ℕ) where
  pub rest_ends : end ≡ q + 2 + length (items_written c) → end ≡ q + length (plan_written c)
  unfolding plan_written number_written
  rest_ends is = omega (arith, is)

  pub rest_put : mid ≡ sets room (q + 2) (items_written c) → (k : ℕ) → k ≡ items_in c → after ≡ sets mid q (number_written k) → after ≡ sets room q (plan_written c)
  unfolding plan_written number_written
  rest_put first k number second =
      let on : q + 2 ≡ suc (suc q) = omega arith in
      second
      ∙ ap₂ (λ (xs : List ℕ) (n : ℕ). set (set xs q (n / 256)) (suc q) (n % 256)) first number
      ∙ ap (λ (xs : List ℕ). set xs (suc q) (items_in c % 256)) (store_before (items_written c) room q (q + 2) (items_in c / 256) (omega arith))
      ∙ store_before (items_written c) (set room q (items_in c / 256)) (suc q) (q + 2) (items_in c % 256) (omega arith)
      ∙ ap (λ (j : ℕ). sets (set (set room q (items_in c / 256)) (suc q) (items_in c % 256)) j (items_written c)) on
