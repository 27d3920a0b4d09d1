-- Where the input and the notes hold a plan, what is looked for stands there. Assumes nothing.
use Prim.Native.Nat.{ℕ, zero, suc, ◌+◌, ◌*◌, ◌≤◌, ◌<◌}
use native.Mathlib.Omega.{arith}
use mathlib.Core.Path.{◌≡◌, refl, sym, ◌∙◌, ap, subst}
use mathlib.Core.Bool.{true, false}
use mathlib.Core.List.{List, ◌∷◌}
use mathlib.Core.Logic.{inl, inr}
use lib.ListN.{length, get_or}
use lib.Dec.{eqb, ltb}
use borrow.Author.Tests.{eq-eqb, eqb-true, eqb-false, ltb-true, ltb-false}
use Rattle.meaning.specs.Tests.{both, Has}
use Rattle.meaning.specs.Limits.{format, all_literals}
use Rattle.meaning.specs.Literals.{complement, among, exclusive}
use Rattle.meaning.specs.Requests.{Sequence, done, item, Item, act, branching, Branches, none, branch}
use Rattle.meaning.specs.Refusals.{conditions_of}
use Rattle.meaning.proofs.TestLaws.{by-test, clash, both_left, both_right, pick_true, pick_false, has_some}
use Rattle.meaning.proofs.ToldLaws.{Clear}
use Rattle.reading.specs.Listed.{bytes_from, listed, ListHere, span}
use Rattle.meaning.specs.declared.Form.{Form}
use Rattle.reading.specs.Planned.{items_of, items_in, items_under, bytes_of}
use Rattle.finding.specs.Branches.{sequence_place, no_item, place_after, item_after, conditions_from, BranchesHere, ItemHere, ItemsHere}
use Rattle.finding.specs.PlansHeld.{own_items, branches_in, ActWritten, Opened, BranchWritten, Written, ItemWritten, BranchesWritten, BranchKept, Kept, ItemKept, BranchesKept, PlanHeld, SomePlan}
use Rattle.finding.proofs.HereLaws.{bytes_length, literals_length}

-- A LIST at a place.
module _ (s : List ℕ) where
  bytes_below : (bound k p l : ℕ) → ((i : ℕ) → i < k → get_or s (p + i) 0 < bound) → Has (bytes_from s p k) l → l < bound
  unfolding bytes_from
  bytes_below bound zero p l below h = absurd h
  bytes_below bound (suc k) p l below (inl e) =
      let here : p + 0 ≡ p = omega arith in
      rw e (subst (λ (j : ℕ). get_or s j 0 < bound) here (below 0 (omega arith)))
  bytes_below bound (suc k) p l below (inr h) =
      bytes_below bound k (p + 1) l (λ i more. let on : p + (i + 1) ≡ p + 1 + i = omega arith in subst (λ (j : ℕ). get_or s j 0 < bound) on (below (i + 1) (omega (arith, more)))) h

  pub listed_length : (p : ℕ) → length (listed s p) ≡ get_or s p 0
  unfolding listed
  listed_length p = bytes_length s (get_or s p 0) (p + 1)

  pub listed_below : (bound p : ℕ) → ListHere bound s p → (l : ℕ) → Has (listed s p) l → l < bound
  unfolding listed
  listed_below bound p here l h = bytes_below bound (get_or s p 0) (p + 1) l here.below h

-- A list that is clear: its literals are in range, and none has its complement there.
pub clear_of : (c : List ℕ) → ((l : ℕ) → Has c l → l < all_literals) → exclusive c c ≡ false → Clear format c
unfolding exclusive among
clear_of c below apart =
    record {
      within = below;
      consistent = λ l h k. clash (has_some (λ (x : ℕ). among (complement x) c) c l h (has_some (eqb (complement l)) c (complement l) k (eq-eqb (complement l) (complement l) refl))) apart;
    }

pub listed_clear : (s : List ℕ) (p : ℕ) → ListHere all_literals s p → exclusive (listed s p) (listed s p) ≡ false → Clear format (listed s p)
listed_clear s p here apart = clear_of (listed s p) (listed_below s all_literals p here) apart

-- THE COUNT of a sequence.
pub count_zero : (s : List ℕ) (q : ℕ) → get_or s q 0 * 256 + get_or s (q + 1) 0 ≡ 0 → no_item s q ≡ true
unfolding no_item both
count_zero s q e = let high : get_or s q 0 ≡ 0 = omega arith in let low : get_or s (q + 1) 0 ≡ 0 = omega arith in rw (eq-eqb _ _ high) (eq-eqb _ _ low)

pub count_some : (s : List ℕ) (q k : ℕ) → get_or s q 0 * 256 + get_or s (q + 1) 0 ≡ suc k → no_item s q ≡ false
unfolding no_item
count_some s q k e =
    by-test (no_item s q)
    (λ t. let high = eqb-true (get_or s q 0) 0 (both_left _ _ t) in let low = eqb-true (get_or s (q + 1) 0) 0 (both_right _ _ t) in absurd (omega arith))
    (λ f. f)

pub some_item : (i : Item ℕ) → 0 < items_in i
unfolding items_in
some_item (act p a) = omega arith
some_item (branching p bs) = omega arith

-- FROM A BRANCH to the next one.
module _ (form : Form) (s t : List ℕ) (met p : ℕ) (c : List ℕ) where
  sequence_is : (b : Sequence ℕ) → BranchWritten form s p c b → sequence_place form s p ≡ p + (1 + span form (length c))
  unfolding sequence_place
  sequence_is b w =
      let size : get_or s p 0 ≡ length c = sym (literals_length form s p) ∙ ap length w.condition in
      rw size (omega arith)

  pub place_is : (b : Sequence ℕ) → BranchWritten form s p c b → BranchKept t met (p + (1 + span form (length c)) + (2 + bytes_of form b)) b → place_after form s t p met ≡ p + (1 + span form (length c)) + (2 + bytes_of form b)
  unfolding place_after own_items bytes_of items_of
  place_is done w k = pick_true _ _ _ (count_zero s (sequence_place form s p) w.count) ∙ rw (sequence_is done w)
  place_is (item i rest) w k = pick_false _ _ _ (count_some s (sequence_place form s p) (own_items rest) w.count) ∙ k.place (let some = some_item i in omega arith)

  pub item_is : (b : Sequence ℕ) → BranchWritten form s p c b → BranchKept t met (p + (1 + span form (length c)) + (2 + bytes_of form b)) b → item_after form s t p met ≡ met + items_of b
  unfolding item_after own_items items_of
  item_is done w k = pick_true _ _ _ (count_zero s (sequence_place form s p) w.count) ∙ omega arith
  item_is (item i rest) w k = pick_false _ _ _ (count_some s (sequence_place form s p) (own_items rest) w.count) ∙ k.count (let some = some_item i in omega arith)

module _ (form : Form) (s t : List ℕ) where
  pub conditions_are : (met p : ℕ) (bs : Branches ℕ) → BranchesWritten form s p bs → BranchesKept form t met p bs → conditions_from form s t (branches_in bs) p met ≡ conditions_of bs
  unfolding BranchesWritten BranchesKept conditions_from branches_in conditions_of
  conditions_are met p none w k = refl
  conditions_are met p (branch c b rest) w k =
      rw (place_is form s t met p c b w.0 k.0, item_is form s t met p c b w.0 k.0, w.0.condition)
      (ap (λ (cs : List (List ℕ)). c ∷ cs) (conditions_are (met + items_of b) (p + (1 + span form (length c)) + (2 + bytes_of form b)) rest w.2 k.2))

  branches_here : (met p : ℕ) (bs : Branches ℕ) → met + items_under bs ≤ format.items → BranchesWritten form s p bs → BranchesKept form t met p bs → BranchesHere form s t (branches_in bs) p met
  unfolding BranchesWritten BranchesKept BranchesHere branches_in items_under
  branches_here met p none few w k = tt
  branches_here met p (branch c b rest) few w k = (
    record { condition = w.0.here; counted = w.0.there; few = omega (arith, few) },
    rw (place_is form s t met p c b w.0 k.0, item_is form s t met p c b w.0 k.0)
        (branches_here (met + items_of b) (p + (1 + span form (length c)) + (2 + bytes_of form b)) rest (omega (arith, few)) w.2 k.2),
  )

  -- EACH ITEM stands there.
  branching_here : (met p : ℕ) (bs : Branches ℕ) → met + (1 + items_under bs) ≤ format.items → Opened s p bs → BranchesWritten form s (p + 2) bs → BranchesKept form t (met + 1) (p + 2) bs → ItemHere form s t met p
  branching_here met p bs few o w k =
      record {
        there = let there = o.there in omega arith;
        few = omega (arith, few);
        branches = λ _. record { counted = o.there; branches = rw o.count (branches_here (met + 1) (p + 2) bs (omega (arith, few)) w k) };
      }

  act_here : (met p a : ℕ) → met + 1 ≤ format.items → ActWritten s p a → ItemHere form s t met p
  act_here met p a few w =
      record {
        there = w.there;
        few = omega (arith, few);
        branches = λ is. let byte = w.byte in let below = w.below in absurd (omega (arith, is, byte, below));
      }

  mutual
    unfolding items_of Written Kept items_in ItemWritten ItemKept items_under BranchesWritten BranchesKept

    sequence_here : (b : Sequence ℕ) (met : ℕ) → met + items_of b ≤ format.items → Written form s b → Kept form t met b → (j : ℕ) → met ≤ j → j < met + items_of b → ItemHere form s t j (get_or t (0 + j) 0)
    sequence_here done met few w k j from to = absurd (omega (arith, from, to))
    sequence_here (item i rest) met few w k j from to =
        by-test (ltb j (met + items_in i))
        (λ u. item_here i met (omega (arith, few)) w.0 k.0 j from (ltb-true j (met + items_in i) u))
        (λ u. sequence_here rest (met + items_in i) (omega (arith, few)) w.1 k.1 j (ltb-false j (met + items_in i) u) (omega (arith, to)))

    item_here : (i : Item ℕ) (met : ℕ) → met + items_in i ≤ format.items → ItemWritten form s i → ItemKept form t met i → (j : ℕ) → met ≤ j → j < met + items_in i → ItemHere form s t j (get_or t (0 + j) 0)
    item_here (act p a) met few w k j from to =
        let here : j ≡ met = omega (arith, from, to) in
        rw (here, k) (act_here met p a few w)
    item_here (branching p bs) met few w k j from to =
        by-test (eqb j met)
        (λ u. rw (eqb-true j met u, k.0) (branching_here met p bs few w.0 w.1 k.1))
        (λ u. let other = eqb-false j met u in branches_hold bs (met + 1) (p + 2) (omega (arith, few)) w.1 k.1 j (omega (arith, from, other)) (omega (arith, to)))

    branches_hold : (bs : Branches ℕ) (met p : ℕ) → met + items_under bs ≤ format.items → BranchesWritten form s p bs → BranchesKept form t met p bs → (j : ℕ) → met ≤ j → j < met + items_under bs → ItemHere form s t j (get_or t (0 + j) 0)
    branches_hold none met p few w k j from to = absurd (omega (arith, from, to))
    branches_hold (branch c b rest) met p few w k j from to =
        by-test (ltb j (met + items_of b))
        (λ u. sequence_here b met (omega (arith, few)) w.1 k.1 j from (ltb-true j (met + items_of b) u))
        (λ u. branches_hold rest (met + items_of b) (p + (1 + span form (length c)) + (2 + bytes_of form b)) (omega (arith, few)) w.2 k.2 j (ltb-false j (met + items_of b) u) (omega (arith, to)))

  -- A PLAN that is held.
  pub plan_here : (b : Sequence ℕ) (count : ℕ) → PlanHeld form s t b → items_of b ≡ count → ItemsHere form s t count
  plan_here b count held is =
      record {
        few = rw (sym is) held.few;
        each = λ j more. sequence_here b 0 (let few = held.few in omega arith) held.written held.kept j (omega arith) (omega (arith, more, is));
      }

  module _ (count : ℕ) where
    pub some_here : SomePlan form s t count → ItemsHere form s t count
    some_here some = plan_here some.plan count some.held some.items

  pub item_there : (count i p : ℕ) → ItemsHere form s t count → i < count → p ≡ get_or t (0 + i) 0 → ItemHere form s t i p
  item_there count i p here more e = rw e (here.each i more)
