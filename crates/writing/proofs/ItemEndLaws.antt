-- Where an item ends: behind its byte, or behind the last of its branches, each of which ends where the notes say. Assumes nothing.
use Prim.Native.Nat.{ℕ, ◌+◌, ◌-◌, ◌≤◌, ◌<◌}
use native.Mathlib.Omega.{arith}
use mathlib.Core.Path.{◌≡◌, ◌∙◌, ap, subst}
use mathlib.Core.List.{List}
use lib.ListN.{length, get_or}
use mir.Syntax.{w64}
use mir.Val.{Fits}
use Rattle.meaning.specs.Requests.{Sequence, Item, act, branching, Branches, none, branch}
use Rattle.meaning.specs.Layouts.{item_written}
use Rattle.meaning.proofs.MovedReads.{stands_length, stands_inside}
use Rattle.meaning.specs.declared.Form.TheVariants.{Flags}
use Rattle.reading.specs.Noted.{item_place, items_slot, plan_slot}
use Rattle.reading.specs.Planned.{items_of, bytes_of, bytes_in, bytes_under, place_of}
use Rattle.finding.specs.PlansHeld.{branches_in, ItemWritten, BranchesWritten}
use Rattle.finding.specs.Branches.{place_after, item_after, BranchHere, BranchesHere}
use Rattle.finding.proofs.ByBranch.{branch_first, branches_next}
use Rattle.finding.proofs.PlanHere.{place_is, item_is}
use Rattle.steps.specs.Held.{table_in, plan_in, goals_in}
use Rattle.steps.specs.AtHand.{AtHand}
use Rattle.steps.specs.Rests.{BranchesLaid, InsideLaid, ItemLaid}
use Rattle.steps.proofs.Laid.{item_laid}
use Rattle.steps.proofs.OnwardLaws.{item_there}
use Rattle.writing.specs.Ends.{ItemEnds}
use Rattle.writing.proofs.ItemStands.{ItemStands, item_length, stands_taken, each_stands, on_first}

-- AN ITEM of a plan at hand.
module _ (s t : List ℕ) (here : AtHand Flags s t) (i : ℕ) (less : i < items_of (plan_in Flags s t)) where
  pub laid : ItemLaid Flags s t (plan_in Flags s t) i
  laid = item_laid s t here i less

  this_stands : ItemStands s laid.this
  this_stands =
      on_first (ItemStands s) (plan_in Flags s t)
      (each_stands (table_in Flags s).fluents (table_in Flags s).actions s here.bytes (get_or t plan_slot 0) (record { value = plan_in Flags s t; items = get_or t items_slot 0 }) (goals_in t) here.plan)
      i laid.this laid.after laid.rest

  pub start_there : get_or t (item_place + i) 0 < length s
  start_there = (item_there s t here i less).there

  -- It ends so many bytes behind its place.
  pub ends_behind : (end : ℕ) → end ≡ get_or t (item_place + i) 0 + bytes_in Flags laid.this → ItemEnds s t i end
  ends_behind end is =
      let at = laid.place in
      let stands = this_stands in
      let long = item_length laid.this in
      let after = stands_length s (place_of laid.this) (item_written laid.this) stands.end stands.bytes in
      let there = start_there in
      let inside = stands_inside s (place_of laid.this) (item_written laid.this) stands.end (omega (arith, at, there)) stands.bytes in
      record {
        this = laid.this;
        after = laid.after;
        rest = laid.rest;
        ends = omega (arith, is, long);
        within = omega (arith, is, long, at, after, inside);
        bytes = rw at (stands_taken s (place_of laid.this) (item_written laid.this) stands.end stands.bytes);
      }

-- THE BRANCHES from p on are left, with `met` items before them; an end behind them is the item's.
pub record Ending (s t : List ℕ) (i left p met : ℕ) : Type 0 where
  pub branches : Branches ℕ
  pub after : Sequence ℕ
  pub here : BranchesHere Flags s t left p met
  pub count : left ≡ branches_in branches
  pub written : BranchesWritten Flags s p branches
  pub laid : BranchesLaid Flags t (plan_in Flags s t) met p after branches
  pub ends : (end : ℕ) → end ≡ p + bytes_under Flags branches → ItemEnds s t i end

module _ (s t : List ℕ) (here : AtHand Flags s t) (i : ℕ) (less : i < items_of (plan_in Flags s t)) (start : ℕ) (starts : start ≡ get_or t (0 + i) 0) where
  pub first_there : start < length s
  first_there = rw starts (start_there s t here i less)

  pub next_fits : Fits w64 (length s) → Fits w64 (start + 1)
  next_fits room = let there = first_there in let most = room.fits in record { fits = omega (arith, there, most) }

  -- An action has one byte.
  pub action_ends : (get_or s start 0 ≡ 255 → ⊥) → ItemEnds s t i (start + 1)
  unfolding place_of bytes_in ItemWritten
  action_ends other = let l = laid s t here i less in ends_behind s t here i less (start + 1) (by_item l.this l.place l.written)
    where
      by_item : (this : Item ℕ) → get_or t (0 + i) 0 ≡ place_of this → ItemWritten Flags s this → start + 1 ≡ get_or t (0 + i) 0 + bytes_in Flags this
      by_item (act p a) place w = omega (arith, starts)
      by_item (branching p bs) place w = absurd (other (ap (λ (n : ℕ). get_or s n 0) (starts ∙ place) ∙ w.0.byte))

  module _ (is : get_or s start 0 ≡ 255) where
    opens_there : get_or s (get_or t (0 + i) 0) 0 ≡ 255
    opens_there = subst (λ (n : ℕ). get_or s n 0 ≡ 255) starts is

    pub count_there : start + 1 < length s
    count_there = rw starts ((item_there s t here i less).branches opens_there).counted

    pub second_fits : Fits w64 (length s) → Fits w64 (start + 2)
    second_fits room = let there = count_there in let most = room.fits in record { fits = omega (arith, there, most) }

    pub ending_starts : Ending s t i (get_or s (start + 1) 0 - 0) (start + 2) (i + 1)
    unfolding place_of bytes_in ItemWritten InsideLaid
    ending_starts =
        let l = laid s t here i less in
        let all : get_or s (start + 1) 0 - 0 ≡ get_or s (start + 1) 0 = omega arith in
        rw (all, starts) (by_item l.this l.after l.place l.written l.inside (ends_behind s t here i less))
      where
        by_item : (this : Item ℕ) (after : Sequence ℕ) → get_or t (0 + i) 0 ≡ place_of this → ItemWritten Flags s this → InsideLaid Flags t (plan_in Flags s t) i after this
            → ((end : ℕ) → end ≡ get_or t (0 + i) 0 + bytes_in Flags this → ItemEnds s t i end)
            → Ending s t i (get_or s (get_or t (0 + i) 0 + 1) 0) (get_or t (0 + i) 0 + 2) (i + 1)
        by_item (act p a) after place w inside ends =
            let byte = w.byte in let below = w.below in
            let there : get_or s p 0 ≡ 255 = subst (λ (n : ℕ). get_or s n 0 ≡ 255) place opens_there in
            absurd (omega (arith, there, byte, below))
        by_item (branching p bs) after place w inside ends = record {
          branches = bs;
          after = after;
          here = ((item_there s t here i less).branches opens_there).branches;
          count = rw place w.0.count;
          written = rw place w.1;
          laid = rw place inside;
          ends = λ end e. ends end (omega (arith, e));
        }

-- So many of the branches are passed.
module _ (s t : List ℕ) (i count passed p met : ℕ) (ending : Ending s t i (count - passed) p met) where
  pub ended : count ≤ passed → ItemEnds s t i p
  unfolding branches_in bytes_under
  ended over = by_branch ending.branches ending.count ending.ends
    where
      by_branch : (bs : Branches ℕ) → count - passed ≡ branches_in bs → ((end : ℕ) → end ≡ p + bytes_under Flags bs → ItemEnds s t i end) → ItemEnds s t i p
      by_branch none none_left ends = ends p (omega arith)
      by_branch (branch c d bs) some_left ends = absurd (omega (arith, over, some_left))

  module _ (more : passed < count) where
    some : 0 < count - passed
    some = omega (arith, more)

    pub branch_there : BranchHere Flags s p met
    branch_there = branch_first Flags s t (count - passed) p met some ending.here

    pub ending_next : (q j : ℕ) → q ≡ place_after Flags s t p met → j ≡ item_after Flags s t p met → Ending s t i (count - (passed + 1)) q j
    unfolding branches_in bytes_under BranchesWritten BranchesLaid
    ending_next q j placed counted = by_branch ending.branches ending.count ending.written ending.laid ending.ends
      where
        by_branch : (bs : Branches ℕ) → count - passed ≡ branches_in bs → BranchesWritten Flags s p bs → BranchesLaid Flags t (plan_in Flags s t) met p ending.after bs
            → ((end : ℕ) → end ≡ p + bytes_under Flags bs → ItemEnds s t i end) → Ending s t i (count - (passed + 1)) q j
        by_branch none none_left w l ends = absurd (omega (arith, more, none_left))
        by_branch (branch c d bs) some_left w l ends =
            let there : q ≡ p + (1 + length c) + (2 + bytes_of Flags d) = placed ∙ place_is Flags s t met p c d w.0 l.0.kept in
            let items : j ≡ met + items_of d = counted ∙ item_is Flags s t met p c d w.0 l.0.kept in
            let less : count - passed - 1 ≡ count - (passed + 1) = omega arith in
            record {
              branches = bs;
              after = ending.after;
              here = subst (λ (n : ℕ). BranchesHere Flags s t n q j) less (branches_next Flags s t (count - passed) p met some ending.here q j placed counted);
              count = omega (arith, some_left);
              written = rw there w.2;
              laid = rw (there, items) l.1;
              ends = λ end e. ends end (omega (arith, e, there));
            }
