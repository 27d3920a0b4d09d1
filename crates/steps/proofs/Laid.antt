-- The notes of a request at hand lead through the plan: by induction on the plan's tree, where a part is given what is left of the whole plan
-- from each of its items on, and what stands around and behind it. Assumes nothing.
use Prim.Native.Nat.{ℕ, ◌+◌, ◌-◌, ◌≤◌, ◌<◌}
use native.Mathlib.Omega.{arith}
use mathlib.Core.Path.{◌≡◌, refl, ◌∙◌, ap, subst}
use mathlib.Core.List.{List}
use lib.ListN.{length, get_or}
use lib.Dec.{leb, ltb}
use borrow.Author.Tests.{ltb-true, ltb-false, leb-true, leb-false, le-leb, lt-leb}
use Rattle.meaning.specs.Limits.{format}
use Rattle.meaning.specs.Requests.{Sequence, done, item, Item, act, branching, Branches, none, branch}
use Rattle.meaning.specs.Derivations.{join}
use Rattle.meaning.proofs.TestLaws.{by-test, pick_true, pick_false}
use Rattle.meaning.specs.declared.Form.{Form}
use Rattle.reading.specs.Listed as Listed
use Rattle.reading.specs.Planned.{items_of, items_in, items_under, bytes_of, place_of, following}
use Rattle.reading.specs.Noted.{item_next, plan_slot, items_slot, around_from}
use Rattle.finding.specs.PlansHeld.{Written, ItemWritten, BranchesWritten, Kept, ItemKept, BranchesKept}
use Rattle.finding.proofs.PlanHere.{some_item}
use Rattle.steps.specs.Held.{table_in, plan_in, goals_in}
use Rattle.steps.specs.AtHand.{AtHand}
use Rattle.steps.specs.Small.{Small, SmallItem, SmallUnder}
use Rattle.steps.specs.Rests.{rest_in, rest_within, rest_under, rest_at, after_first, span, onward, Nexts, InsideNexts, UnderNexts, Next, BranchesLaid, InsideLaid, ItemLaid}
use Rattle.steps.proofs.HandLaws.{sections}
use Rattle.steps.proofs.SmallActions.{plan_small}
use Rattle.steps.proofs.RestLaws.{rest_first, rest_inner, rest_later, under_here, under_later, rest_start, rest_past}

module _ (form : Form) (s t : List ℕ) (plan : Sequence ℕ) (most : items_of plan ≤ format.items) where
  -- What is left of the plan from each item from lo up to hi.
  abbrev Left : (lo hi : ℕ) → (ℕ → Sequence ℕ) → Type 0
  Left lo hi f = (i : ℕ) → lo ≤ i → i < hi → rest_at plan i ≡ f i

  -- What stands around a sequence with `met` items before it, which ends before item hi, and what is behind it.
  record Around (up met hi : ℕ) (after : Sequence ℕ) : Type 0 where
    top : up ≤ format.items → up ≡ format.items
    around : format.items < up → up < around_from + met
    within : format.items < up → hi ≤ up - around_from + span (rest_at plan (up - around_from))
    rest : onward plan up ≡ after

  around_part : (up met hi met' hi' : ℕ) (after : Sequence ℕ) → met ≤ met' → hi' ≤ hi → Around up met hi after → Around up met' hi' after
  around_part up met hi met' hi' after a b r =
      record {
        top = r.top;
        around = λ h. let c = r.around h in omega (arith, a, c);
        within = λ h. let c = r.within h in omega (arith, b, c);
        rest = r.rest;
      }

  -- The items inside a branching have it around them.
  around_inside : (p : ℕ) (bs : Branches ℕ) (met : ℕ) (after : Sequence ℕ) → rest_at plan met ≡ item (branching p bs) after → Around (around_from + met) (met + 1) (met + 1 + items_under bs) after
  unfolding onward after_first span items_in
  around_inside p bs met after this =
      let back : around_from + met - around_from ≡ met = omega arith in
      record {
        top = λ h. absurd (omega (arith, h));
        around = λ h. omega arith;
        within = λ h. rw (back, this) (omega arith);
        rest = pick_false _ _ _ (lt-leb (around_from + met) format.items (omega arith)) ∙ rw (back, this);
      }

  -- WHAT IS NEXT.
  next_laid : (x : Item ℕ) (b : Sequence ℕ) (up met : ℕ) (after : Sequence ℕ) → met + (items_in x + items_of b) ≤ items_of plan
      → get_or t (item_next + met) 0 ≡ following up (met + items_in x) b
      → Around up met (met + (items_in x + items_of b)) after
      → rest_at plan met ≡ item x (join b after)
      → Left (met + items_in x) (met + items_in x + items_of b) (λ i. rest_in b (met + items_in x) i after)
      → Next t plan met (join b after)
  unfolding following join items_of span onward
  next_laid x done up met after room slot r this left =
      let own : span (rest_at plan met) ≡ items_in x = ap span this in
      record {
        later = λ h. let end = r.top (omega (arith, h, slot)) in omega (arith, own, slot, end, room, most);
        at = λ h.
            let end = r.top (omega (arith, h, slot)) in
            rw slot (record { most = omega (arith, end); there = λ other. absurd (other end) });
        around = λ h. let low = r.around (omega (arith, h, slot)) in omega (arith, low, slot);
        within = λ h. let end = r.within (omega (arith, h, slot)) in rw slot (omega (arith, own, end));
        rest = rw slot r.rest;
      }
  next_laid x (item y b) up met after room slot r this left =
      let own : span (rest_at plan met) ≡ items_in x = ap span this in
      let some = some_item y in
      record {
        later = λ h. omega (arith, own, slot);
        at = λ h. rw slot (record { most = omega (arith, room, most); there = λ _. omega (arith, room, some) });
        around = λ h. absurd (omega (arith, h, slot, room, most));
        within = λ h. absurd (omega (arith, h, slot, room, most));
        rest = rw slot (
            pick_true _ _ _ (le-leb (met + items_in x) format.items (omega (arith, room, most)))
            ∙ left (met + items_in x) (omega arith) (omega (arith, some))
            ∙ rest_first y b (met + items_in x) after
            );
      }

  -- WHAT STANDS INSIDE.
  branches_laid : (bs : Branches ℕ) (met p : ℕ) (after : Sequence ℕ) → met + items_under bs ≤ items_of plan → BranchesKept form t met p bs
      → Left met (met + items_under bs) (λ i. rest_under bs met i after)
      → BranchesLaid form t plan met p after bs
  unfolding BranchesLaid BranchesKept items_under
  branches_laid none met p after room k left = tt
  branches_laid (branch c b bs) met p after room k left = (
    record {
      kept = k.0;
      there = λ some. omega (arith, some, room);
      rest = λ some. left met (omega arith) (omega (arith, some)) ∙ under_here c b bs met after met (omega (arith, some)) ∙ rest_start b met after some;
    },
    branches_laid bs (met + items_of b) (p + (1 + Listed.span form (length c)) + (2 + bytes_of form b)) after (omega (arith, room)) k.2
        (λ i from to. left i (omega (arith, from)) (omega (arith, to)) ∙ under_later c b bs met after i from),
  )

  inside_laid : (x : Item ℕ) (met : ℕ) (after : Sequence ℕ) → met + items_in x ≤ items_of plan → ItemKept form t met x → SmallItem x
      → Left (met + 1) (met + items_in x) (λ i. rest_within x (met + 1) i after)
      → InsideLaid form t plan met after x
  unfolding InsideLaid ItemKept SmallItem items_in rest_within
  inside_laid (act p a) met after room k small left = small
  inside_laid (branching p bs) met after room k small left =
      branches_laid bs (met + 1) (p + 2) after (omega (arith, room)) k.1 (λ i from to. left i from (omega (arith, to)))

  placed : (x : Item ℕ) (met : ℕ) → ItemKept form t met x → get_or t (0 + met) 0 ≡ place_of x
  unfolding ItemKept place_of
  placed (act p a) met k = k
  placed (branching p bs) met k = k.0

  -- EACH ITEM.
  mutual
    unfolding items_of items_in items_under Written ItemWritten BranchesWritten Kept ItemKept BranchesKept Nexts InsideNexts UnderNexts Small SmallItem SmallUnder rest_within

    laid_in : (b : Sequence ℕ) (up met : ℕ) (after : Sequence ℕ) → met + items_of b ≤ items_of plan
        → Written form s b → Kept form t met b → Nexts t up met b → Small b
        → Around up met (met + items_of b) after
        → Left met (met + items_of b) (λ i. rest_in b met i after)
        → (i : ℕ) → met ≤ i → i < met + items_of b → ItemLaid form s t plan i
    laid_in done up met after room w k n small r left i from to = absurd (omega (arith, from, to))
    laid_in (item x b) up met after room w k n small r left i from to =
        by-test (leb i met)
        (λ e.
        let here : met ≡ i = let below = leb-true i met e in omega (arith, below, from) in
        subst (ItemLaid form s t plan) here (record {
          this = x;
          after = join b after;
          rest = this;
          place = placed x met k.0;
          written = w.0;
          inside = inside_laid x met (join b after) (omega (arith, room)) k.0 small.0 inner;
          next = next_laid x b up met after room n.0 r this later;
        }))
        (λ e.
        let above = leb-false i met e in
        by-test (ltb i (met + items_in x))
        (λ f. laid_within x met (join b after) (omega (arith, room)) w.0 k.0 n.1 small.0 this inner i above (ltb-true i (met + items_in x) f))
        (λ f. laid_in b up (met + items_in x) after (omega (arith, room)) w.1 k.1 n.2 small.1
        (around_part up met (met + (items_in x + items_of b)) (met + items_in x) (met + items_in x + items_of b) after (omega arith) (omega arith) r)
        later i (ltb-false i (met + items_in x) f) (omega (arith, to))))
      where
        this : rest_at plan met ≡ item x (join b after)
        this = let some = some_item x in left met (omega arith) (omega (arith, some)) ∙ rest_first x b met after

        inner : Left (met + 1) (met + items_in x) (λ j. rest_within x (met + 1) j (join b after))
        inner j lo hi = left j (omega (arith, lo)) (omega (arith, hi)) ∙ rest_inner x b met after j (omega (arith, lo)) hi

        later : Left (met + items_in x) (met + items_in x + items_of b) (λ j. rest_in b (met + items_in x) j after)
        later j lo hi = left j (omega (arith, lo)) (omega (arith, hi)) ∙ rest_later x b met after j lo

    laid_within : (x : Item ℕ) (met : ℕ) (after : Sequence ℕ) → met + items_in x ≤ items_of plan
        → ItemWritten form s x → ItemKept form t met x → InsideNexts t met x → SmallItem x
        → rest_at plan met ≡ item x after
        → Left (met + 1) (met + items_in x) (λ i. rest_within x (met + 1) i after)
        → (i : ℕ) → met < i → i < met + items_in x → ItemLaid form s t plan i
    laid_within (act p a) met after room w k n small this left i from to = absurd (omega (arith, from, to))
    laid_within (branching p bs) met after room w k n small this left i from to =
        laid_under bs (around_from + met) (met + 1) (p + 2) after (omega (arith, room)) w.1 k.1 n small
        (around_inside p bs met after this)
        (λ j lo hi. left j lo (omega (arith, hi)))
        i (omega (arith, from)) (omega (arith, to))

    laid_under : (bs : Branches ℕ) (up met p : ℕ) (after : Sequence ℕ) → met + items_under bs ≤ items_of plan
        → BranchesWritten form s p bs → BranchesKept form t met p bs → UnderNexts t up met bs → SmallUnder bs
        → Around up met (met + items_under bs) after
        → Left met (met + items_under bs) (λ i. rest_under bs met i after)
        → (i : ℕ) → met ≤ i → i < met + items_under bs → ItemLaid form s t plan i
    laid_under none up met p after room w k n small r left i from to = absurd (omega (arith, from, to))
    laid_under (branch c b bs) up met p after room w k n small r left i from to =
        by-test (ltb i (met + items_of b))
        (λ e. laid_in b up met after (omega (arith, room)) w.1 k.1 n.0 small.0
        (around_part up met (met + (items_of b + items_under bs)) met (met + items_of b) after (omega arith) (omega arith) r)
        (λ j lo hi. left j lo (omega (arith, hi)) ∙ under_here c b bs met after j hi)
        i from (ltb-true i (met + items_of b) e))
        (λ e. laid_under bs up (met + items_of b) (p + (1 + Listed.span form (length c)) + (2 + bytes_of form b)) after (omega (arith, room)) w.2 k.2 n.1 small.1
        (around_part up met (met + (items_of b + items_under bs)) (met + items_of b) (met + items_of b + items_under bs) after (omega arith) (omega arith) r)
        (λ j lo hi. left j (omega (arith, lo)) (omega (arith, hi)) ∙ under_later c b bs met after j lo)
        i (ltb-false i (met + items_of b) e) (omega (arith, to)))

  -- The whole plan has nothing behind it.
  plan_laid : Written form s plan → Kept form t 0 plan → Nexts t format.items 0 plan → Small plan → (i : ℕ) → i < items_of plan → ItemLaid form s t plan i
  unfolding rest_at onward
  plan_laid w k n small i less =
      laid_in plan format.items 0 done (omega arith) w k n small
      (record {
        top = λ h. refl;
        around = λ h. absurd (omega (arith, h));
        within = λ h. absurd (omega (arith, h));
        rest = pick_true _ _ _ (le-leb format.items format.items (omega arith)) ∙ rest_past plan 0 format.items done (omega (arith, most));
      })
      (λ j lo hi. refl)
      i (omega arith) (omega (arith, less))

-- AT HAND.
module _ {form : Form} (s t : List ℕ) (here : AtHand form s t) where
  pub item_laid : (i : ℕ) → i < items_of (plan_in form s t) → ItemLaid form s t (plan_in form s t) i
  item_laid =
      plan_laid form s t (plan_in form s t) here.held.few here.held.written here.held.kept here.nexts
      (plan_small form (table_in form s).fluents (table_in form s).actions s (sections s t here).less (get_or t plan_slot 0) (record { value = plan_in form s t; items = get_or t items_slot 0 }) (goals_in t) here.plan)
