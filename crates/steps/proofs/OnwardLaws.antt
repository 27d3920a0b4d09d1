-- Where the walk goes on: after an item, into a branch, and what a walk from there gives. The plan is held in the input and the notes, item by item.
-- Assumes nothing.
use Prim.Native.Nat.{ℕ, ◌+◌, ◌-◌, ◌≤◌, ◌<◌}
use native.Mathlib.Omega.{arith}
use mathlib.Core.Path.{◌≡◌, refl, sym, ◌∙◌, ap, subst, fun_ext}
use mathlib.Core.Bool.{Bool, true, false, false≢true}
use mathlib.Core.List.{List}
use mathlib.Core.Logic.{inl, inr}
use lib.ListN.{length, get_or}
use mir.Syntax.{w64}
use mir.Val.{Fits}
use lib.Dec.{leb}
use borrow.Author.Tests.{le-leb, lt-leb, leb-true, leb-false}
use Rattle.std.specs.Prelude.{Option, None, Some}
use Rattle.meaning.specs.Tests.{each_of}
use Rattle.meaning.specs.Limits.{format, all_literals}
use Rattle.meaning.specs.Requests.{Sequence, done, item, Item, act, branching, Branches, none, branch}
use Rattle.meaning.specs.Derivations.{join}
use Rattle.meaning.specs.States.{State}
use Rattle.meaning.specs.Walk.{Walked, Steps, unless_broken, meet, run_action, walk, walk_item, walk_branch}
use Rattle.meaning.proofs.TestLaws.{by-test, clash, pick_true, pick_false}
use Rattle.reading.specs.Listed as Listed
use Rattle.reading.specs.Listed.{listed, ListHere, ValuesHere, listed_as, LiteralsHere, holds_as}
use Rattle.reading.specs.declared.marks.Test.TheVariants.{Known}
use Rattle.meaning.specs.Reading.{literals_in}
use Rattle.meaning.specs.ValueStates as Value
use Rattle.meaning.specs.declared.Form.TheVariants.{Flags, Valued}
use Rattle.meaning.specs.declared.Form.{Form}
use Rattle.reading.specs.Planned.{items_of, bytes_of, place_of}
use Rattle.reading.specs.Noted.{item_next, slots, around_from}
use Rattle.finding.specs.PlansHeld.{own_items, branches_in, ItemWritten, BranchesWritten}
use Rattle.finding.specs.Branches.{sequence_place, no_item, place_after, item_after, BranchHere, BranchesHere, ItemHere}
use Rattle.finding.proofs.ByBranch.{branch_first, condition_first, branches_next}
use Rattle.finding.proofs.PlanHere.{count_zero, count_some, some_item, place_is, item_is, plan_here}
use Rattle.steps.specs.Held.{plan_in}
use Rattle.steps.specs.AtHand.{AtHand}
use Rattle.steps.specs.Rests.{rest_at, after_first, span, onward, Position, BranchesLaid, InsideLaid, ItemLaid}
use Rattle.steps.specs.Steps.{knows_as, step_in, judged_in, walk_from, walk_after, met_from, Followed, Into, going_on, Takes, Taken, TakesNone, Untaken, Chosen}
use Rattle.steps.proofs.HandLaws.{few_items}
use Rattle.steps.proofs.RestLaws.{rest_past}
use Rattle.steps.proofs.Laid.{item_laid}

-- THE WALK of one sequence after another.
module _ {S L : Type 0} (step : Steps S L) where
  pub walk_join : (p q : Sequence L) (k : S → Walked S) (s : S) → walk step (join p q) k s ≡ walk step p (walk step q k) s
  unfolding walk join
  walk_join done q k s = refl
  walk_join (item x p) q k s = ap (λ (j : S → Walked S). walk_item step x j s) (fun_ext (walk_join p q k))

-- THE PLAN is held.
module _ {form : Form} (s t : List ℕ) (here : AtHand form s t) where
  -- AN ITEM of it.
  module _ (i : ℕ) (less : i < items_of (plan_in form s t)) where
    pub item_there : ItemHere form s t i (get_or t (0 + i) 0)
    item_there = (plan_here form s t (plan_in form s t) (items_of (plan_in form s t)) here.held refl).each i less

    laid : ItemLaid form s t (plan_in form s t) i
    laid = item_laid s t here i less

    after_is : after_first (rest_at (plan_in form s t) i) ≡ laid.after
    unfolding after_first
    after_is = rw laid.rest

    span_some : 0 < span (rest_at (plan_in form s t) i)
    unfolding span
    span_some = rw laid.rest (some_item laid.this)

-- AFTER AN ITEM. What the notes have leads on to what is left after item i.
module _ (b : Sequence ℕ) (at : ℕ) where
  onward_item : at ≤ format.items → onward b at ≡ rest_at b at
  unfolding onward
  onward_item h = pick_true _ _ _ (le-leb at format.items h)

  onward_around : format.items < at → onward b at ≡ after_first (rest_at b (at - around_from))
  unfolding onward
  onward_around h = pick_false _ _ _ (lt-leb at format.items h)

pub record Going (form : Form) (s t : List ℕ) (i at : ℕ) : Type 0 where
  pub later : at ≤ format.items → i < at
  pub position : at ≤ format.items → Position (plan_in form s t) at
  pub inside : format.items < at → at - around_from < items_of (plan_in form s t)
  pub within : format.items < at → i < at - around_from + span (rest_at (plan_in form s t) (at - around_from))
  pub rest : onward (plan_in form s t) at ≡ after_first (rest_at (plan_in form s t) i)

module _ {form : Form} (s t : List ℕ) (here : AtHand form s t) (i : ℕ) where
  module _ (less : i < items_of (plan_in form s t)) where
    pub slot_fits : Fits w64 (format.items + i)
    slot_fits = let few = few_items s t here in record { fits = omega (arith, less, few) }

    pub slot_there : format.items + i < slots
    slot_there = let few = few_items s t here in omega (arith, less, few)

    going_starts : (at : ℕ) → at ≡ get_or t (item_next + i) 0 → Going form s t i at
    going_starts at is =
        let some = span_some s t here i less in
        let on = (laid s t here i less).next in
        rw is
        (record {
          later = λ h. let past = on.later h in omega (arith, past, some);
          position = on.at;
          inside = λ h. let around = on.around h in omega (arith, less, around, h);
          within = λ h. let past = on.within h in omega (arith, past, some);
          rest = on.rest ∙ sym (after_is s t here i less);
        })

  module _ (at : ℕ) (going : Going form s t i at) where
    goes_there : at ≤ format.items → Followed form s t i at
    goes_there h = record { later = going.later h; at = going.position h; rest = sym (onward_item (plan_in form s t) at h) ∙ going.rest }

    module _ (more : format.items < at) where
      around_fits : Fits w64 (format.items + (at - around_from))
      around_fits = let few = few_items s t here in let inside = going.inside more in record { fits = omega (arith, inside, few) }

      around_there : format.items + (at - around_from) < slots
      around_there = let few = few_items s t here in let inside = going.inside more in omega (arith, inside, few)

      module _ (next : ℕ) (is : next ≡ get_or t (item_next + (at - around_from)) 0) where
        going_less : next < at
        going_less =
            let on = (laid s t here (at - around_from) (going.inside more)).next in
            by-test (leb next format.items)
            (λ u. let small = leb-true next format.items u in omega (arith, small, more))
            (λ u. let large = leb-false next format.items u in let around = on.around (subst (λ (n : ℕ). format.items < n) is large) in omega (arith, around, is, more))

        going_on_around : Going form s t i next
        going_on_around =
            let inside = going.inside more in
            let within = going.within more in
            let on = (laid s t here (at - around_from) inside).next in
            rw is
            (record {
              later = λ h. let past = on.later h in omega (arith, past, within);
              position = on.at;
              inside = λ h. let around = on.around h in omega (arith, inside, around, h);
              within = λ h. let past = on.within h in omega (arith, past, within);
              rest = on.rest ∙ sym (after_is s t here (at - around_from) inside) ∙ sym (onward_around (plan_in form s t) at more) ∙ going.rest;
            })

-- The same whatever form the request has: what the code looks for does not depend on it.
pub record Goes (s t : List ℕ) (i at : ℕ) : Type 0 where
  pub each : (form : Form) → AtHand form s t → i < items_of (plan_in form s t) → Going form s t i at

pub goes_starts : (s t : List ℕ) (i at : ℕ) → at ≡ get_or t (item_next + i) 0 → Goes s t i at
goes_starts s t i at is = record { each = λ form here less. going_starts s t here i less at is }

module _ {form : Form} (s t : List ℕ) (here : AtHand form s t) (i : ℕ) (less : i < items_of (plan_in form s t)) (at : ℕ) (goes : Goes s t i at) where
  pub goes_to : at ≤ format.items → Followed form s t i at
  goes_to h = goes_there s t here i at (goes.each form here less) h

  module _ (more : format.items < at) where
    pub goes_fits : Fits w64 (format.items + (at - around_from))
    goes_fits = around_fits s t here i at (goes.each form here less) more

    pub goes_inside : format.items + (at - around_from) < slots
    goes_inside = around_there s t here i at (goes.each form here less) more

    pub goes_less : (next : ℕ) → next ≡ get_or t (item_next + (at - around_from)) 0 → next < at
    goes_less next is = going_less s t here i at (goes.each form here less) more next is

pub goes_around : (s t : List ℕ) (i at : ℕ) → Goes s t i at → format.items < at → (next : ℕ) → next ≡ get_or t (item_next + (at - around_from)) 0 → Goes s t i next
goes_around s t i at goes more next is = record { each = λ form here less. going_on_around s t here i at (goes.each form here less) more next is }

-- INTO A BRANCH whose sequence has an item, or none.
module _ (form : Form) (s t : List ℕ) (i p met q : ℕ) (at : q ≡ sequence_place form s p) (empty : Bool) (tested : empty ≡ no_item s q) where
  tested_there : no_item s (sequence_place form s p) ≡ empty
  tested_there = sym (tested ∙ ap (no_item s) at)

  pub into_empty : empty ≡ true → (r : ℕ) → Followed form s t i r → Into form s t i p met r
  into_empty e r follows = record { empty = λ _. follows; other = λ some. clash (tested_there ∙ e) some }

  pub into_item : empty ≡ false → Into form s t i p met met
  into_item e = record { empty = λ bare. clash bare (tested_there ∙ e); other = λ _. refl }

-- A CONDITION of either form.
pub flags_listed : (form : Form) (s : List ℕ) (p : ℕ) → form ≡ Flags → LiteralsHere form s p → ListHere all_literals s p
flags_listed form s p is here = subst (λ (f : Form). LiteralsHere f s p) is here

pub values_listed : (form : Form) (s : List ℕ) (p : ℕ) → form ≡ Valued → LiteralsHere form s p → ValuesHere s p
values_listed form s p is here = subst (λ (f : Form). LiteralsHere f s p) is here

pub flags_known : (form : Form) (s : List ℕ) (marks : State) (p : ℕ) (r : Bool) → form ≡ Flags → r ≡ each_of (holds_as Known marks) (listed s p) → r ≡ each_of (knows_as form s marks) (listed_as form s p)
unfolding holds_as
flags_known form s marks p r is e = rw is e

pub values_known : (form : Form) (s : List ℕ) (marks : State) (p : ℕ) (r : Bool) → form ≡ Valued → r ≡ each_of (Value.known (literals_in s) marks) (listed_as Valued s p) → r ≡ each_of (knows_as form s marks) (listed_as form s p)
values_known form s marks p r is e = rw is e

-- WHERE A BRANCHING GOES ON. Its walk is the walk by these branches, and then by what is after it.
abbrev pub WalksBy : Form → (s t : List ℕ) (i : ℕ) → State → Sequence ℕ → Branches ℕ → Type 0
WalksBy form s t i marks after branches =
    walk_from form s t i marks ≡ walk_branch (step_in form s t) branches (get_or t (0 + i) 0) (walk (step_in form s t) after (judged_in form s t)) marks

-- A branch that these take is the chosen one of the branching, and what is left then is that branch joined with what is after.
abbrev pub Leaves : Form → (s t : List ℕ) (i : ℕ) → State → Sequence ℕ → Branches ℕ → Type 0
Leaves form s t i marks after branches = (b : Sequence ℕ) → Takes (knows_as form s) marks branches b → Taken (knows_as form s) marks (rest_at (plan_in form s t) i) (join b after)

-- Where these take none, the branching takes none.
abbrev pub Stays : Form → (s t : List ℕ) (i : ℕ) → State → Branches ℕ → Type 0
Stays form s t i marks branches = TakesNone (knows_as form s) marks branches → Untaken (knows_as form s) marks (rest_at (plan_in form s t) i)

-- None of the branches before p has a condition known true; those from there on are `branches`.
pub record Choosing (form : Form) (s t : List ℕ) (i : ℕ) (marks : State) (left p met : ℕ) : Type 0 where
  pub branches : Branches ℕ
  pub after : Sequence ℕ
  pub here : BranchesHere form s t left p met
  pub count : left ≡ branches_in branches
  pub written : BranchesWritten form s p branches
  pub laid : BranchesLaid form t (plan_in form s t) met p after branches
  pub beyond : i < met
  pub follows : after_first (rest_at (plan_in form s t) i) ≡ after
  pub goes : WalksBy form s t i marks after branches
  pub leaves : Leaves form s t i marks after branches
  pub stays : Stays form s t i marks branches

module _ {form : Form} (s t : List ℕ) (here : AtHand form s t) (i : ℕ) (less : i < items_of (plan_in form s t)) where
  pub place_fits : Fits w64 (0 + i)
  place_fits = let few = few_items s t here in record { fits = omega (arith, less, few) }

  pub place_there : 0 + i < slots
  place_there = let few = few_items s t here in omega (arith, less, few)

  pub first_item_fits : Fits w64 (i + 1)
  first_item_fits = let few = few_items s t here in record { fits = omega (arith, less, few) }

  module _ (is : get_or s (get_or t (0 + i) 0) 0 ≡ 255) where
    counted_there : get_or t (0 + i) 0 + 1 < length s
    counted_there = ((item_there s t here i less).branches is).counted

    module _ (start : ℕ) (starts : start ≡ get_or t (0 + i) 0) where
      pub second_there : start + 1 < length s
      second_there = rw starts counted_there

      pub second_fits : Fits w64 (length s) → Fits w64 (start + 1)
      second_fits room = let there = second_there in let most = room.fits in record { fits = omega arith }

      pub first_fits : Fits w64 (length s) → Fits w64 (start + 2)
      first_fits room = let there = second_there in let most = room.fits in record { fits = omega arith }

    module _ (marks : State) where
      opened : (this : Item ℕ) (after : Sequence ℕ) → rest_at (plan_in form s t) i ≡ item this after → get_or t (0 + i) 0 ≡ place_of this → ItemWritten form s this → InsideLaid form t (plan_in form s t) i after this
          → Choosing form s t i marks (get_or s (get_or t (0 + i) 0 + 1) 0) (get_or t (0 + i) 0 + 2) (i + 1)
      unfolding place_of ItemWritten InsideLaid after_first walk walk_from
      opened (act p a) after rest place w inside =
          let byte = w.byte in let below = w.below in
          let there : get_or s p 0 ≡ 255 = subst (λ (n : ℕ). get_or s n 0 ≡ 255) place is in
          absurd (omega (arith, there, byte, below))
      opened (branching p bs) after rest place w inside =
          record {
            branches = bs;
            after = after;
            here = ((item_there s t here i less).branches is).branches;
            count = rw place w.0.count;
            written = rw place w.1;
            laid = rw place inside;
            beyond = omega arith;
            follows = rw rest;
            goes = rw (rest, place);
            leaves = λ b takes. record { place = p; branches = bs; after = after; chosen = b; is = rest; takes = takes; rest = refl };
            stays = λ none_here. record { place = p; branches = bs; after = after; is = rest; none = none_here };
          }

      pub choosing_starts : (start x : ℕ) → start ≡ get_or t (0 + i) 0 → x ≡ get_or s (start + 1) 0 → Choosing form s t i marks (x - 0) (start + 2) (i + 1)
      choosing_starts start x starts counted =
          let l = laid s t here i less in
          let all : x - 0 ≡ x = omega arith in
          rw (all, counted, starts) (opened l.this l.after l.rest l.place l.written l.inside)

AtSame : (a b : ℕ) → Some a ≡ Some b → a ≡ b
AtSame a b e = ap (λ (r : Option ℕ). elim r [ None ↦ 0 | Some p ↦ p ]) e

None≢Some : (a : ℕ) → None ≡ Some a → ⊥
None≢Some a e = false≢true (ap (λ (r : Option ℕ). elim r [ None ↦ false | Some p ↦ true ]) e)

module _ {form : Form} (s t : List ℕ) (i : ℕ) (marks : State) where
  chosen_there : (r : ℕ) → walk_from form s t i marks ≡ walk_from form s t r marks → Taken (knows_as form s) marks (rest_at (plan_in form s t) i) (rest_at (plan_in form s t) r) → i < r → Position (plan_in form s t) r
      → Chosen form s t i marks (Some r)
  unfolding going_on
  chosen_there r goes taken later position =
      record {
        goes = goes;
        takes = λ at e. subst (λ (n : ℕ). Taken (knows_as form s) marks (rest_at (plan_in form s t) i) (rest_at (plan_in form s t) n)) (AtSame r at e) taken;
        stays = λ e. absurd (None≢Some r (sym e));
        later = λ at e. subst (λ (n : ℕ). i < n) (AtSame r at e) later;
        at = λ at e. subst (Position (plan_in form s t)) (AtSame r at e) position;
      }

  module _ (left p met : ℕ) (choosing : Choosing form s t i marks left p met) where
    module _ (more : 0 < left) (known-here : Bool) (tested : known-here ≡ each_of (knows_as form s marks) (listed_as form s p)) where
      condition_is : (c : List ℕ) → listed_as form s p ≡ c → each_of (knows_as form s marks) c ≡ known-here
      condition_is c e = rw (tested, sym e)

      left_next : known-here ≡ false → (q j : ℕ) → q ≡ place_after form s t p met → j ≡ item_after form s t p met → Choosing form s t i marks (left - 1) q j
      unfolding branches_in BranchesWritten BranchesLaid walk_branch step_in Takes TakesNone
      left_next fails q j placed counted = step choosing.branches choosing.count choosing.written choosing.laid choosing.goes choosing.leaves choosing.stays
        where
          step : (bs : Branches ℕ) → left ≡ branches_in bs → BranchesWritten form s p bs → BranchesLaid form t (plan_in form s t) met p choosing.after bs
              → WalksBy form s t i marks choosing.after bs → Leaves form s t i marks choosing.after bs → Stays form s t i marks bs
              → Choosing form s t i marks (left - 1) q j
          step none count w l goes leaves stays = absurd (omega (arith, more, count))
          step (branch c d bs) count w l goes leaves stays =
              let no : each_of (knows_as form s marks) c ≡ false = condition_is c w.0.condition ∙ fails in
              let there : q ≡ p + (1 + Listed.span form (length c)) + (2 + bytes_of form d) = placed ∙ place_is form s t met p c d w.0 l.0.kept in
              let items : j ≡ met + items_of d = counted ∙ item_is form s t met p c d w.0 l.0.kept in
              let beyond = choosing.beyond in
              record {
                branches = bs;
                after = choosing.after;
                here = branches_next form s t left p met more choosing.here q j placed counted;
                count = omega (arith, count);
                written = rw there w.2;
                laid = rw (there, items) l.1;
                beyond = omega (arith, items, beyond);
                follows = choosing.follows;
                goes = goes ∙ pick_false _ _ _ no;
                leaves = λ b takes. leaves b (inr (no, takes));
                stays = λ none_here. stays (no, none_here);
              }

      left_at : known-here ≡ true → (r : ℕ) → Into form s t i p met r → Chosen form s t i marks (Some r)
      unfolding branches_in BranchesWritten BranchesLaid walk_branch step_in walk_from own_items items_of join Takes
      left_at holds r into = by_branch choosing.branches choosing.count choosing.written choosing.laid choosing.goes choosing.leaves
        where
          by_branch : (bs : Branches ℕ) → left ≡ branches_in bs → BranchesWritten form s p bs → BranchesLaid form t (plan_in form s t) met p choosing.after bs
              → WalksBy form s t i marks choosing.after bs → Leaves form s t i marks choosing.after bs
              → Chosen form s t i marks (Some r)
          by_branch none count w l goes leaves = absurd (omega (arith, more, count))
          by_branch (branch c done bs) count w l goes leaves =
              let follows = into.empty (count_zero s (sequence_place form s p) w.0.count) in
              let yes_here : each_of (knows_as form s marks) c ≡ true = condition_is c w.0.condition ∙ holds in
              let same : rest_at (plan_in form s t) r ≡ choosing.after = follows.rest ∙ choosing.follows in
              chosen_there r
              (goes ∙ pick_true _ _ _ yes_here ∙ rw same)
              (subst (Taken (knows_as form s) marks (rest_at (plan_in form s t) i)) (sym same) (leaves done (inl (yes_here, refl))))
              follows.later
              follows.at
          by_branch (branch c (item x d) bs) count w l goes leaves =
              let first : r ≡ met = into.other (count_some s (sequence_place form s p) (own_items d) w.0.count) in
              let some : 0 < items_of (item x d) = let one = some_item x in omega (arith, one) in
              let beyond = choosing.beyond in
              let yes_here : each_of (knows_as form s marks) c ≡ true = condition_is c w.0.condition ∙ holds in
              rw first
              (chosen_there met
              (goes
              ∙ pick_true _ _ _ yes_here
              ∙ sym (walk_join (step_in form s t) (item x d) choosing.after (judged_in form s t) marks)
              ∙ rw (l.0.rest some))
              (subst (Taken (knows_as form s) marks (rest_at (plan_in form s t) i)) (sym (l.0.rest some)) (leaves (item x d) (inl (yes_here, refl))))
              beyond
              (record { most = (branch_first form s t left p met more choosing.here).few; there = λ _. l.0.there some }))

    left_none : left ≤ 0 → Chosen form s t i marks None
    unfolding branches_in walk_branch going_on TakesNone
    left_none over = record { goes = by_branch choosing.branches choosing.count choosing.goes; takes = λ at e. absurd (None≢Some at e); stays = λ _. untaken choosing.branches choosing.count choosing.stays; later = λ at e. absurd (None≢Some at e); at = λ at e. absurd (None≢Some at e) }
      where
        by_branch : (bs : Branches ℕ) → left ≡ branches_in bs
            → WalksBy form s t i marks choosing.after bs
            → walk_from form s t i marks ≡ going_on form s t (get_or t (0 + i) 0) marks None
        by_branch none count goes = goes
        by_branch (branch c d bs) count goes = absurd (omega (arith, over, count))

        untaken : (bs : Branches ℕ) → left ≡ branches_in bs → Stays form s t i marks bs → Untaken (knows_as form s) marks (rest_at (plan_in form s t) i)
        untaken none count stays = stays tt
        untaken (branch c d bs) count stays = absurd (omega (arith, over, count))

  -- The same of n branches, of which k are before p.
  module _ (n k p met : ℕ) (choosing : Choosing form s t i marks (n - k) p met) where
    pub chosen_none : n ≤ k → Chosen form s t i marks None
    chosen_none over = left_none (n - k) p met choosing (omega arith)

    module _ (more : k < n) where
      some_left : 0 < n - k
      some_left = omega arith

      pub choosing_branch : BranchHere form s p met
      choosing_branch = branch_first form s t (n - k) p met some_left choosing.here

      pub choosing_condition : LiteralsHere form s p
      choosing_condition = condition_first form s t (n - k) p met some_left choosing.here

      module _ (known-here : Bool) (tested : known-here ≡ each_of (knows_as form s marks) (listed_as form s p)) where
        pub choosing_next : known-here ≡ false → (q j : ℕ) → q ≡ place_after form s t p met → j ≡ item_after form s t p met → Choosing form s t i marks (n - (k + 1)) q j
        choosing_next fails q j placed counted =
            let less : n - (k + 1) ≡ n - k - 1 = omega arith in
            rw less (left_next (n - k) p met choosing some_left known-here tested fails q j placed counted)

        pub chosen_at : known-here ≡ true → (r : ℕ) → Into form s t i p met r → Chosen form s t i marks (Some r)
        chosen_at holds r into = left_at (n - k) p met choosing some_left known-here tested holds r into

-- FROM A POSITION. Nothing is left from the plan's end on.
module _ {form : Form} (s t : List ℕ) (here : AtHand form s t) where
  pub end_judged : (marks : State) → walk_from form s t format.items marks ≡ judged_in form s t marks
  unfolding walk_from rest_at walk
  end_judged marks = let few = few_items s t here in rw (rest_past (plan_in form s t) 0 format.items done (omega (arith, few)))

  module _ (i : ℕ) (less : i < items_of (plan_in form s t)) (p : ℕ) (is : p ≡ get_or t (0 + i) 0) where
    pub item_inside : p < length s
    item_inside = rw is (item_there s t here i less).there

    module _ (other : get_or s p 0 ≡ 255 → ⊥) where
      AnAct : Type 0
      AnAct = (after : Sequence ℕ) × (rest_at (plan_in form s t) i ≡ item (act p (get_or s p 0)) after) × (get_or s p 0 < format.actions)

      an_act : (this : Item ℕ) (after : Sequence ℕ) → rest_at (plan_in form s t) i ≡ item this after → get_or t (0 + i) 0 ≡ place_of this → ItemWritten form s this → InsideLaid form t (plan_in form s t) i after this → AnAct
      unfolding place_of ItemWritten InsideLaid AnAct
      an_act (act q a) after rest place w inside =
          let at : p ≡ q = is ∙ place in
          let byte : get_or s p 0 ≡ a = ap (λ (n : ℕ). get_or s n 0) at ∙ w.byte in
          (after, rest ∙ rw (byte, at), rw byte inside)
      an_act (branching q bs) after rest place w inside =
          absurd (other (ap (λ (n : ℕ). get_or s n 0) (is ∙ place) ∙ w.0.byte))

      the_act : AnAct
      the_act = let l = laid s t here i less in an_act l.this l.after l.rest l.place l.written l.inside

      module _ (a : ℕ) (byte : a ≡ get_or s p 0) where
        pub action_small : a < format.actions
        unfolding AnAct
        action_small = rw byte the_act.2

        pub action_left : rest_at (plan_in form s t) i ≡ item (act p a) (after_first (rest_at (plan_in form s t) i))
        unfolding AnAct after_first
        action_left = rw (the_act.1, byte)

        pub action_walked : (marks : State) → walk_from form s t i marks ≡ run_action (step_in form s t) p a (walk_after form s t i) marks
        unfolding AnAct walk_from walk_after walk after_first
        action_walked marks = rw (the_act.1, byte)

-- From the position after an item on, what follows the item is walked.
pub followed_walks : {form : Form} (s t : List ℕ) (i r : ℕ) → Followed form s t i r → (marks : State) → walk_after form s t i marks ≡ walk_from form s t r marks
unfolding walk_from walk_after
followed_walks {form} s t i r follows marks = rw follows.rest

pub followed_met : {form : Form} (s t : List ℕ) (i r : ℕ) → Followed form s t i r → (marks : State) → meet (step_in form s t) (walk_after form s t i) marks ≡ met_from form s t r marks
followed_met {form} s t i r follows marks = ap (unless_broken ((step_in form s t).lacks marks) marks) (followed_walks s t i r follows marks)
