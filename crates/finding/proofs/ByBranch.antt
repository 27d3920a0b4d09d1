-- From a branch to the next one: a law for each return, and what is left after the first branch. Assumes nothing.
use Prim.Native.Nat.{ℕ, zero, suc, ◌+◌, ◌-◌, ◌*◌, ◌≤◌, ◌<◌}
use native.Mathlib.Omega.{arith}
use mathlib.Core.Path.{◌≡◌, refl, sym, ◌∙◌, ap}
use mathlib.Core.Bool.{Bool, true, false}
use mathlib.Core.List.{List, [], ◌∷◌}
use lib.ListN.{length, get_or}
use mir.Syntax.{w64}
use mir.Val.{Fits}
use lib.Dec.{eqb}
use borrow.Author.Tests.{eq-eqb, ne_eqb}
use Rattle.meaning.specs.Tests.{both}
use Rattle.meaning.specs.declared.Form.{Form}
use Rattle.meaning.specs.declared.Form.TheVariants.{Flags, Valued}
use Rattle.meaning.proofs.TestLaws.{pick_true, pick_false}
use Rattle.reading.specs.Listed.{listed_as, LiteralsHere, span}
use Rattle.reading.specs.Noted.{branch_place, branch_item}
use Rattle.finding.specs.Branches.{sequence_place, no_item, place_after, item_after, conditions_from, BranchHere, BranchesHere}

-- A LIST before a sequence, as the form writes it.
pub span_flags : (form : Form) (many r : ℕ) → form ≡ Flags → r ≡ many → r ≡ span form many
span_flags form many r is e = rw is e

pub span_valued : (form : Form) (many r : ℕ) → form ≡ Valued → r ≡ many → 2 * r ≡ span form many
span_valued form many r is e = rw (is, e)

list_ends : (form : Form) (s : List ℕ) (p : ℕ) → LiteralsHere form s p → p + span form (get_or s p 0) < length s
list_ends Flags s p here = here.ends
list_ends Valued s p here = here.ends

module _ (form : Form) (s : List ℕ) (p : ℕ) (here : LiteralsHere form s p) where
  pub list_starts : p < length s
  list_starts = let ends = list_ends form s p here in omega arith

  pub list_first : Fits w64 (length s) → (bytes : ℕ) → bytes ≡ span form (get_or s p 0) → Fits w64 (p + 1)
  list_first room bytes is = let starts = list_starts in let most = room.fits in record { fits = omega arith }

  pub list_behind : Fits w64 (length s) → (bytes : ℕ) → bytes ≡ span form (get_or s p 0) → Fits w64 (p + 1 + bytes)
  list_behind room bytes is =
      let ends = list_ends form s p here in
      let most = room.fits in
      record { fits = omega arith }

-- ONE BRANCH.
pub sequence_is : (form : Form) (s : List ℕ) (p bytes : ℕ) → bytes ≡ span form (get_or s p 0) → p + 1 + bytes ≡ sequence_place form s p
unfolding sequence_place
sequence_is form s p bytes is = ap (λ (y : ℕ). p + 1 + y) is

pub first_zero : (s : List ℕ) (q : ℕ) → get_or s q 0 ≡ 0 → eqb (get_or s (q + 1) 0) 0 ≡ no_item s q
unfolding no_item both
first_zero s q e = rw (eq-eqb (get_or s q 0) 0 e)

pub first_other : (s : List ℕ) (q : ℕ) → (get_or s q 0 ≡ 0 → ⊥) → false ≡ no_item s q
unfolding no_item both
first_other s q h = rw (ne_eqb (get_or s q 0) 0 h)

module _ {form : Form} (s : List ℕ) (p i q : ℕ) (here : BranchHere form s p i) (at : q ≡ sequence_place form s p) where
  pub count_here : q + 1 < length s
  count_here = rw at here.counted

  module _ (t : List ℕ) (none : Bool) (tested : none ≡ no_item s q) where
    here_test : none ≡ no_item s (sequence_place form s p)
    here_test = tested ∙ ap (no_item s) at

    pub place_empty : none ≡ true → q + 2 ≡ place_after form s t p i
    unfolding place_after
    place_empty e = rw at (sym (pick_true _ _ _ (sym here_test ∙ e)))

    pub place_noted : none ≡ false → (x : ℕ) → x ≡ get_or t (branch_place + i) 0 → x ≡ place_after form s t p i
    unfolding place_after
    place_noted e x is = is ∙ sym (pick_false _ _ _ (sym here_test ∙ e))

    pub item_empty : none ≡ true → i ≡ item_after form s t p i
    unfolding item_after
    item_empty e = sym (pick_true _ _ _ (sym here_test ∙ e))

    pub item_noted : none ≡ false → (x : ℕ) → x ≡ get_or t (branch_item + i) 0 → x ≡ item_after form s t p i
    unfolding item_after
    item_noted e x is = is ∙ sym (pick_false _ _ _ (sym here_test ∙ e))

-- SO MANY BRANCHES.
module _ (form : Form) (s t : List ℕ) where
  branches_first : (left p i : ℕ) → 0 < left → BranchesHere form s t left p i → BranchHere form s p i × BranchesHere form s t (left - 1) (place_after form s t p i) (item_after form s t p i)
  unfolding BranchesHere
  branches_first zero p i more h = absurd (omega (arith, more))
  branches_first (suc left) p i more h = let less : suc left - 1 ≡ left = omega arith in rw less h

  pub conditions_first : (left p i : ℕ) → 0 < left → conditions_from form s t left p i ≡ listed_as form s p ∷ conditions_from form s t (left - 1) (place_after form s t p i) (item_after form s t p i)
  unfolding conditions_from
  conditions_first zero p i more = absurd (omega (arith, more))
  conditions_first (suc left) p i more = let less : suc left - 1 ≡ left = omega arith in rw less

  pub conditions_done : (left p i : ℕ) → left ≤ 0 → conditions_from form s t left p i ≡ []
  unfolding conditions_from
  conditions_done zero p i h = refl
  conditions_done (suc left) p i h = absurd (omega (arith, h))

  module _ (left p i : ℕ) (more : 0 < left) (here : BranchesHere form s t left p i) where
    pub branch_first : BranchHere form s p i
    branch_first = (branches_first left p i more here).0

    pub condition_first : LiteralsHere form s p
    condition_first = branch_first.condition

    pub branches_next : (q j : ℕ) → q ≡ place_after form s t p i → j ≡ item_after form s t p i → BranchesHere form s t (left - 1) q j
    branches_next q j e f = rw (e, f) (branches_first left p i more here).1
