-- The loops over branches and over items: what the whole gives is what the rest gives. Assumes nothing.
use Prim.Native.Nat.{ℕ, zero, suc, ◌+◌, ◌-◌, ◌≤◌, ◌<◌}
use native.Mathlib.Omega.{arith}
use mathlib.Core.Path.{◌≡◌, refl, sym, ◌∙◌, ap, ap₂}
use mathlib.Core.Bool.{Bool, true, false}
use mathlib.Core.List.{List, ◌∷◌}
use lib.ListN.{length, get_or}
use borrow.Author.Tests.{eq-eqb, ne_eqb}
use Rattle.std.specs.Prelude.{Option, None, Some}
use Rattle.meaning.specs.Tests.{both, fails, pick, each_of}
use Rattle.meaning.specs.Limits.{all_literals}
use Rattle.meaning.specs.Refusals
use Rattle.meaning.proofs.TestLaws.{pick_true, pick_false}
use Rattle.reading.specs.Listed.{listed_as, ListHere, LiteralsHere}
use Rattle.finding.specs.Places.{found}
use Rattle.finding.specs.Branches.{place_after, item_after, conditions_from, BranchHere, BranchesHere, ItemHere}
use Rattle.refusing.specs.Refusal18.{rules_out, rules_out_as, all_apart, item_apart, first_overlap}
use Rattle.finding.proofs.ByBranch.{conditions_first, conditions_done, branch_first, condition_first, branches_next}
use Rattle.meaning.specs.declared.Form.TheVariants.{Flags}
use Rattle.meaning.specs.declared.Form.{Form}
use Rattle.valuing.specs.Meets.{meets_as}

-- THE FIRST of some branches has a condition.
pub flags_condition : (s t : List ℕ) (left p i : ℕ) → 0 < left → BranchesHere Flags s t left p i → ListHere all_literals s p
flags_condition = condition_first Flags

-- WHAT IS LEFT of so many branches, from branch k on, at p: what all their conditions give is what these give.
pub record Left (form : Form) (s t : List ℕ) (all : List (List ℕ) → Bool) (whole : Bool) (left p i : ℕ) : Type 0 where
  pub here : BranchesHere form s t left p i
  pub same : whole ≡ all (conditions_from form s t left p i)

module _ (form : Form) (s t : List ℕ) (all : List (List ℕ) → Bool) where
  pub left_starts : (whole : Bool) (count p i : ℕ) → BranchesHere form s t count p i → whole ≡ all (conditions_from form s t count p i) → Left form s t all whole (count - 0) p i
  left_starts whole count p i here same = let is : count - 0 ≡ count = omega arith in rw is (record { here = here; same = same })

  module _ (whole : Bool) (count k p i : ℕ) (left : Left form s t all whole (count - k) p i) (more : k < count) where
    pub left_branch : BranchHere form s p i
    left_branch = branch_first form s t (count - k) p i (omega arith) left.here

    pub left_condition : LiteralsHere form s p
    left_condition = condition_first form s t (count - k) p i (omega arith) left.here

    module _ (q j : ℕ) (placed : q ≡ place_after form s t p i) (counted : j ≡ item_after form s t p i) where
      pub left_others : BranchesHere form s t (count - k - 1) q j
      left_others = branches_next form s t (count - k) p i (omega arith) left.here q j placed counted

      left_first : whole ≡ all (listed_as form s p ∷ conditions_from form s t (count - k - 1) q j)
      left_first = left.same ∙ ap all (conditions_first form s t (count - k) p i (omega arith) ∙ rw (placed, counted) refl)

      left_next : whole ≡ all (conditions_from form s t (count - k - 1) q j) → Left form s t all whole (count - (k + 1)) q j
      left_next same = let less : count - (k + 1) ≡ count - k - 1 = omega arith in rw less (record { here = left_others; same = same })

-- By what is held: a test that each condition passes, and that the first fails where it is met.
module _ {Held : Type 0} (meets : List ℕ → Held → List ℕ → Bool) (form : Form) (s t : List ℕ) (held : Held) (whole : Bool) (count k p i : ℕ)
    (left : Left form s t (each_of (rules_out meets s held)) whole (count - k) p i) where
  module _ (more : k < count) (b : Bool) (tested : b ≡ meets s held (listed_as form s p)) where
    out_first : (q j : ℕ) → q ≡ place_after form s t p i → j ≡ item_after form s t p i → whole ≡ both (fails b) (each_of (rules_out meets s held) (conditions_from form s t (count - k - 1) q j))
    unfolding each_of rules_out
    out_first q j f g = left_first form s t (each_of (rules_out meets s held)) whole count k p i left more q j f g ∙ rw (sym tested)

    pub out_not : b ≡ true → false ≡ whole
    unfolding both fails
    out_not e = sym (out_first _ _ refl refl ∙ rw e)

    pub out_next : b ≡ false → (q j : ℕ) → q ≡ place_after form s t p i → j ≡ item_after form s t p i → Left form s t (each_of (rules_out meets s held)) whole (count - (k + 1)) q j
    unfolding both fails
    out_next e q j f g = left_next form s t (each_of (rules_out meets s held)) whole count k p i left more q j f g (out_first q j f g ∙ rw e)

  pub out_done : count ≤ k → true ≡ whole
  unfolding each_of
  out_done h = sym (left.same ∙ rw (conditions_done form s t (count - k) p i (omega arith)))

-- What is held of a condition rules out what the condition does.
module _ {Held : Type 0} (meets : List ℕ → Held → List ℕ → Bool) (form : Form) (s t c : List ℕ) (held : Held)
    (law : (p : ℕ) → LiteralsHere form s p → meets s held (listed_as form s p) ≡ meets_as form s c (listed_as form s p)) where
  out_is : (left p i : ℕ) → BranchesHere form s t left p i
      → each_of (rules_out meets s held) (conditions_from form s t left p i) ≡ each_of (rules_out_as form s c) (conditions_from form s t left p i)
  unfolding conditions_from BranchesHere each_of rules_out rules_out_as
  out_is zero p i here = refl
  out_is (suc left) p i here = ap₂ both (ap fails (law p here.0.condition)) (out_is left (place_after form s t p i) (item_after form s t p i) here.1)

-- EVERY TWO conditions.
module _ {Held : Type 0} (meets : List ℕ → Held → List ℕ → Bool) (form : Form) (s t : List ℕ) (held : Held) (whole : Bool) (count k p i : ℕ)
    (left : Left form s t (all_apart form s) whole (count - k) p i) where
  module _ (more : k < count) (law : (q : ℕ) → LiteralsHere form s q → meets s held (listed_as form s q) ≡ meets_as form s (listed_as form s p) (listed_as form s q))
      (q j : ℕ) (b : Bool) (placed : q ≡ place_after form s t p i) (counted : j ≡ item_after form s t p i)
      (tested : b ≡ each_of (rules_out meets s held) (conditions_from form s t (count - k - 1) q j)) where
    apart_first : whole ≡ both b (all_apart form s (conditions_from form s t (count - k - 1) q j))
    unfolding all_apart
    apart_first =
        left_first form s t (all_apart form s) whole count k p i left more q j placed counted
        ∙ rw (tested, out_is meets form s t (listed_as form s p) held law (count - k - 1) q j (left_others form s t (all_apart form s) whole count k p i left more q j placed counted))

    pub apart_not : b ≡ false → false ≡ whole
    unfolding both
    apart_not e = sym (apart_first ∙ rw e)

    pub apart_next : b ≡ true → Left form s t (all_apart form s) whole (count - (k + 1)) q j
    unfolding both
    apart_next e = left_next form s t (all_apart form s) whole count k p i left more q j placed counted (apart_first ∙ rw e)

pub apart_done : (form : Form) (s t : List ℕ) (whole : Bool) (count k p i : ℕ) → Left form s t (all_apart form s) whole (count - k) p i → count ≤ k → true ≡ whole
unfolding all_apart
apart_done form s t whole count k p i left h = sym (left.same ∙ rw (conditions_done form s t (count - k) p i (omega arith)))

-- ONE ITEM.
module _ (form : Form) (s t : List ℕ) (i p : ℕ) where
  pub item_other : (get_or s p 0 ≡ 255 → ⊥) → true ≡ item_apart form s t i p
  unfolding item_apart
  item_other h = sym (pick_false _ _ _ (ne_eqb (get_or s p 0) 255 h))

  module _ (is : get_or s p 0 ≡ 255) where
    pub item_branching : (r : Bool) (x : ℕ) → x ≡ get_or s (p + 1) 0 → r ≡ all_apart form s (conditions_from form s t x (p + 2) (i + 1)) → r ≡ item_apart form s t i p
    unfolding item_apart
    item_branching r x e f = f ∙ rw e (sym (pick_true _ _ _ (eq-eqb (get_or s p 0) 255 is)))

    module _ (here : ItemHere form s t i p) where
      pub second_here : p + 1 < length s
      second_here = (here.branches is).counted

      pub item_branches : (x : ℕ) → x ≡ get_or s (p + 1) 0 → BranchesHere form s t x (p + 2) (i + 1)
      item_branches x e = rw e (here.branches is).branches

-- THE ITEMS.
module _ (form : Form) (s t : List ℕ) where
  pub overlap_first : (left i : ℕ) → 0 < left
      → first_overlap form s t left i ≡ pick (item_apart form s t i (get_or t (0 + i) 0)) (λ _. first_overlap form s t (left - 1) (i + 1)) (λ _. Refusals.at (get_or t (0 + i) 0))
  unfolding first_overlap
  overlap_first zero i more = absurd (omega (arith, more))
  overlap_first (suc left) i more = let less : suc left - 1 ≡ left = omega arith in rw less

  overlap_none : (left i : ℕ) → left ≤ 0 → first_overlap form s t left i ≡ Refusals.nowhere
  unfolding first_overlap
  overlap_none zero i h = refl
  overlap_none (suc left) i h = absurd (omega (arith, h))

  pub overlap_starts : (count : ℕ) → found (first_overlap form s t count 0) ≡ found (first_overlap form s t (count - 0) 0)
  overlap_starts count = let same : count - 0 ≡ count = omega arith in rw same

  module _ (whole : Option ℕ) (count i : ℕ) (so_far : whole ≡ found (first_overlap form s t (count - i) i)) where
    module _ (more : i < count) (p : ℕ) (b : Bool) (placed : p ≡ get_or t (0 + i) 0) (tested : b ≡ item_apart form s t i p) where
      test_is : item_apart form s t i (get_or t (0 + i) 0) ≡ b
      test_is = sym (tested ∙ ap (item_apart form s t i) placed)

      pub overlap_here : b ≡ false → Some p ≡ whole
      unfolding found
      overlap_here e = sym (so_far ∙ ap found (overlap_first (count - i) i (omega (arith, more)) ∙ pick_false _ _ _ (test_is ∙ e)) ∙ rw placed)

      pub overlap_next : b ≡ true → whole ≡ found (first_overlap form s t (count - (i + 1)) (i + 1))
      overlap_next e =
          let less : count - (i + 1) ≡ count - i - 1 = omega arith in
          so_far ∙ ap found (overlap_first (count - i) i (omega (arith, more)) ∙ pick_true _ _ _ (test_is ∙ e)) ∙ rw less

    pub overlap_done : count ≤ i → None ≡ whole
    unfolding found
    overlap_done h = sym (so_far ∙ ap found (overlap_none (count - i) i (omega (arith, h))))
