-- The loop along branchings up to what comes next: what comes from the position now is what comes from the first. Assumes nothing.
use Prim.Native.Nat.{ℕ, ◌+◌, ◌-◌, ◌≤◌, ◌<◌}
use native.Mathlib.Omega.{arith}
use mathlib.Core.Path.{◌≡◌, refl, sym, ◌∙◌, ap}
use mathlib.Core.List.{List}
use mathlib.Core.Logic.{⊎_elim}
use lib.ListN.{get_or}
use Rattle.std.specs.Prelude.{Option, None, Some}
use Rattle.meaning.specs.Limits.{format}
use Rattle.meaning.specs.Requests.{Sequence, done, Branches, none, branch}
use Rattle.meaning.specs.States.{State, known}
use Rattle.meaning.proofs.TestLaws.{pick_true, pick_false}
use Rattle.reading.specs.Planned.{items_of}
use Rattle.steps.specs.Held.{plan_in}
use Rattle.steps.specs.AtHand.{AtHand}
use Rattle.steps.specs.Rests.{rest_at, after_first, Position}
use Rattle.steps.specs.Steps.{Takes, TakesNone, Taken, Untaken, Chosen}
use Rattle.steps.proofs.HandLaws.{few_items}
use Rattle.steps.proofs.RestLaws.{rest_past}
use Rattle.steps.proofs.OnwardLaws.{action_small, action_left}
use Rattle.walking.specs.Walks.{action_at}
use Rattle.guidance.specs.Guides.{Ahead, no_branch, ahead_in, ahead_branch, ahead}
use Rattle.guidance.proofs.ComingLaws.{ahead_join, ahead_act, ahead_branching}
use Rattle.guide.specs.declared.going.Ahead.TheVariants.{End, Action, NoBranch}
use Rattle.guide.specs.GuideHeld.{came, ActionThere}
use Rattle.meaning.specs.declared.Form.TheVariants.{Flags}

-- A BRANCHING leads to the branch that is chosen, or to none.
module _ (s : State) where
  branch_ahead : (bs : Branches ℕ) (b after : Sequence ℕ) (k : Unit {0} → Ahead) → Takes known s bs b → ahead_branch s bs after k ≡ ahead_in s b after k
  unfolding Takes ahead_branch
  branch_ahead none b after k takes = absurd takes
  branch_ahead (branch c d bs) b after k takes =
      ⊎_elim
      (λ here. pick_true _ _ _ here.0 ∙ ap (λ (x : Sequence ℕ). ahead_in s x after k) (sym here.1))
      (λ later. pick_false _ _ _ later.0 ∙ branch_ahead bs b after k later.1)
      takes

  none_ahead : (bs : Branches ℕ) (after : Sequence ℕ) (k : Unit {0} → Ahead) → TakesNone known s bs → ahead_branch s bs after k ≡ no_branch
  unfolding TakesNone ahead_branch
  none_ahead none after k holds = refl
  none_ahead (branch c d bs) after k holds = pick_false _ _ _ holds.0 ∙ none_ahead bs after k holds.1

  pub ahead_taken : (c d : Sequence ℕ) → Taken known s c d → ahead s c ≡ ahead s d
  ahead_taken c d taken =
      ap (ahead s) taken.is
      ∙ ahead_branching s taken.place taken.branches taken.after
      ∙ branch_ahead taken.branches taken.chosen taken.after _ taken.takes
      ∙ sym (ahead_join s taken.chosen taken.after)
      ∙ ap (ahead s) (sym taken.rest)

  pub ahead_untaken : (c : Sequence ℕ) → Untaken known s c → ahead s c ≡ no_branch
  ahead_untaken c untaken =
      ap (ahead s) untaken.is
      ∙ ahead_branching s untaken.place untaken.branches untaken.after
      ∙ none_ahead untaken.branches untaken.after _ untaken.none

-- THE LOOP.
pub record Looking (s t : List ℕ) (first : ℕ) (marks : State) (i : ℕ) : Type 0 where
  pub position : Position (plan_in Flags s t) i
  pub same : ahead marks (rest_at (plan_in Flags s t) first) ≡ ahead marks (rest_at (plan_in Flags s t) i)

pub looking_starts : (s t : List ℕ) (first : ℕ) (marks : State) → Position (plan_in Flags s t) first → Looking s t first marks first
looking_starts s t first marks position = record { position = position; same = refl }

module _ (s t : List ℕ) (first : ℕ) (marks : State) (i : ℕ) (looking : Looking s t first marks i) where
  pub looking_there : i < format.items → i < items_of (plan_in Flags s t)
  looking_there less = looking.position.there (λ e. omega arith)

  module _ (f : Option ℕ) (chosen : Chosen Flags s t i marks f) where
    pub looking_on : (q : ℕ) → f ≡ Some q → Looking s t first marks q
    looking_on q is = record {
      position = chosen.at q is;
      same = looking.same ∙ ahead_taken marks (rest_at (plan_in Flags s t) i) (rest_at (plan_in Flags s t) q) (chosen.takes q is);
    }

    pub looking_none : f ≡ None → came s t NoBranch ≡ ahead marks (rest_at (plan_in Flags s t) first)
    unfolding came
    looking_none is = sym (looking.same ∙ ahead_untaken marks (rest_at (plan_in Flags s t) i) (chosen.stays is))

  module _ (here : AtHand Flags s t) where
    pub looking_end : format.items ≤ i → came s t End ≡ ahead marks (rest_at (plan_in Flags s t) first)
    unfolding came rest_at ahead ahead_in
    looking_end over =
        let few = few_items s t here in
        sym (looking.same ∙ ap (ahead marks) (rest_past (plan_in Flags s t) 0 i done (omega (arith, few, over))))

    module _ (less : i < format.items) (p : ℕ) (is : p ≡ get_or t (0 + i) 0) (other : get_or s p 0 ≡ 255 → ⊥) where
      action_is : action_at s t i ≡ get_or s p 0
      unfolding action_at
      action_is = ap (λ (q : ℕ). get_or s q 0) (sym is)

      pub looking_action : came s t (Action i) ≡ ahead marks (rest_at (plan_in Flags s t) first)
      unfolding came
      looking_action = sym (
          looking.same
          ∙ ap (ahead marks) (action_left s t here i (looking_there less) p is other (action_at s t i) action_is)
          ∙ ahead_act marks p (action_at s t i) (after_first (rest_at (plan_in Flags s t) i))
          )

      pub looking_item : ActionThere s t (Action i)
      unfolding ActionThere
      looking_item = record { there = looking_there less; acts = action_small s t here i (looking_there less) p is other (action_at s t i) action_is }

pub no_action_none : (s t : List ℕ) → ActionThere s t NoBranch
unfolding ActionThere
no_action_none s t = tt

pub no_action_end : (s t : List ℕ) → ActionThere s t End
unfolding ActionThere
no_action_end s t = tt

pub chosen_falls : (s t : List ℕ) (i : ℕ) (marks : State) (f : Option ℕ) (q : ℕ) → Chosen Flags s t i marks f → f ≡ Some q → i < format.items → format.items - q < format.items - i
chosen_falls s t i marks f q chosen is less = let h = chosen.later q is in omega arith

-- What is at the item's place opens a branching.
pub place_branching : (s t : List ℕ) (i p : ℕ) → p ≡ get_or t (0 + i) 0 → get_or s p 0 ≡ 255 → get_or s (get_or t (0 + i) 0) 0 ≡ 255
place_branching s t i p is byte = ap (λ (q : ℕ). get_or s q 0) (sym is) ∙ byte
