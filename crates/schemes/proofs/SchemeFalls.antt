-- The recursion ends: at each call the position rises, or the same position is met with a higher fluent. And what the calls ask of positions and items. Assumes nothing.
use Prim.Native.Nat.{ℕ, ◌+◌, ◌-◌, ◌*◌, ◌<◌}
use native.Mathlib.Omega.{arith}
use mathlib.Core.Path.{◌≡◌, refl, sym, ◌∙◌, ap}
use mathlib.Core.Bool.{Bool, true, false}
use mathlib.Core.List.{List}
use lib.ListN.{get_or, set}
use lib.Dec.{ltb}
use borrow.Author.Tests.{ltb-true, ltb-false}
use Rattle.std.specs.Prelude.{Option, Some}
use Rattle.meaning.specs.Limits.{format}
use Rattle.meaning.specs.States.{State}
use Rattle.meaning.specs.Lines.{sensing}
use Rattle.meaning.proofs.TestLaws.{by-test}
use Rattle.reading.specs.Planned.{items_of}
use Rattle.steps.specs.Held.{table_in, plan_in}
use Rattle.steps.specs.AtHand.{AtHand, Marked}
use Rattle.steps.specs.Rests.{rest_at, after_first, Position}
use Rattle.steps.specs.Steps.{unknown_above, first_of, Followed, Chosen}
use Rattle.steps.proofs.HandLaws.{few_items}
use Rattle.steps.proofs.LookLaws.{first_marked, unknown_first_above}
use Rattle.steps.proofs.OnwardLaws.{action_small, action_left}
use Rattle.schemes.specs.Narrow.{Acts}
use Rattle.meaning.specs.declared.Form.TheVariants.{Flags}

-- What falls: the items left, and among the readings at one position the fluents left.
abbrev pub from_measure : (at : ℕ) → ℕ
from_measure at = (format.items + 1 - at) * (format.fluents + 3)

abbrev pub item_measure : (item : ℕ) → ℕ
item_measure i = (format.items - i) * (format.fluents + 3) + (format.fluents + 2)

abbrev pub readings_measure : (at fluent : ℕ) → ℕ
readings_measure at f = (format.items + 1 - at) * (format.fluents + 3) + (1 + (format.fluents - f))

-- From a position on there is the item there, and from an item on what follows it.
module _ (s t : List ℕ) (at : ℕ) (position : Position (plan_in Flags s t) at) (more : at ≡ format.items → ⊥) where
  pub item_falls : (μ : ℕ) → from_measure at ≡ μ → item_measure at < μ
  item_falls μ is = let most = position.most in omega arith

  pub item_here : at < items_of (plan_in Flags s t)
  item_here = position.there more

module _ (s t : List ℕ) (i at μ : ℕ) (is : item_measure i ≡ μ) (follows : Followed Flags s t i at) where
  pub follow_falls : from_measure at < μ
  follow_falls = let later = follows.later in omega arith

  pub sensing_falls : (f : ℕ) → readings_measure at f < μ
  sensing_falls f = let later = follows.later in omega arith

pub chosen_falls : (s t : List ℕ) (i : ℕ) (marks : State) (r : Option ℕ) (at μ : ℕ) → item_measure i ≡ μ → Chosen Flags s t i marks r → r ≡ Some at → from_measure at < μ
chosen_falls s t i marks r at μ is chosen taken = let later = chosen.later at taken in omega arith

-- A reading is followed by the readings of a higher fluent, or by the position.
pub reading_falls : (at f μ : ℕ) → readings_measure at f ≡ μ → from_measure at < μ
reading_falls at f μ is = omega arith

pub readings_fall : (s : List ℕ) (a at f μ : ℕ) (marks : State) → readings_measure at f ≡ μ → f < format.fluents → Marked marks → (g : ℕ) → g ≡ first_of (unknown_above (table_in Flags s) a (set marks f 1) (f + 1)) → readings_measure at g < μ
readings_fall s a at f μ marks is small marked g next =
    let rises : f < g =
    by-test (ltb g format.fluents)
    (λ u. let h = unknown_first_above (table_in Flags s) a (set marks f 1) (first_marked f marks small marked) (f + 1) g next (ltb-true _ _ u) in omega arith)
    (λ u. let far = ltb-false g format.fluents u in omega arith) in
    omega arith

-- WHAT THE CALLS ASK.
pub followed_position : (s t : List ℕ) (i at : ℕ) → Followed Flags s t i at → Position (plan_in Flags s t) at
followed_position s t i at follows = follows.at

pub chosen_position : (s t : List ℕ) (i : ℕ) (marks : State) (r : Option ℕ) (at : ℕ) → Chosen Flags s t i marks r → r ≡ Some at → Position (plan_in Flags s t) at
chosen_position s t i marks r at chosen taken = chosen.at at taken

pub item_position : (s t : List ℕ) → AtHand Flags s t → (i : ℕ) → i < items_of (plan_in Flags s t) → Position (plan_in Flags s t) i
item_position s t here i less = record { most = let few = few_items s t here in omega (arith, few); there = λ _. less }

-- The item at p is a branching, or an action.
pub opens_branching : (s t : List ℕ) (i p : ℕ) → p ≡ get_or t (0 + i) 0 → get_or s p 0 ≡ 255 → get_or s (get_or t (0 + i) 0) 0 ≡ 255
opens_branching s t i p place byte = ap (λ (q : ℕ). get_or s q 0) (sym place) ∙ byte

module _ (s t : List ℕ) (here : AtHand Flags s t) (i : ℕ) (less : i < items_of (plan_in Flags s t)) (p : ℕ) (place : p ≡ get_or t (0 + i) 0) (other : get_or s p 0 ≡ 255 → ⊥) where
  pub action_here : (a : ℕ) → a ≡ get_or s p 0 → a < format.actions
  action_here = action_small s t here i less p place other

  pub acts_here : (a : ℕ) → a ≡ get_or s p 0 → Acts s t i a
  acts_here a is = record {
    there = less;
    small = action_small s t here i less p place other a is;
    place = p;
    after = after_first (rest_at (plan_in Flags s t) i);
    is = action_left s t here i less p place other a is;
  }

  pub byte_acts : Acts s t i (get_or s p 0)
  byte_acts = acts_here (get_or s p 0) refl

module _ (s t : List ℕ) (i a : ℕ) (acts : Acts s t i a) where
  pub acts_there : i < items_of (plan_in Flags s t)
  acts_there = acts.there

  pub acts_small : (n : ℕ) → n ≡ a → n < format.actions
  acts_small n is = let small = acts.small in omega arith

-- Whether it senses, as it was told.
module _ (s : List ℕ) (a : ℕ) (senses : Bool) (told : senses ≡ sensing (table_in Flags s) a) where
  pub told_sensing : senses ≡ true → sensing (table_in Flags s) a ≡ true
  told_sensing given = sym told ∙ given

  pub told_unsensing : (byte : ℕ) → a ≡ byte → senses ≡ false → sensing (table_in Flags s) byte ≡ false
  told_unsensing byte is given = ap (sensing (table_in Flags s)) (sym is) ∙ sym told ∙ given
