-- The pass over an action's effects: each in its turn tells or undoes. Assumes nothing.
use Prim.Native.Nat.{ℕ, ◌+◌, ◌<◌}
use native.Mathlib.Omega.{arith}
use mathlib.Core.Path.{◌≡◌, refl}
use mathlib.Core.Bool.{Bool, true, false}
use mathlib.Core.List.{List, [], ◌∷◌}
use lib.ListN.{get_or, set}
use Rattle.meaning.specs.Tests.{pick, each_of}
use Rattle.meaning.specs.Limits
use Rattle.meaning.specs.Literals.{fluent_of, complement}
use Rattle.meaning.specs.States.{State, mark_of, known, possible, told}
use Rattle.meaning.proofs.LiteralLaws.{by_literal}
use Rattle.meaning.proofs.StateLaws.{mark_true, mark_false}
use Rattle.reading.specs.Listed.{listed, look_at}
use Rattle.reading.specs.declared.marks.Look.{Look}
use Rattle.reading.specs.declared.marks.Look.TheVariants as look

pub mark_some : (l : ℕ) → 0 < mark_of l
mark_some = by_literal (λ (l : ℕ). 0 < mark_of l) (λ f. rw (mark_true f) (omega arith)) (λ f. rw (mark_false f) (omega arith))

-- The literal's complement is not known any more.
unfoldable pub undone : ℕ → State → State
undone l next = pick (known next (complement l)) (λ _. set next (fluent_of l) Limits.unknown_mark) (λ _. next)

-- What an effect that gives the literal does, as a look at its body tells.
unfoldable pub turned : Look → ℕ → State → State
turned o l next = elim o [ look.Known ↦ told l next | look.Possible ↦ undone l next | look.Never ↦ next ]

pub turn_is : (marks : State) (ls : List ℕ) (l : ℕ) (next : State)
    → pick (each_of (known marks) ls) (λ _. told l next) (λ _. pick (each_of (possible marks) ls) (λ _. undone l next) (λ _. next)) ≡ turned (look_at marks ls) l next
unfolding look_at turned pick
turn_is marks ls l next = go (each_of (known marks) ls) (each_of (possible marks) ls)
  where
    go : (b c : Bool) → pick b (λ _. told l next) (λ _. pick c (λ _. undone l next) (λ _. next)) ≡ turned (pick b (λ _. look.Known) (λ _. pick c (λ _. look.Possible) (λ _. look.Never))) l next
    go true c = refl
    go false true = refl
    go false false = refl

module _ (s : List ℕ) (marks : State) where
  -- The effect at p tells what it gives by a body known true in `marks`, or undoes what it may by a possible one; neither where what it gives
  -- is known already.
  unfoldable pub swept_one : ℕ → State → State
  swept_one p next =
      pick (known next (get_or s (p + 1) 0)) (λ _. next) λ _.
      pick (each_of (known marks) (listed s (p + 2))) (λ _. told (get_or s (p + 1) 0) next) λ _.
      pick (each_of (possible marks) (listed s (p + 2))) (λ _. undone (get_or s (p + 1) 0) next) λ _.
      next

  unfoldable pub swept_at : List ℕ → State → State
  swept_at [] next = next
  swept_at (p ∷ ps) next = swept_at ps (swept_one p next)
