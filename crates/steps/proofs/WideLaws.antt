-- How many of the fluents that an action senses are unknown: they are counted one after another, and no further than one above the limit. Assumes nothing.
use Prim.Native.Nat.{ℕ, suc, ◌+◌, ◌≤◌, ◌<◌}
use native.Mathlib.Omega.{arith}
use mathlib.Core.Path.{◌≡◌, sym, ◌∙◌, ap}
use mathlib.Core.Bool.{true, false}
use lib.ListN.{length}
use mir.Syntax.{w64}
use mir.Val.{Fits}
use borrow.Author.Tests.{lt-ltb, le-ltb}
use Rattle.meaning.specs.Limits.{format, most_forked}
use Rattle.meaning.specs.Requests.{Table}
use Rattle.meaning.specs.States.{State, unknown_sensed}
use Rattle.meaning.specs.Schemes.{too_wide}
use Rattle.steps.specs.AtHand.{Marked}
use Rattle.steps.specs.Steps.{unknown_above, first_of}
use Rattle.steps.proofs.LookLaws.{unknown_all, unknown_first, unknown_no_first}

-- So many are counted, all below `from`, and f is the first from there on.
pub record Counting (t : Table) (a : ℕ) (marks : State) (met f : ℕ) : Type 0 where
  pub from : ℕ
  pub first : f ≡ first_of (unknown_above t a marks from)
  pub number : length (unknown_sensed t a marks) ≡ met + length (unknown_above t a marks from)
  pub few : met ≤ most_forked

module _ (t : Table) (a : ℕ) (marks : State) where
  pub counting_starts : (f : ℕ) → f ≡ first_of (unknown_sensed t a marks) → Counting t a marks 0 f
  counting_starts f is =
      let all : length (unknown_sensed t a marks) ≡ length (unknown_above t a marks 0) = ap length (unknown_all t a marks) in
      record { from = 0; first = is ∙ ap first_of (unknown_all t a marks); number = omega (arith, all); few = omega arith }

  module _ (met f : ℕ) (marked : Marked marks) (counting : Counting t a marks met f) where
    -- There is one more.
    module _ (near : f < format.fluents) where
      one_more : length (unknown_sensed t a marks) ≡ met + 1 + length (unknown_above t a marks (f + 1))
      one_more =
          let counted = counting.number in
          let split : length (unknown_above t a marks counting.from) ≡ suc (length (unknown_above t a marks (f + 1))) = ap length (unknown_first t a marks marked counting.from f counting.first near) in
          omega (arith, counted, split)

      pub next_fluent_fits : Fits w64 (f + 1)
      next_fluent_fits = record { fits = omega (arith, near) }

      pub counted_wide : met ≡ most_forked → true ≡ too_wide t a marks
      unfolding too_wide
      counted_wide full = let number = one_more in sym (lt-ltb most_forked (length (unknown_sensed t a marks)) (omega (arith, number, full)))

      module _ (other : met ≡ most_forked → ⊥) where
        pub next_met_fits : Fits w64 (met + 1)
        next_met_fits = let few = counting.few in record { fits = omega (arith, few) }

        pub counting_next : (g : ℕ) → g ≡ first_of (unknown_above t a marks (f + 1)) → Counting t a marks (met + 1) g
        counting_next g is = let few = counting.few in record { from = f + 1; first = is; number = one_more; few = omega (arith, few, other) }

    -- There is none.
    pub counted_narrow : format.fluents ≤ f → false ≡ too_wide t a marks
    unfolding too_wide
    counted_narrow far =
        let counted = counting.number in
        let few = counting.few in
        let none : length (unknown_above t a marks counting.from) ≡ 0 = ap length (unknown_no_first t a marks marked counting.from f counting.first far) in
        sym (le-ltb most_forked (length (unknown_sensed t a marks)) (omega (arith, counted, none, few)))
