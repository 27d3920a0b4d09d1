-- The tests of values that may stand for no guide: an item of the plan or its end, and marks that are each one of the three. Assumes nothing.
use Prim.Native.Nat.{ℕ, zero, suc, ◌≤◌}
use native.Mathlib.Omega.{arith}
use mathlib.Core.Path.{◌≡◌, refl, sym, ◌∙◌}
use mathlib.Core.Bool.{true}
use mathlib.Core.List.{List, [], ◌∷◌}
use mathlib.Core.Logic.{⊎_elim}
use lib.ListN.{length, get_or}
use lib.Dec.{eqb, ltb, leb}
use borrow.Author.Tests.{eqb-true, eqb-false, eq-eqb, ne_eqb, ltb-true, lt-ltb, leb-true, le-leb}
use Rattle.std.specs.List.{list_all}
use Rattle.meaning.specs.Tests.{both, either, each_of}
use Rattle.meaning.specs.Limits.{format}
use Rattle.meaning.specs.Requests.{Sequence}
use Rattle.meaning.specs.States.{State}
use Rattle.meaning.proofs.TestLaws.{by-test, both_left, both_right, both_true, either_left, either_right, either_split}
use Rattle.reading.specs.Planned.{items_of}
use Rattle.reading.specs.Noted.{items_slot}
use Rattle.steps.specs.Held.{plan_in}
use Rattle.steps.specs.AtHand.{AtHand, Marked}
use Rattle.steps.specs.Rests.{Position}
use Rattle.steps.proofs.HandLaws.{items_are}
use Rattle.guide.specs.GuideHeld.{is_position, is_marked}
use Rattle.meaning.specs.declared.Form.TheVariants.{Flags}

-- A POSITION.
pub end_tested : (b : Sequence ℕ) (at : ℕ) → at ≡ format.items → eqb at format.items ≡ is_position b at
unfolding is_position
end_tested b at is = eq-eqb _ _ is ∙ sym (either_left _ _ (eq-eqb _ _ is))

pub item_tested : (s t : List ℕ) → AtHand Flags s t → (at items : ℕ) → (at ≡ format.items → ⊥) → items ≡ get_or t items_slot 0 → ltb at items ≡ is_position (plan_in Flags s t) at
unfolding is_position either
item_tested s t here at items other is = sym (rw (ne_eqb _ _ other, is, items_are s t here))

-- What passes is a position, and a position passes.
module _ (b : Sequence ℕ) (at : ℕ) where
  pub position_passes : items_of b ≤ format.items → is_position b at ≡ true → Position b at
  unfolding is_position
  position_passes few holds =
      ⊎_elim
      (λ e. let end = eqb-true _ _ e in record { most = omega arith; there = λ other. absurd (other end) })
      (λ e. let less = ltb-true _ _ e in record { most = omega arith; there = λ _. less })
      (either_split _ _ holds)

  pub passes_position : Position b at → is_position b at ≡ true
  unfolding is_position
  passes_position position =
      by-test (eqb at format.items)
      (λ e. either_left _ _ e)
      (λ e. either_right _ _ (lt-ltb _ _ (position.there (eqb-false _ _ e))))

-- MARKS, each of them.
pub all_marked : (marks : State) → list_all (λ (m : ℕ). leb m 2) marks ≡ is_marked marks
unfolding is_marked each_of both
all_marked [] = refl
all_marked (m ∷ ms) = by-test (leb m 2) (λ e. rw (e, all_marked ms)) (λ e. rw e)

-- A state whose marks pass is marked, and the marks of one that is marked pass.
each_small : (ms : List ℕ) → each_of (λ (m : ℕ). leb m 2) ms ≡ true → (f : ℕ) → get_or ms f 0 ≤ 2
unfolding each_of
each_small [] holds f = omega arith
each_small (m ∷ ms) holds zero = leb-true m 2 (both_left _ _ holds)
each_small (m ∷ ms) holds (suc f) = each_small ms (both_right _ _ holds) f

small_each : (ms : List ℕ) → ((f : ℕ) → get_or ms f 0 ≤ 2) → each_of (λ (m : ℕ). leb m 2) ms ≡ true
unfolding each_of
small_each [] small = refl
small_each (m ∷ ms) small = both_true _ _ (le-leb m 2 (small 0)) (small_each ms (λ f. small (suc f)))

pub marks_pass : (marks : State) → length marks ≡ format.state → is_marked marks ≡ true → Marked marks
unfolding is_marked
marks_pass marks sized holds = record { sized = sized; small = each_small marks holds }

pub pass_marks : (marks : State) → Marked marks → is_marked marks ≡ true
unfolding is_marked
pass_marks marks marked = small_each marks marked.small
