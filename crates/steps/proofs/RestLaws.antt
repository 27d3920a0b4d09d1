-- What is left of a part of a plan from one of its items on: at its first item all of it, inside that item what is left there, and after
-- the item what is left of the rest. The tests that tell these apart compare numbers. Assumes nothing.
use Prim.Native.Nat.{ℕ, ◌+◌, ◌≤◌, ◌<◌}
use native.Mathlib.Omega.{arith}
use mathlib.Core.Path.{◌≡◌, refl, ◌∙◌}
use mathlib.Core.List.{List}
use borrow.Author.Tests.{lt-ltb, le-ltb, le-leb, lt-leb}
use Rattle.meaning.specs.Requests.{Sequence, done, item, Item, Branches, branch}
use Rattle.meaning.specs.Derivations.{join}
use Rattle.meaning.proofs.TestLaws.{pick_true, pick_false}
use Rattle.reading.specs.Planned.{items_of, items_in}
use Rattle.finding.proofs.PlanHere.{some_item}
use Rattle.steps.specs.Rests.{rest_in, rest_within, rest_under}

module _ (x : Item ℕ) (b : Sequence ℕ) (met : ℕ) (after : Sequence ℕ) where
  pub rest_first : rest_in (item x b) met met after ≡ item x (join b after)
  unfolding rest_in
  rest_first = pick_true _ _ _ (le-leb met met (omega arith))

  pub rest_inner : (i : ℕ) → met < i → i < met + items_in x → rest_in (item x b) met i after ≡ rest_within x (met + 1) i (join b after)
  unfolding rest_in
  rest_inner i from to = pick_false _ _ _ (lt-leb i met from) ∙ pick_true _ _ _ (lt-ltb i (met + items_in x) to)

  pub rest_later : (i : ℕ) → met + items_in x ≤ i → rest_in (item x b) met i after ≡ rest_in b (met + items_in x) i after
  unfolding rest_in
  rest_later i from =
      let some = some_item x in
      pick_false _ _ _ (lt-leb i met (omega (arith, some, from))) ∙ pick_false _ _ _ (le-ltb i (met + items_in x) from)

module _ (c : List ℕ) (b : Sequence ℕ) (bs : Branches ℕ) (met : ℕ) (after : Sequence ℕ) where
  pub under_here : (i : ℕ) → i < met + items_of b → rest_under (branch c b bs) met i after ≡ rest_in b met i after
  unfolding rest_under
  under_here i to = pick_true _ _ _ (lt-ltb i (met + items_of b) to)

  pub under_later : (i : ℕ) → met + items_of b ≤ i → rest_under (branch c b bs) met i after ≡ rest_under bs (met + items_of b) i after
  unfolding rest_under
  under_later i from = pick_false _ _ _ (le-ltb i (met + items_of b) from)

-- From its first item on, and from its end on.
pub rest_start : (b : Sequence ℕ) (met : ℕ) (after : Sequence ℕ) → 0 < items_of b → rest_in b met met after ≡ join b after
unfolding items_of join
rest_start done met after some = absurd (omega (arith, some))
rest_start (item x b) met after some = rest_first x b met after

pub rest_past : (b : Sequence ℕ) (met i : ℕ) (after : Sequence ℕ) → met + items_of b ≤ i → rest_in b met i after ≡ after
unfolding items_of rest_in
rest_past done met i after from = refl
rest_past (item x b) met i after from = rest_later x b met after i (omega (arith, from)) ∙ rest_past b (met + items_in x) i after (omega (arith, from))
