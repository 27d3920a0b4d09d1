-- Each action of a plan that was read is within the limit: an item is read as an action only where its byte is below the actions' count, which is
-- within it. Assumes nothing.
use Prim.Native.Nat.{ℕ, ◌≤◌}
use native.Mathlib.Omega.{arith}
use mathlib.Core.Path.{◌≡◌}
use mathlib.Core.List.{List}
use borrow.Author.Tests.{leb-false}
use Rattle.meaning.specs.Limits.{format}
use Rattle.meaning.specs.Requests.{Sequence}
use Rattle.meaning.specs.declared.Form.{Form}
use Rattle.meaning.specs.Reading.{got, Met, plan_at}
use Rattle.meaning.proofs.PlanReads.{Said, PassedAs, plan_on_as}
use Rattle.steps.specs.Small.{Small, SmallItem, SmallUnder}

module _ (form : Form) (n m : ℕ) (s : List ℕ) (few : m ≤ format.actions) where
  abbrev plan_few : Said
  plan_few = record {
    item = λ deep p met x e. SmallItem x.value;
    items = λ deep left p met x e. Small x.value;
    sequence = λ deep p met x e. Small x.value;
    branches = λ deep left p met x e. SmallUnder x.value;
  }

  few_passed : PassedAs format form n m s plan_few
  unfolding Small
  few_passed = record {
    an_action = λ deep p met x q _ _ _ within. let below = leb-false m x within in omega (arith, below, few);
    a_branching = λ deep p met x q c r bs e _ _ _ _ all. all;
    no_item = λ deep p met. tt;
    an_item = λ deep left p met i q rest e one more. (one, more);
    a_sequence = λ deep p met c q b e _ all. all;
    no_branch = λ deep p met. tt;
    a_branch = λ deep left p met c q b r rest e _ _ one more. (one, more);
  }

  pub plan_small : (p : ℕ) (x : Met (Sequence ℕ)) (e : ℕ) → plan_at format form n m s p ≡ got x e → Small x.value
  plan_small p = (plan_on_as format form n m s plan_few few_passed p).holds
