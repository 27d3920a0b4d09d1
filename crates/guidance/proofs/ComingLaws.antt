-- What comes next in what is left of a plan: at an action, at a branching, and where two parts are joined. Assumes nothing.
use Prim.Native.Nat.{ℕ}
use mathlib.Core.Path.{◌≡◌, refl, ◌∙◌, ap, fun_ext}
use Rattle.meaning.specs.Requests.{Sequence, done, item, Item, act, branching, Branches}
use Rattle.meaning.specs.States.{State}
use Rattle.meaning.specs.Derivations.{join}
use Rattle.meaning.proofs.SchemeLaws.{join_done, join_join}
use Rattle.guidance.specs.Guides.{Ahead, the_end, an_action, ahead_in, ahead_item, ahead_branch, ahead}

module _ (s : State) where
  -- In the first of two parts, and then in the second.
  pub ahead_in_join : (b c after : Sequence ℕ) (k : Unit {0} → Ahead) → ahead_in s (join b c) after k ≡ ahead_in s b (join c after) (λ _. ahead_in s c after k)
  unfolding ahead_in join
  ahead_in_join done c after k = refl
  ahead_in_join (item i b) c after k =
      ap (λ (d : Sequence ℕ). ahead_item s i d (λ _. ahead_in s (join b c) after k)) (join_join b c after)
      ∙ ap (ahead_item s i (join b (join c after))) (fun_ext (λ (u : Unit {0}). ahead_in_join b c after k))

  pub ahead_join : (b c : Sequence ℕ) → ahead s (join b c) ≡ ahead_in s b c (λ _. ahead s c)
  unfolding ahead
  ahead_join b c = ahead_in_join b c done (λ _. the_end) ∙ ap (λ (d : Sequence ℕ). ahead_in s b d (λ _. ahead s c)) (join_done c)

  -- By the first item.
  pub ahead_first : (i : Item ℕ) (b : Sequence ℕ) → ahead s (item i b) ≡ ahead_item s i b (λ _. ahead s b)
  unfolding ahead ahead_in
  ahead_first i b = ap (λ (d : Sequence ℕ). ahead_item s i d (λ _. ahead s b)) (join_done b)

  pub ahead_act : (p a : ℕ) (b : Sequence ℕ) → ahead s (item (act p a) b) ≡ an_action a b
  unfolding ahead_item
  ahead_act p a b = ahead_first (act p a) b

  pub ahead_branching : (p : ℕ) (bs : Branches ℕ) (b : Sequence ℕ) → ahead s (item (branching p bs) b) ≡ ahead_branch s bs b (λ _. ahead s b)
  unfolding ahead_item
  ahead_branching p bs b = ahead_first (branching p bs) b
