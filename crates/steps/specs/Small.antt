-- A plan each of whose actions is within the limit.
use Rattle.std.specs.Prelude.{ℕ, ◌<◌}
use Rattle.meaning.specs.Limits.{format}
use Rattle.meaning.specs.Requests.{Sequence, done, item, Item, act, branching, Branches, none, branch}

unfoldable mutual
  pub Small : Sequence ℕ → Type 0
  Small done = Unit {0}
  Small (item i rest) = SmallItem i × Small rest

  pub SmallItem : Item ℕ → Type 0
  SmallItem (act p a) = a < format.actions
  SmallItem (branching p bs) = SmallUnder bs

  pub SmallUnder : Branches ℕ → Type 0
  SmallUnder none = Unit {0}
  SmallUnder (branch c b rest) = Small b × SmallUnder rest
