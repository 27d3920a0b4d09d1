-- A plan as the bytes that say it, wherever it stands (FORMAT 2.21 to 2.26).
use Rattle.std.specs.Prelude.{ℕ, ◌/◌, ◌%◌, ◌<◌, List, [], ◌∷◌, ◌++◌, length}
use Rattle.meaning.specs.Requests.{Sequence, done, item, Item, act, branching, Branches, none, branch}
use Rattle.finding.specs.PlansHeld.{own_items, branches_in}

-- Of a sequence the items alone, after its count.
unfoldable mutual
  pub coded : Sequence ℕ → List ℕ
  coded done = []
  coded (item i rest) = coded_item i ++ coded rest

  pub coded_item : Item ℕ → List ℕ
  coded_item (act p a) = a ∷ []
  coded_item (branching p bs) = 255 ∷ branches_in bs ∷ coded_branches bs

  pub coded_branches : Branches ℕ → List ℕ
  coded_branches none = []
  coded_branches (branch c b rest) = (length c ∷ c) ++ (own_items b / 256 ∷ own_items b % 256 ∷ coded b) ++ coded_branches rest

-- What can be told by its bytes: an action is no 255, and each count is below 65,536.
unfoldable mutual
  pub Tellable : Sequence ℕ → Type 0
  Tellable done = Unit {0}
  Tellable (item i rest) = TellableItem i × Tellable rest

  pub TellableItem : Item ℕ → Type 0
  TellableItem (act p a) = a < 255
  TellableItem (branching p bs) = TellableBranches bs

  pub TellableBranches : Branches ℕ → Type 0
  TellableBranches none = Unit {0}
  TellableBranches (branch c b rest) = (own_items b < 65536) × Tellable b × TellableBranches rest
