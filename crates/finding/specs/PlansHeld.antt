-- What it means that the input and the notes hold a plan.
use Rattle.std.specs.Prelude.{ℕ, suc, ◌+◌, ◌*◌, ◌≤◌, ◌<◌, ◌≡◌, List, length, get_or}
use Rattle.meaning.specs.Limits.{format}
use Rattle.meaning.specs.Requests.{Sequence, done, item, Item, act, branching, Branches, none, branch}
use Rattle.meaning.specs.declared.Form.{Form}
use Rattle.reading.specs.Noted.{item_place, branch_place, branch_item}
use Rattle.reading.specs.Listed.{listed_as, LiteralsHere, span}
use Rattle.reading.specs.Planned.{items_of, items_in, bytes_of}
use Rattle.finding.specs.LinesHere.{Consistent}
use Rattle.finding.specs.Branches.{sequence_place}

-- How many items a sequence has itself, and how many branches there are (FORMAT 2.21, 2.24).
unfoldable pub own_items : Sequence ℕ → ℕ
own_items done = 0
own_items (item i rest) = suc (own_items rest)

unfoldable pub branches_in : Branches ℕ → ℕ
branches_in none = 0
branches_in (branch c b rest) = suc (branches_in rest)

-- IN THE INPUT. An action is a byte below 255 (FORMAT 2.23).
pub record ActWritten (s : List ℕ) (p a : ℕ) : Type 0 where
  pub there : p < length s
  pub byte : get_or s p 0 ≡ a
  pub below : a < 255

-- A branching is the byte 255 and the number of its branches (FORMAT 2.24).
pub record Opened (s : List ℕ) (p : ℕ) (bs : Branches ℕ) : Type 0 where
  pub there : p + 1 < length s
  pub byte : get_or s p 0 ≡ 255
  pub count : get_or s (p + 1) 0 ≡ branches_in bs

-- A branch with an item, which ends at p, in the notes, with `met` items before it.
pub record BranchKept (t : List ℕ) (met p : ℕ) (b : Sequence ℕ) : Type 0 where
  pub place : 0 < items_of b → get_or t (branch_place + met) 0 ≡ p
  pub count : 0 < items_of b → get_or t (branch_item + met) 0 ≡ met + items_of b

module _ (form : Form) where
  -- A branch is a condition, which was read, and a sequence's count (FORMAT 2.25, 2.26).
  pub record BranchWritten (s : List ℕ) (p : ℕ) (c : List ℕ) (b : Sequence ℕ) : Type 0 where
    pub here : LiteralsHere form s p
    pub condition : listed_as form s p ≡ c
    pub clear : Consistent form s c
    pub there : sequence_place form s p + 1 < length s
    pub count : get_or s (sequence_place form s p) 0 * 256 + get_or s (sequence_place form s p + 1) 0 ≡ own_items b

  unfoldable mutual
    pub Written : List ℕ → Sequence ℕ → Type 0
    Written s done = Unit {0}
    Written s (item i rest) = ItemWritten s i × Written s rest

    pub ItemWritten : List ℕ → Item ℕ → Type 0
    ItemWritten s (act p a) = ActWritten s p a
    ItemWritten s (branching p bs) = Opened s p bs × BranchesWritten s (p + 2) bs

    pub BranchesWritten : List ℕ → (p : ℕ) → Branches ℕ → Type 0
    BranchesWritten s p none = Unit {0}
    BranchesWritten s p (branch c b rest) = BranchWritten s p c b × Written s b × BranchesWritten s (p + (1 + span form (length c)) + (2 + bytes_of form b)) rest

  -- IN THE TABLE, with `met` items before the part.
  unfoldable mutual
    pub Kept : List ℕ → (met : ℕ) → Sequence ℕ → Type 0
    Kept t met done = Unit {0}
    Kept t met (item i rest) = ItemKept t met i × Kept t (met + items_in i) rest

    pub ItemKept : List ℕ → (met : ℕ) → Item ℕ → Type 0
    ItemKept t met (act p a) = get_or t (item_place + met) 0 ≡ p
    ItemKept t met (branching p bs) = (get_or t (item_place + met) 0 ≡ p) × BranchesKept t (met + 1) (p + 2) bs

    pub BranchesKept : List ℕ → (met p : ℕ) → Branches ℕ → Type 0
    BranchesKept t met p none = Unit {0}
    BranchesKept t met p (branch c b rest) =
        BranchKept t met (p + (1 + span form (length c)) + (2 + bytes_of form b)) b × Kept t met b × BranchesKept t (met + items_of b) (p + (1 + span form (length c)) + (2 + bytes_of form b)) rest

  -- A plan, from its first item on.
  pub record PlanHeld (s t : List ℕ) (b : Sequence ℕ) : Type 0 where
    pub few : items_of b ≤ format.items
    pub written : Written s b
    pub kept : Kept t 0 b

  pub record SomePlan (s t : List ℕ) (count : ℕ) : Type 0 where
    pub plan : Sequence ℕ
    pub held : PlanHeld s t plan
    pub items : items_of plan ≡ count
