-- The branching with which a line's plan begins, in the input and in the notes that reading the plan again left, and what rules 4 and 12 ask of it.
use Rattle.std.specs.Prelude.{ℕ, zero, suc, ◌+◌, ◌≤◌, ◌<◌, ◌≡◌, Bool, false, List, length, get_or}
use Rattle.meaning.specs.Tests.{both, either, each_of}
use Rattle.meaning.specs.Limits.{format}
use Rattle.meaning.specs.Requests.{Sequence, Branches, none, branch}
use Rattle.meaning.specs.States.{State, known}
use Rattle.meaning.specs.Derivations.{same_plan, join}
use Rattle.reading.specs.Listed.{bytes_from}
use Rattle.meaning.specs.declared.Form.TheVariants.{Flags}
use Rattle.reading.specs.Planned.{items_under, bytes_under}
use Rattle.finding.specs.Branches.{place_after, item_after}
use Rattle.finding.specs.PlansHeld.{branches_in, BranchesWritten, BranchesKept}
use Rattle.comparing.specs.Coded.{coded_branches, TellableBranches}
use Rattle.comparing.specs.Stands.{PlanStands}
use Rattle.comparing.specs.RuleAnswers.{ItemsStand}

-- The place after a given number of branches, the first of which stands at p with i items before it.
unfoldable pub branches_end : (d t : List ℕ) (left p i : ℕ) → ℕ
branches_end d t zero p i = p
branches_end d t (suc left) p i = branches_end d t left (place_after Flags d t p i) (item_after Flags d t p i)

-- Branches from p on, with i items before them.
pub record BranchesHeld (d t : List ℕ) (p i : ℕ) (bs : Branches ℕ) : Type 0 where
  pub few : i + items_under bs ≤ format.items
  pub inside : p + bytes_under Flags bs ≤ length d
  pub written : BranchesWritten Flags d p bs
  pub kept : BranchesKept Flags t i p bs
  pub bytes : bytes_from d p (bytes_under Flags bs) ≡ coded_branches bs
  pub tellable : TellableBranches bs

-- A branching at `first` as the first item, and after it a given number of items up to y.
pub record Branched (d t : List ℕ) (first y more : ℕ) (bs : Branches ℕ) (rest : Sequence ℕ) : Type 0 where
  pub there : first + 1 < length d
  pub count : get_or d (first + 1) 0 ≡ branches_in bs
  pub held : BranchesHeld d t (first + 2) 1 bs
  pub rest_stands : ItemsStand d (first + 2 + bytes_under Flags bs) y more rest

pub record SomeBranched (d t : List ℕ) (first y more : ℕ) : Type 0 where
  pub branches : Branches ℕ
  pub rest : Sequence ℕ
  pub branched : Branched d t first y more branches rest

-- Some condition is known, and its branch joined with the rest is the plan c.
unfoldable pub takes_known : State → Branches ℕ → (rest c : Sequence ℕ) → Bool
takes_known held none rest c = false
takes_known held (branch k b bs) rest c = either (both (each_of (known held) k) (same_plan c (join b rest))) (takes_known held bs rest c)

-- Whatever branching and rest stand there, and whatever plan is cited.
pub record BranchTaken (d t : List ℕ) (held : State) (first cited yc y more : ℕ) (answer : Bool) : Type 0 where
  pub holds : (bs : Branches ℕ) (rest c : Sequence ℕ) → Branched d t first y more bs rest → PlanStands d cited yc c → answer ≡ takes_known held bs rest c
