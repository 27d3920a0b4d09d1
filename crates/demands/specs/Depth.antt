-- How deep the walk of a plan goes: what lies one inside another, on the path where it weighs most. The recursion is that of the walk (FORMAT 16.5
-- to 16.7), and nothing is walked.
use Rattle.std.specs.Prelude.{ℕ, ◌+◌, max}
use Rattle.meaning.specs.Tests.{pick, each_of}
use Rattle.meaning.specs.Requests.{Sequence, done, item, Item, act, branching, Branches, none, branch}
use Rattle.meaning.specs.States.{Outcome, single, fork}
use Rattle.meaning.specs.Walk.{Step, leads_to, refuses, Steps}

-- In what follows a reading of a fluent and a walk have a weight each.
module _ {S : Type 0} (reading walk : ℕ) where
  -- Inside a reading lies the heavier of its two sides; k weighs what follows.
  unfoldable pub forked : Outcome S → (S → ℕ) → ℕ
  forked (single s) k = k s
  forked (fork o p) k = reading + max (forked o k) (forked (p tt) k)

  -- What follows an action that forks is a walk of its own.
  unfoldable pub outcome_deep : Outcome S → (S → ℕ) → ℕ
  outcome_deep (single s) k = k s
  outcome_deep (fork o p) k = walk + forked (fork o p) k

  -- Nothing follows an action that is refused.
  unfoldable pub step_deep : Step S → (S → ℕ) → ℕ
  step_deep (leads_to o) k = outcome_deep o k
  step_deep (refuses n u) k = 0

module _ {S L : Type 0} (reading walk : ℕ) (step : Steps S L) where
  unfoldable mutual
    pub deep : Sequence L → (S → ℕ) → S → ℕ
    deep done k s = k s
    deep (item i rest) k s = deep_item i (deep rest k) s

    pub deep_item : Item L → (S → ℕ) → S → ℕ
    deep_item (act p a) k s = step_deep reading walk (step.does a s) k
    deep_item (branching p bs) k s = deep_branch bs k s

    -- The branch whose condition is known true is a walk of its own; without one nothing follows.
    pub deep_branch : Branches L → (S → ℕ) → S → ℕ
    deep_branch none k s = 0
    deep_branch (branch c b bs) k s = pick (each_of (step.knows s) c) (λ _. walk + deep b k s) (λ _. deep_branch bs k s)

  -- The whole plan from a state, the first walk included.
  unfoldable pub depth : Sequence L → S → ℕ
  depth p s = walk + deep p (λ _. 0) s

module _ {S L : Type 0} (step : Steps S L) where
  -- How many readings lie one inside another.
  abbrev pub readings_deep : Sequence L → S → ℕ
  readings_deep = depth 1 0 step

  -- How many walks lie one inside another.
  abbrev pub walks_deep : Sequence L → S → ℕ
  walks_deep = depth 0 1 step

-- The most items that stand on one path of a plan.
module _ {L : Type 0} where
  unfoldable mutual
    pub most_items : Sequence L → ℕ
    most_items done = 0
    most_items (item i rest) = most_in i + most_items rest

    pub most_in : Item L → ℕ
    most_in (act p a) = 1
    most_in (branching p bs) = 1 + most_below bs

    pub most_below : Branches L → ℕ
    most_below none = 0
    most_below (branch c b bs) = max (most_items b) (most_below bs)
