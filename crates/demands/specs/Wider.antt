-- Wider limits: which of them may grow, and what the two answers then have in common.
use Rattle.std.specs.Prelude.{ℕ, ◌≤◌, ◌≡◌, List, ◌++◌, ◌⊎◌, length, replicate}
use Rattle.meaning.specs.Limits
use Rattle.meaning.specs.Limits.{Limits}
use Rattle.meaning.specs.States.{State}
use Rattle.meaning.specs.Judging.{Judgement}

-- Fluents, actions, listed entries and the lent state may grow. Every other limit stays, and a state has room for the fluents.
pub record Wider (lim big : Limits) : Type 0 where
  pub fluents : lim.fluents ≤ big.fluents
  pub actions : lim.actions ≤ big.actions
  pub listed : lim.listed ≤ big.listed
  pub state : lim.state ≤ big.state
  pub body : big.body ≡ lim.body
  pub branches : big.branches ≡ lim.branches
  pub nested : big.nested ≡ lim.nested
  pub items : big.items ≡ lim.items
  pub request : big.request ≡ lim.request
  pub derivation : big.derivation ≡ lim.derivation
  pub lines : big.lines ≡ lim.lines
  pub citations : big.citations ≡ lim.citations
  pub room : lim.fluents ≤ lim.state

-- A state with a given number of unknown marks behind it.
unfoldable pub padded : (more : ℕ) → State → State
padded more s = s ++ replicate more Limits.unknown_mark

-- Two judgements with one answer, of which the first was lent `small` and the second `large`. With 1 and 2 the first leaves a state of the length
-- that it was lent, and the second that state, padded; with every other number each leaves what it was lent.
pub record SameJudgement (more : ℕ) (small large : List ℕ) (j h : Judgement) : Type 0 where
  pub answer : h.answer ≡ j.answer
  pub told : (j.answer.number ≡ Limits.goal_missed) ⊎ (j.answer.number ≡ Limits.not_executable) → (length j.state ≡ length small) × (h.state ≡ padded more j.state)
  pub untold : (j.answer.number ≡ Limits.goal_missed → ⊥) → (j.answer.number ≡ Limits.not_executable → ⊥) → (j.state ≡ small) × (h.state ≡ large)
