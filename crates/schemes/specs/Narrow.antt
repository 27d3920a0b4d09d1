-- The parts of a walk that the code writes lines for, and these lines. Such a walk ends with nothing missed, and no sensing action on it is too wide.
use Rattle.std.specs.Prelude.{ℕ, ◌+◌, ◌<◌, ◌≡◌, List, [], ◌∷◌, ltb}
use Rattle.meaning.specs.Tests.{pick}
use Rattle.meaning.specs.Limits.{format}
use Rattle.meaning.specs.Requests.{Sequence, item, act}
use Rattle.meaning.specs.States.{State, readings}
use Rattle.meaning.specs.Walk.{Walked, Verified, walk, each_reading, judged}
use Rattle.meaning.specs.Schemes.{Writes, ReadLines, read_lines, lines_from, narrow_step}
use Rattle.reading.specs.Planned.{items_of}
use Rattle.steps.specs.Held.{table_in, plan_in, request_in}
use Rattle.steps.specs.Rests.{rest_at}
use Rattle.steps.specs.Steps.{unknown_above}
use Rattle.meaning.specs.declared.Form.TheVariants.{Flags}

-- FROM A POSITION of the plan on.
unfoldable pub narrow_from : (s t : List ℕ) → (at : ℕ) → State → Walked State
narrow_from s t at = walk (narrow_step (table_in Flags s)) (rest_at (plan_in Flags s t) at) (judged (request_in Flags s t))

abbrev pub NarrowFrom : (s t : List ℕ) → (at : ℕ) → State → Type 0
NarrowFrom s t at marks = Verified (narrow_from s t at marks)

unfoldable pub lines_at : (s t : List ℕ) → (at : ℕ) → Writes
lines_at s t at = lines_from (request_in Flags s t) (rest_at (plan_in Flags s t) at)

-- THE READINGS of fluent f and of the unknown ones above it that the action senses, or of none where f is the limit of fluents; each is followed by what is left
-- from a position on.
unfoldable pub fluents_from : (s : List ℕ) → (action f : ℕ) → State → List ℕ
fluents_from s a f marks = pick (ltb f format.fluents) (λ _. f ∷ unknown_above (table_in Flags s) a marks (f + 1)) (λ _. [])

unfoldable pub narrow_readings : (s t : List ℕ) → (action at f : ℕ) → State → Walked State
narrow_readings s t a at f marks = each_reading (readings (fluents_from s a f marks) marks) (narrow_from s t at)

abbrev pub NarrowReadings : (s t : List ℕ) → (action at f : ℕ) → State → Type 0
NarrowReadings s t a at f marks = Verified (narrow_readings s t a at f marks)

unfoldable pub readings_at : (s t : List ℕ) → (action at f : ℕ) → State → (n : ℕ) → ReadLines
readings_at s t a at f marks = read_lines (readings (fluents_from s a f marks) marks) (lines_at s t at)

-- ITEM i is this action.
pub record Acts (s t : List ℕ) (i action : ℕ) : Type 0 where
  pub there : i < items_of (plan_in Flags s t)
  pub small : action < format.actions
  pub place : ℕ
  pub after : Sequence ℕ
  pub is : rest_at (plan_in Flags s t) i ≡ item (act place action) after
