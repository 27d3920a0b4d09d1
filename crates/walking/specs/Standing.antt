-- How a walk stands within its budget, and what the walk of a part adds to that. The defined walk knows no budget; this ties the two.
use Rattle.std.specs.Prelude.{ℕ, ◌-◌, ◌≤◌, ◌≡◌, Bool, true, false, eqb, ltb}
use Rattle.meaning.specs.Tests.{either, pick}
use Rattle.meaning.specs.Limits
use Rattle.meaning.specs.Refusals.{Found, nowhere, at}
use Rattle.meaning.specs.States.{State}
use Rattle.meaning.specs.Walk.{no_state, in_state, End, fine, missed, stopped, Walked, keep_miss}
use Rattle.walking.specs.declared.tally.Tally.{Tally}
use Rattle.walking.specs.declared.tally.Course.{Course}
use Rattle.walking.specs.declared.tally.Course.TheVariants.{Fine, Missed, Stuck, Broken, Other, TooWide, TooMany, Spent}

-- The budget is spent; or so much is left, and the walk so far ended so.
pub data Standing : Type 0 where
  spent : Standing
  so_far : (left : ℕ) → End State → Standing

-- A part is walked with so much left: its count may be above that; `then` says how its end goes with what was before.
unfoldable pub spend : (left : ℕ) → (then : End State → End State) → Walked State → Standing
spend left then w = pick (ltb left w.count) (λ _. spent) (λ _. so_far (left - w.count) (then w.end))

-- Nothing is walked after what has stopped or is spent; a first miss is kept (FORMAT 8.8, 8.12, 8.14, 8.19).
unfoldable pub add : Standing → Walked State → Standing
add spent w = spent
add (so_far left fine) w = spend left (λ e. e) w
add (so_far left (missed p s)) w = spend left (keep_miss p s) w
add (so_far left (stopped n p u)) w = so_far left (stopped n p u)

-- One counted, with nothing missed.
unfoldable pub one : Walked State
one = record { count = 1; end = fine }

-- THE TALLY holds it: how the walk has gone so far, the place that goes with it, the budget left, and the marks of the state concerned. What stops a walk
-- with too many readings or cases concerns no state (FORMAT 22.11, 24.16).
unfoldable pub stands : Course → (left place : ℕ) → State → Standing
stands Fine left p s = so_far left fine
stands Missed left p s = so_far left (missed p s)
stands Stuck left p s = so_far left (stopped Limits.not_executable p (in_state s))
stands Broken left p s = so_far left (stopped Limits.guard_broken p (in_state s))
stands (Other n) left p s = so_far left (stopped n p (in_state s))
stands TooWide left p s = so_far left (stopped Limits.sensing_too_wide p no_state)
stands TooMany left p s = so_far left (stopped Limits.too_many_cases p no_state)
stands Spent left p s = spent

unfoldable pub standing : Tally → Standing
standing tally = stands tally.course tally.left tally.place tally.marks

-- The answer's number that says so.
unfoldable pub number_of : Course → ℕ
number_of Fine = Limits.verified
number_of Missed = Limits.goal_missed
number_of Stuck = Limits.not_executable
number_of Broken = Limits.guard_broken
number_of (Other n) = n
number_of TooWide = Limits.sensing_too_wide
number_of TooMany = Limits.too_many_cases
number_of Spent = Limits.budget_spent

-- What concerns no state.
unfoldable pub stateless : Course → Bool
stateless Fine = false
stateless Missed = false
stateless Stuck = false
stateless Broken = false
stateless (Other n) = false
stateless TooWide = true
stateless TooMany = true
stateless Spent = false

-- Of numbers these are 37 and 44.
unfoldable pub stateless_number : (number : ℕ) → Bool
stateless_number number = either (eqb number Limits.sensing_too_wide) (eqb number Limits.too_many_cases)

-- What may be noted with a state: not 0, by which nothing is missed, not 3, by which the budget is spent, and neither 37 nor 44, which concern none.
pub record Notable (number : ℕ) : Type 0 where
  pub some : 1 ≤ number
  pub within : number ≡ Limits.budget_spent → ⊥
  pub stated : stateless_number number ≡ false

-- What is noted by a number: a miss, or what stops the walk.
unfoldable pub end_by : (number place : ℕ) → State → End State
end_by number p s = pick (eqb number Limits.goal_missed) (λ _. missed p s) (λ _. stopped number p (in_state s))

-- Neither stopped nor spent: nothing is missed, or something is.
unfoldable pub goes_on : Course → Bool
goes_on Fine = true
goes_on Missed = true
goes_on Stuck = false
goes_on Broken = false
goes_on (Other n) = false
goes_on TooWide = false
goes_on TooMany = false
goes_on Spent = false

pub record Going (tally : Tally) : Type 0 where
  pub on : goes_on tally.course ≡ true

-- A state is met, and this guard, if any, is found broken: that stops the walk, and else nothing changes.
pub record Breaks (found : Found) (marks : State) (before : Tally) (broken : Bool) (after : Tally) : Type 0 where
  pub stops : broken ≡ true → (p : ℕ) × (found ≡ at p) × (standing after ≡ so_far before.left (stopped Limits.guard_broken p (in_state marks)))
  pub passes : broken ≡ false → (found ≡ nowhere) × (after ≡ before)
