-- The step by cases without its limit: what it does where no action has too many cases (FORMAT 22.3 to 22.6). Assumes nothing.
use Prim.Native.Nat.{ℕ}
use Rattle.meaning.specs.Tests.{pick}
use Rattle.meaning.specs.Limits
use Rattle.meaning.specs.Requests.{Table}
use Rattle.meaning.specs.Refusals.{nowhere}
use Rattle.meaning.specs.States.{State, known, outcome_to}
use Rattle.meaning.specs.Walk.{in_state, Step, leads_to, refuses, Steps}
use Rattle.meaning.specs.ByCases.{runs_by_cases, after_cases}

unfoldable pub unlimited_does : Table → ℕ → State → Step State
unlimited_does t a s = pick (runs_by_cases t a s) (λ _. leads_to (outcome_to t a s (after_cases t a s))) (λ _. refuses Limits.not_executable (in_state s))

unfoldable pub unlimited_step : Table → Steps State ℕ
unlimited_step t = record { does = unlimited_does t; knows = known; lacks = λ _. nowhere }
