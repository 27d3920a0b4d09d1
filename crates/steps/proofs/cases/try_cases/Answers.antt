-- More open fluents than the limit end it. Else the open fluents are held, what can be run by what is known can be run by cases, and to fill the open fluents is enough.
use Rattle.steps.proofs.TriedLaws.{tried_many, tried_known, tried_filling, tried_filled, tried_stuck}
use Rattle.steps.proofs.cases.try_cases.Goals as goal
use Rattle.steps.proofs.cases.try_cases.Goals.{then-can_be_run, else-can_be_run}

pub returns-then-wide-gt-OPEN : goal.returns-then-wide-gt-OPEN
returns-then-wide-gt-OPEN c = search tried_many

pub runs_in_each-requires-clause-filling : goal.runs_in_each-requires-clause-filling
runs_in_each-requires-clause-filling c = search tried_filling

pub returns-then-runs_in_each : goal.returns-then-runs_in_each
returns-then-runs_in_each c = elim c.if-can_be_run.branch [
  | then-can_be_run w ↦ search tried_known
  | else-can_be_run w ↦ search tried_filled
]

pub returns-else-runs_in_each : goal.returns-else-runs_in_each
returns-else-runs_in_each c = elim c.if-can_be_run.branch [
  | then-can_be_run w ↦ cc
  | else-can_be_run w ↦ search tried_stuck
]
