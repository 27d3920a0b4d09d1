-- The table's step runs the action exactly where it can be run.
use Rattle.steps.proofs.FormSteps.{hand_runs, valued_runs, valued_stuck}
use borrow.Author.Rules.{rules}
use Rattle.steps.proofs.trying.OfValuesActs.tried.Goals as goal

pub can_be_run-requires : goal.can_be_run-requires
can_be_run-requires c = search (rules, hand_runs)

pub returns-then-can_be_run : goal.returns-then-can_be_run
returns-then-can_be_run c = search valued_runs

pub returns-else-can_be_run : goal.returns-else-can_be_run
returns-else-can_be_run c = search valued_stuck
