-- It can be run just where asking gives a line that allows it.
use Rattle.steps.proofs.ActionLaws.{runs_by, runs_other}
use Rattle.steps.proofs.actions.can_be_run.Goals as goal

pub returns-in-By : goal.returns-in-By
returns-in-By c = search runs_by

pub returns-in_default : goal.returns-in_default
returns-in_default c = runs_other _ _ _ _ c.ask.ensures c.in_default.not-By
