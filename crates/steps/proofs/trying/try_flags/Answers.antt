-- By the mode, the action is tried in one of three ways.
use Rattle.steps.proofs.TriedLaws.{known_tried, known_stuck, narrow_tried, cases_tried}
use Rattle.steps.proofs.trying.try_flags.Goals as goal

pub returns-then-can_be_run : goal.returns-then-can_be_run
returns-then-can_be_run c = search known_tried

pub returns-else-can_be_run : goal.returns-else-can_be_run
returns-else-can_be_run c = search known_stuck

pub returns-in-Narrow : goal.returns-in-Narrow
returns-in-Narrow c = search narrow_tried

pub returns-in_default : goal.returns-in_default
returns-in_default c = search cases_tried
