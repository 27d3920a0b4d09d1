-- Too wide, or what the table's step does.
use Rattle.steps.proofs.TriedLaws.{narrow_many, narrow_runs, narrow_stuck}
use Rattle.steps.proofs.trying.try_narrow.Goals as goal

pub returns-then-is_too_wide : goal.returns-then-is_too_wide
returns-then-is_too_wide c = search narrow_many

pub returns-then-can_be_run : goal.returns-then-can_be_run
returns-then-can_be_run c = search narrow_runs

pub returns-else-can_be_run : goal.returns-else-can_be_run
returns-else-can_be_run c = search narrow_stuck
