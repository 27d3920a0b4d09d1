-- The marks are looked at where the position is one of the plan.
use Rattle.guide.proofs.GuideHeldLaws.{both_there, not_there}
use Rattle.guide.proofs.calls.is_going.Goals as goal

pub returns-then-is_position-clause-value : goal.returns-then-is_position-clause-value
returns-then-is_position-clause-value c = search both_there

pub returns-else-is_position-clause-value : goal.returns-else-is_position-clause-value
returns-else-is_position-clause-value c = search not_there
