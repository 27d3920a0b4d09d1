-- A sequence without items is noted nowhere; of another its end, and the items met up to there, are noted at its first item.
use Rattle.reading.proofs.NotingLaws.{branch_empty, branch_ended}
use Rattle.reading.proofs.plan.note_branch.Goals as goal

pub returns-then-met-first : goal.returns-then-met-first
returns-then-met-first c = search branch_empty

pub returns : goal.returns
returns c = search branch_ended
