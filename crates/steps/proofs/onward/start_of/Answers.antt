-- Each arm is one of the two that the definition picks.
use Rattle.steps.proofs.FirstLaws.{start_end, start_first}
use Rattle.steps.proofs.onward.start_of.Goals as goal

pub returns-then-items-eq0 : goal.returns-then-items-eq0
returns-then-items-eq0 c = search start_end

pub returns-else-items-eq0 : goal.returns-else-items-eq0
returns-else-items-eq0 c = search start_first
