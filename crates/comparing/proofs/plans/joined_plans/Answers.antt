-- A plan with another count than the two parts together is not their join; with that count it is exactly where its items have the bytes of
-- both, one after the other.
use Rattle.comparing.proofs.PlanLaws.{joined_other, joined_parts}
use Rattle.comparing.proofs.plans.joined_plans.Goals as goal

pub returns-else-count_of-count : goal.returns-else-count_of-count
returns-else-count_of-count c = search joined_other

pub returns-then-count_of-count : goal.returns-then-count_of-count
returns-then-count_of-count c = search joined_parts
