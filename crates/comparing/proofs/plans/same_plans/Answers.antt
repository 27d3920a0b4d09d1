-- Plans with other counts are not the same; with the same count they are exactly where their items have the same bytes.
use Rattle.comparing.proofs.PlanLaws.{plans_other, plans_parts}
use Rattle.comparing.proofs.plans.same_plans.Goals as goal

pub returns-else-count_of : goal.returns-else-count_of
returns-else-count_of c = search plans_other

pub returns-then-count_of : goal.returns-then-count_of
returns-then-count_of c = search plans_parts
