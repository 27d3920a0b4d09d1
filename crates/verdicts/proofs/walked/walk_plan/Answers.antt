-- The walk starts in the first state at the first item, and adds its whole to a tally that nothing was walked for; so what the tally tells is the
-- walk within the budget.
use Rattle.steps.proofs.FirstLaws.{starts_there}
use Rattle.verdicts.proofs.WalkedLaws.{first_fits, plan_tallied, plan_judged}
use Rattle.verdicts.proofs.walked.walk_plan.Goals as goal

pub walk-requires-clause-position : goal.walk-requires-clause-position
walk-requires-clause-position g c = search starts_there

pub walk-requires-clause-marked_as : goal.walk-requires-clause-marked_as
walk-requires-clause-marked_as g c = search first_fits

pub tell-requires-clause-tallied : goal.tell-requires-clause-tallied
tell-requires-clause-tallied g c = search plan_tallied

pub returns : goal.returns
returns g c = search plan_judged
