-- The plan count is small.
use Rattle.verdicts.proofs.ReleasingLaws.{plans_small}
use Rattle.glintstring.proofs.exports.glintstring_plans.Goals as goal

pub overflow_cast-result : goal.overflow_cast-result
overflow_cast-result c = search plans_small
