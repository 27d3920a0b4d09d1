-- The answer of the values call, packed; its place is small, since it lies within a request that was not too long.
use Rattle.glintstring.proofs.PackingLaws.{values_small, judged_packed, judged_left}
use Rattle.glintstring.proofs.exports.glintstring_judge_values.Goals as goal

pub pack-requires : goal.pack-requires
pack-requires c = search values_small

pub returns-clause-value : goal.returns-clause-value
returns-clause-value c = search judged_packed

pub returns-clause-state_after : goal.returns-clause-state_after
returns-clause-state_after c = search judged_left
