-- The answer of the indexed call, packed; its place is small, in the request or in the index.
use Rattle.glintstring.proofs.PackingLaws.{indexed_small, judged_packed, judged_left}
use Rattle.glintstring.proofs.exports.glintstring_judge_indexed.Goals as goal

pub pack-requires : goal.pack-requires
pack-requires c = search indexed_small

pub returns-clause-value : goal.returns-clause-value
returns-clause-value c = search judged_packed

pub returns-clause-state_after : goal.returns-clause-state_after
returns-clause-state_after c = search judged_left
