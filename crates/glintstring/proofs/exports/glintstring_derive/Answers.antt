-- The answer of the derive call, packed; its place is small, since it lies within a request that was not too long.
use Rattle.glintstring.proofs.PackingLaws.{derived_small, built_packed, built_left}
use Rattle.glintstring.proofs.exports.glintstring_derive.Goals as goal

pub pack-requires : goal.pack-requires
pack-requires c = search derived_small

pub returns-clause-value : goal.returns-clause-value
returns-clause-value c = search built_packed

pub returns-clause-out_after : goal.returns-clause-out_after
returns-clause-out_after c = search built_left
