-- The answer of the index call, packed; its place is small, since it lies within a request that was not too long.
use Rattle.glintstring.proofs.PackingLaws.{built_small, built_packed, built_left}
use Rattle.glintstring.proofs.exports.glintstring_index.Goals as goal

pub pack-requires : goal.pack-requires
pack-requires c = search built_small

pub returns-clause-value : goal.returns-clause-value
returns-clause-value c = search built_packed

pub returns-clause-room_after : goal.returns-clause-room_after
returns-clause-room_after c = search built_left
