-- The release call's own answer, packed; its place is small, since it lies within a file that was not too long.
use Rattle.glintstring.proofs.PackingLaws.{released_small, released_packed, released_left}
use Rattle.glintstring.proofs.exports.glintstring_release.Goals as goal

pub pack-requires : goal.pack-requires
pack-requires c = search released_small

pub returns-clause-value : goal.returns-clause-value
returns-clause-value c = search released_packed

pub returns-clause-row_after : goal.returns-clause-row_after
returns-clause-row_after c = search released_left
