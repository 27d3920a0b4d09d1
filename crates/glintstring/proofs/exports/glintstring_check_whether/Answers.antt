-- The whether call's answer, packed; its place is small, since it lies within an input that was not too long.
use Rattle.glintstring.proofs.PackingLaws.{checked_small, checked_packed}
use Rattle.glintstring.proofs.exports.glintstring_check_whether.Goals as goal

pub pack-requires : goal.pack-requires
pack-requires c = search checked_small

pub returns : goal.returns
returns c = search checked_packed
