-- Line k is one of the lines, which stand where the slots say.
use Rattle.comparing.proofs.SpotLaws.{some_at, spot_is}
use Rattle.comparing.proofs.spots.spot_of.Goals as goal

pub spot_at-requires : goal.spot_at-requires
spot_at-requires c = search some_at

pub returns : goal.returns
returns c = search spot_is
