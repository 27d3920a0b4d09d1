-- The part starts at the smaller of the place and the end, so beyond the end it is the empty part there.
use Rattle.glintstring.proofs.ShowingLaws.{from_bytes}
use Rattle.glintstring.proofs.showing.from.Goals as goal

pub returns-clause-bytes : goal.returns-clause-bytes
returns-clause-bytes c = search from_bytes
