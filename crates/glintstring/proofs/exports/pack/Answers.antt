-- Each part fits beside the others in 64 bits, and the sum is the definition's.
use Rattle.glintstring.proofs.PackingLaws.{packs}
use Rattle.glintstring.proofs.exports.pack.Goals as goal

pub returns : goal.returns
returns c = search packs
