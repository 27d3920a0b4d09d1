-- What is put into a room of no use is as long as what another will hold.
use Rattle.schemes.proofs.PassLaws.{plan_measured}
use Rattle.schemes.proofs.scheme.measure.Goals as goal

pub returns : goal.returns
returns c = search plan_measured
