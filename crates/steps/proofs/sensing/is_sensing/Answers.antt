-- The notes have a largest sensed fluent exactly where the action has a knowledge line.
use Rattle.steps.proofs.LookAs.{sensing_is}
use Rattle.steps.proofs.sensing.is_sensing.Goals as goal

pub returns : goal.returns
returns g c = search sensing_is
