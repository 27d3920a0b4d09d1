-- An action of flags is tried in the mode of the walk.
use Rattle.std.proofs.Common.{refl}
use Rattle.steps.proofs.FormSteps.{flags_tried}
use Rattle.steps.proofs.trying.OfFlagsActs.tried.Goals as goal

pub returns : goal.returns
returns c = flags_tried _ _ _ _ _ refl _ c.try_flags.ensures
