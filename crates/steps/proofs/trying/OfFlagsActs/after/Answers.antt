-- An action of flags that runs does so in the mode of the walk.
use Rattle.std.proofs.Common.{refl}
use Rattle.steps.proofs.FormSteps.{flags_led}
use Rattle.steps.proofs.trying.OfFlagsActs.after.Goals as goal

pub after_flags-requires-clause-marks_value : goal.after_flags-requires-clause-marks_value
after_flags-requires-clause-marks_value c = flags_led _ _ _ _ _ refl c.requires.marks_value
