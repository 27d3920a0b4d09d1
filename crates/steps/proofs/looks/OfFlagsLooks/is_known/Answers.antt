-- A literal of flags is known as its test says.
use Rattle.std.proofs.Common.{refl}
use Rattle.steps.proofs.OnwardLaws.{flags_known}
use Rattle.steps.proofs.looks.OfFlagsLooks.is_known.Goals as goal

pub returns : goal.returns
returns c = flags_known _ _ _ _ _ refl c.each_holds.ensures
