-- The goals of flags are literals, each of which has to be known.
use Rattle.std.proofs.Common.{refl}
use Rattle.steps.proofs.MissLaws.{flags_goals, flags_missed}
use Rattle.steps.proofs.looks.OfFlagsLooks.goal_missed.Goals as goal

pub first_missed-requires : goal.first_missed-requires
first_missed-requires c = flags_goals _ _ _ refl c.requires.literals_here

pub returns : goal.returns
returns c = flags_missed _ _ _ _ _ refl c.first_missed.ensures
