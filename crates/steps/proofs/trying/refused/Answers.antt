-- By the mode of the walk.
use Rattle.steps.proofs.TriedLaws.{refused_narrow, refused_many}
use Rattle.steps.proofs.trying.refused.Goals as goal

pub returns-in-Narrow : goal.returns-in-Narrow
returns-in-Narrow c = search refused_narrow

pub returns-in_default : goal.returns-in_default
returns-in_default c = search refused_many
