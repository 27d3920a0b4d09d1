-- The answer is one of the guide's own.
use Rattle.guide.proofs.TurnLaws.{refused_own}
use Rattle.guide.proofs.going.refused_step.Goals as goal

pub returns : goal.returns
returns c = search refused_own
