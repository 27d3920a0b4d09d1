-- From no flag on, those of the effects' bodies are set, and then those of the executability lines' bodies.
use Rattle.steps.proofs.FlagLaws.{open_flagged}
use Rattle.steps.proofs.opening.open_flags.Goals as goal

pub returns : goal.returns
returns c = search open_flagged
