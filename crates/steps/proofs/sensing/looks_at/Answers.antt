-- The notes have a bit for each action and fluent, which is there exactly where a knowledge line says so.
use Rattle.steps.proofs.LookAs.{looks_is}
use Rattle.steps.proofs.sensing.looks_at.Goals as goal

pub returns : goal.returns
returns c = search looks_is
