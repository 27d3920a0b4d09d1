-- By the number that the notes have.
use Rattle.steps.proofs.TriedLaws.{mode_known, mode_narrow, mode_values, mode_cases}
use Rattle.steps.proofs.trying.mode_of.Goals as goal

pub returns-in-0 : goal.returns-in-0
returns-in-0 c = search mode_known

pub returns-in-2 : goal.returns-in-2
returns-in-2 c = search mode_narrow

pub returns-in-3 : goal.returns-in-3
returns-in-3 c = search mode_values

pub returns-in_default : goal.returns-in_default
returns-in_default c = search mode_cases
