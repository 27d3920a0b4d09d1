-- The fluents with a flag are the open ones, since no body has a fluent that the table does not have.
use Rattle.steps.proofs.OpenedLaws.{all_opened}
use Rattle.steps.proofs.opening.opened.Goals as goal

pub returns : goal.returns
returns c = search all_opened
