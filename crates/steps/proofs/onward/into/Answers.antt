-- A branch with no item goes on after the branching, and any other begins with its first item.
use Rattle.steps.proofs.OnwardLaws.{into_empty, into_item}
use Rattle.steps.proofs.onward.into.Goals as goal

pub returns-then-empty : goal.returns-then-empty
returns-then-empty g c = let place = rw c.FORM.ensures at c.sequence_of.ensures in search into_empty

pub returns-else-empty : goal.returns-else-empty
returns-else-empty g c = let place = rw c.FORM.ensures at c.sequence_of.ensures in search into_item
