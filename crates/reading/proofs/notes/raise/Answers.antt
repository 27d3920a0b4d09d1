-- A slot is set where the value is above it, and left where it is not.
use Rattle.reading.proofs.NotesLaws.{raise_set, raise_not}
use Rattle.reading.proofs.notes.raise.Goals as goal

pub returns-then-get-value : goal.returns-then-get-value
returns-then-get-value c = search raise_set

pub returns-else-get-value : goal.returns-else-get-value
returns-else-get-value c = search raise_not
