-- The slot is that of the number which the action's first line comes after.
use Rattle.reading.proofs.NotesLaws.{first_got}
use Rattle.reading.proofs.notes.first_line.Goals as goal

pub returns : goal.returns
returns c = search first_got
