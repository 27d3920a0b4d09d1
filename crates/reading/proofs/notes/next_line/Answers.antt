-- The slot is the one that the definition names.
use Rattle.reading.proofs.NotesLaws.{next_got}
use Rattle.reading.proofs.notes.next_line.Goals as goal

pub returns : goal.returns
returns c = search next_got
