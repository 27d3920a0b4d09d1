-- The pair's bit is set and the action's two bounds are raised, as the definition's note has it.
use Rattle.reading.proofs.NotesLaws.{pair_note}
use Rattle.reading.proofs.notes.note_pair.Goals as goal

pub returns : goal.returns
returns c = search pair_note
