-- The slot is the pair's, and so is the bit.
use Rattle.reading.proofs.NotesLaws.{pair_got}
use Rattle.reading.proofs.notes.is_noted.Goals as goal

pub returns : goal.returns
returns c = search pair_got
