-- The slot is the one that the definition names.
use Rattle.reading.proofs.NotesLaws.{place_got}
use Rattle.reading.proofs.notes.line_place.Goals as goal

pub returns : goal.returns
returns c = search place_got
