-- The line comes after the others of its action.
use Rattle.reading.specs.Noted.{line_noted}
use Rattle.reading.proofs.sections.ExecutabilitySection.note_line.Goals as goal

pub returns : goal.returns
unfolding line_noted
returns c = c.append_line.ensures
