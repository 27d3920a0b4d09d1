-- A line of this section is an executability line.
use Rattle.reading.specs.Noted.{line_read, line_at}
use Rattle.reading.proofs.sections.ExecutabilitySection.line_at.Goals as goal

pub returns : goal.returns
unfolding line_read line_at
returns g c = c.executability_at.ensures
