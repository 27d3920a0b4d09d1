-- A line of this section is a knowledge line.
use Rattle.reading.specs.Noted.{line_read, line_at}
use Rattle.reading.proofs.sections.KnowledgeSection.line_at.Goals as goal

pub returns : goal.returns
unfolding line_read line_at
returns g c = c.knowledge_at.ensures
