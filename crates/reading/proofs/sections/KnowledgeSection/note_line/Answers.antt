-- The pair of the action and the fluent is noted.
use mathlib.Core.Path.{refl}
use Rattle.reading.specs.Noted.{line_noted}
use Rattle.reading.proofs.sections.KnowledgeSection.note_line.Goals as goal

pub note_pair-requires-clause-f_lt_fluents : goal.note_pair-requires-clause-f_lt_fluents
note_pair-requires-clause-f_lt_fluents c = c.requires refl

pub returns : goal.returns
unfolding line_noted
returns c = c.note_pair.ensures
