-- An even literal says true and an odd one false.
use Rattle.reading.proofs.MarkLaws.{mark_even, mark_odd}
use Rattle.reading.proofs.marks.mark_of.Goals as goal

pub returns-then-l-eq0 : goal.returns-then-l-eq0
returns-then-l-eq0 c = search mark_even

pub returns-else-l-eq0 : goal.returns-else-l-eq0
returns-else-l-eq0 c = search mark_odd
