-- Where the walk stopped there is an item, and the line is told of it; every other answer has none.
use Rattle.glintstring.proofs.MissingLaws.{stop_byte, told_stuck, told_none}
use Rattle.glintstring.proofs.judging.walk_with_line.Goals as goal

pub line_at-line-requires-clause-item_byte : goal.line_at-line-requires-clause-item_byte
line_at-line-requires-clause-item_byte c = search stop_byte

pub returns-then-answer-eq-NOT_EXECUTABLE-clause-line : goal.returns-then-answer-eq-NOT_EXECUTABLE-clause-line
returns-then-answer-eq-NOT_EXECUTABLE-clause-line c = search told_stuck

pub returns-else-answer-eq-NOT_EXECUTABLE-clause-line : goal.returns-else-answer-eq-NOT_EXECUTABLE-clause-line
returns-else-answer-eq-NOT_EXECUTABLE-clause-line c = search told_none
