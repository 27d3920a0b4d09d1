-- A literal is known where its mark is the fluent's, and possible where the other mark is not.
use Rattle.reading.proofs.MarkLaws.{mark_within, holds_known, holds_possible}
use Rattle.reading.proofs.marks.holds.Goals as goal

pub overflow_sub-result : goal.overflow_sub-result
overflow_sub-result c = search mark_within

pub returns-in-Known : goal.returns-in-Known
returns-in-Known c = search holds_known

pub returns-in-Possible : goal.returns-in-Possible
returns-in-Possible c = search holds_possible
