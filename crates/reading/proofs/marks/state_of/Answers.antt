-- Told the entries that are left, the marks are those of the whole list.
use Rattle.reading.proofs.ListedLaws.{fluent_listed}
use Rattle.reading.proofs.MarkLaws.{state_starts, state_next, state_done}
use Rattle.reading.proofs.marks.state_of.Goals as goal

pub loop-l-init : goal.loop-l-init
loop-l-init c = search state_starts

pub bounds-marks-l : goal.bounds-marks-l
bounds-marks-l c = search fluent_listed

pub loop-l-preserved : goal.loop-l-preserved
loop-l-preserved c = search state_next

pub returns : goal.returns
returns c = search state_done
