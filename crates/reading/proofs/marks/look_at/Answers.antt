-- What the entries that are left tell, with what those before told, is what all of them tell.
use Rattle.reading.proofs.ListedLaws.{fluent_listed}
use Rattle.reading.proofs.MarkLaws.{look_starts, mark_within, look_next, look_never, look_sure_done, look_unsure_done}
use Rattle.reading.proofs.marks.look_at.Goals as goal

pub loop-literal-init : goal.loop-literal-init
loop-literal-init c = search look_starts

pub overflow_sub-mark : goal.overflow_sub-mark
overflow_sub-mark c = search mark_within

pub bounds-marks-l : goal.bounds-marks-l
bounds-marks-l c = search fluent_listed

pub bounds-marks-l-in-loop-literal : goal.bounds-marks-l-in-loop-literal
bounds-marks-l-in-loop-literal c = search fluent_listed

pub returns-then-marks-l : goal.returns-then-marks-l
returns-then-marks-l c = search look_never

pub loop-literal-preserved : goal.loop-literal-preserved
loop-literal-preserved c = search look_next

pub returns-then-sure : goal.returns-then-sure
returns-then-sure c = search look_sure_done

pub returns-else-sure : goal.returns-else-sure
returns-else-sure c = search look_unsure_done
