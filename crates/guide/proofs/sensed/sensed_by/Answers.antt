-- The sensed fluents below f are in the row, with 0 behind them, and those from f up are to come.
use Rattle.guide.proofs.SensedReadLaws.{row_starts, row_kept, row_more, row_told}
use Rattle.guide.proofs.sensed.sensed_by.Goals as goal
use Rattle.guide.proofs.sensed.sensed_by.Goals.{then-looks_at, else-looks_at}

pub loop-f-init : goal.loop-f-init
loop-f-init c = search row_starts

pub loop-f-preserved : goal.loop-f-preserved
loop-f-preserved c = elim c.if-looks_at.branch [ then-looks_at w ↦ rw (w.row-is, w.count-is) (search row_more) | else-looks_at w ↦ rw (w.row-is, w.count-is) (search row_kept) ]

pub returns : goal.returns
returns c = search row_told
