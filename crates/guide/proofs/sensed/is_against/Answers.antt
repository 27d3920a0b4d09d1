-- The readings that are left are those of the sensed fluents from f up, and some reading is against what is known where one of these is.
use Rattle.guide.proofs.SensedReadLaws.{against_starts, against_none, against_kept, against_found, against_next, reading_there, read_within}
use Rattle.guide.proofs.sensed.is_against.Goals as goal
use Rattle.guide.proofs.sensed.is_against.Goals.{then-looks_at+else-marks-f, else-looks_at}

pub loop-f-init : goal.loop-f-init
loop-f-init c = search against_starts

pub bounds-readings-i : goal.bounds-readings-i
bounds-readings-i c = search reading_there

pub overflow_sub-mark : goal.overflow_sub-mark
overflow_sub-mark c = search read_within

pub returns-then-marks-f : goal.returns-then-marks-f
returns-then-marks-f c = search against_found

pub loop-f-preserved : goal.loop-f-preserved
loop-f-preserved c = elim c.if-looks_at.branch [ then-looks_at+else-marks-f w ↦ rw w.i-is (search against_next) | else-looks_at w ↦ rw w.i-is (search against_kept) ]

pub returns : goal.returns
returns c = search against_none
