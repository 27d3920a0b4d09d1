-- Told the readings that are left, those of the sensed fluents from f up, the state is that of all readings.
use Rattle.guide.proofs.SensedReadLaws.{taken_starts, taken_all, taken_kept, taken_next, reading_there}
use Rattle.guide.proofs.sensed.taken_over.Goals as goal
use Rattle.guide.proofs.sensed.taken_over.Goals.{then-looks_at, else-looks_at}

pub loop-f-init : goal.loop-f-init
loop-f-init c = search taken_starts

pub bounds-readings-i : goal.bounds-readings-i
bounds-readings-i c = search reading_there

pub loop-f-preserved : goal.loop-f-preserved
loop-f-preserved c = elim c.if-looks_at.branch [ then-looks_at w ↦ rw (w.state-is, w.i-is) (search taken_next) | else-looks_at w ↦ rw (w.state-is, w.i-is) (search taken_kept) ]

pub returns-clause-value : goal.returns-clause-value
returns-clause-value c = search taken_all
