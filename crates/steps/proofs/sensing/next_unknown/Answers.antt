-- A turn that finds nothing leaves the first one where it was, and from the end that the notes have no fluent is sensed.
use Rattle.steps.proofs.LookAs.{fluent_near, sought_starts, look_found, look_unsensed, look_marked, look_done}
use Rattle.steps.proofs.sensing.next_unknown.Goals as goal
use Rattle.steps.proofs.sensing.next_unknown.Goals.{else-marks-f-eq0-via-then-marks-f-eq0+else-is_noted, else-marks-f-eq0-via-else-marks-f-eq0}

pub loop-f-init : goal.loop-f-init
loop-f-init g c = search sought_starts

pub bounds-marks-f : goal.bounds-marks-f
bounds-marks-f g c = search fluent_near

pub is_noted-requires-clause-f_lt_fluents : goal.is_noted-requires-clause-f_lt_fluents
is_noted-requires-clause-f_lt_fluents g c = search fluent_near

pub returns-then-is_noted : goal.returns-then-is_noted
returns-then-is_noted g c = search look_found

pub loop-f-preserved : goal.loop-f-preserved
loop-f-preserved g c = elim c.else-marks-f-eq0.branch [
  | else-marks-f-eq0-via-then-marks-f-eq0+else-is_noted w ↦ search look_unsensed
  | else-marks-f-eq0-via-else-marks-f-eq0 w ↦ search look_marked
]

pub returns : goal.returns
returns g c = search look_done
