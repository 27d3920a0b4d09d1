-- Flagged the literals from number i on, the flags are those of the whole body.
use Rattle.reading.proofs.MarkLaws.{count_there, first_fits}
use Rattle.steps.proofs.SliceLaws.{slice_ends, slice_starts, slice_fits}
use Rattle.steps.proofs.FlagLaws.{flags_start, flag_near, flag_set, flag_kept, flags_done}
use Rattle.steps.proofs.opening.flag_body.Goals as goal
use Rattle.steps.proofs.opening.flag_body.Goals.{then-marks-f-eq0, else-marks-f-eq0}

pub bounds-s-p : goal.bounds-s-p
bounds-s-p c = search count_there

pub overflow_add-l-items : goal.overflow_add-l-items
overflow_add-l-items c = search first_fits

pub overflow_add-l-items-2 : goal.overflow_add-l-items-2
overflow_add-l-items-2 c = search first_fits

pub overflow_add-l-items-3 : goal.overflow_add-l-items-3
overflow_add-l-items-3 c = search slice_fits

pub slice_bounds-l-items-end : goal.slice_bounds-l-items-end
slice_bounds-l-items-end c = search slice_ends

pub slice_bounds-l-items-count : goal.slice_bounds-l-items-count
slice_bounds-l-items-count c = search slice_starts

pub bounds-marks-f : goal.bounds-marks-f
bounds-marks-f c = search flag_near

pub bounds-flags-f : goal.bounds-flags-f
bounds-flags-f c = search flag_near

pub loop-l-init : goal.loop-l-init
loop-l-init c = search flags_start

pub loop-l-preserved : goal.loop-l-preserved
loop-l-preserved c = elim c.if-marks-f-eq0.branch [
  | then-marks-f-eq0 w ↦ rw w.flags-is (search flag_set)
  | else-marks-f-eq0 w ↦ rw w.flags-is (search flag_kept)
]

pub returns : goal.returns
returns c = search flags_done
