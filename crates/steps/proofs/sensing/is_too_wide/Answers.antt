-- As many unknown fluents are counted as were found before the one that is looked at, and the first beyond the limit settles it.
use Rattle.steps.proofs.WideLaws.{counting_starts, next_fluent_fits, counted_wide, next_met_fits, counting_next, counted_narrow}
use Rattle.steps.proofs.sensing.is_too_wide.Goals as goal

pub loop-f-init : goal.loop-f-init
loop-f-init c = search counting_starts

pub returns-then-met-eq-FORKED : goal.returns-then-met-eq-FORKED
returns-then-met-eq-FORKED c = search counted_wide

pub overflow_add-met : goal.overflow_add-met
overflow_add-met c = search next_met_fits

pub overflow_add-f : goal.overflow_add-f
overflow_add-f c = search next_fluent_fits

pub loop-f-preserved : goal.loop-f-preserved
loop-f-preserved c = search counting_next

pub returns : goal.returns
returns c = search counted_narrow
