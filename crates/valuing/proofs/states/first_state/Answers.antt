-- The marks below f are those of the first state, by the sets that the facts leave.
use Rattle.parsing.proofs.ValueReaderLaws.{few_enough}
use Rattle.valuing.proofs.FirstMarks.{marks_start, marks_on, marks_over}
use Rattle.valuing.proofs.states.first_state.Goals as goal

pub loop-f-init : goal.loop-f-init
loop-f-init c = search marks_start

pub mark_left-requires : goal.mark_left-requires
mark_left-requires c = search few_enough

pub loop-f-preserved : goal.loop-f-preserved
loop-f-preserved c = search marks_on

pub returns : goal.returns
returns c = marks_over _ _ _ _ c.loop-f.invariant c.loop-f-test.false
