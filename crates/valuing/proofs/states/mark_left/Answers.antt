-- What is left of the values from v up, with what was found below, is what is left of all.
use Rattle.valuing.proofs.FirstMarks.{left_starts, left_over, left_not, left_one, left_two}
use Rattle.valuing.proofs.states.mark_left.Goals as goal
use Rattle.valuing.proofs.states.mark_left.Goals.{then-has_bit+else-mark-ne-UNKNOWN_MARK, else-has_bit}

pub loop-v-init : goal.loop-v-init
loop-v-init c = search left_starts

pub returns-then-mark-ne-UNKNOWN_MARK : goal.returns-then-mark-ne-UNKNOWN_MARK
returns-then-mark-ne-UNKNOWN_MARK c = search left_two

pub loop-v-preserved : goal.loop-v-preserved
loop-v-preserved c =
    elim c.if-has_bit.branch [
      | then-has_bit+else-mark-ne-UNKNOWN_MARK w ↦ rw w.mark-is (search left_one)
      | else-has_bit w ↦ rw w.mark-is (search left_not)
    ]

pub returns : goal.returns
returns c = search left_over
