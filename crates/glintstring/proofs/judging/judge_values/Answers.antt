-- The three ways out, as of the walk call; the mode of values is put into the notes of a settled request.
use Rattle.glintstring.proofs.JudgingLaws.{values_9, values_walked, values_refused}
use Rattle.glintstring.proofs.SettledAtHand.{values_hand}
use Rattle.verdicts.proofs.ReleasingLaws.{blank_is}
use borrow.Author.Rules.{rules}
use Rattle.glintstring.proofs.judging.judge_values.Goals as goal

pub returns-then-state-ne-STATE_BYTES : goal.returns-then-state-ne-STATE_BYTES
returns-then-state-ne-STATE_BYTES c = values_9 _ _ _ _ c.if-state-ne-STATE_BYTES.true c.uncounted.ensures

pub settle_values-requires : goal.settle_values-requires
settle_values-requires c = search (rules, blank_is)

pub of-requires : goal.of-requires
of-requires c = let told = c.in-Ok.is in let bytes = c.type_inv.request in values_hand _ _ _ _ c.settle_values.ensures _ told bytes blank_is _ c.put.ensures

pub returns-in-Ok : goal.returns-in-Ok
returns-in-Ok c = let walked = rw (c.of.ensures.bytes, c.of.ensures.notes) at c.walk_plan.ensures in values_walked _ _ _ _ c.if-state-ne-STATE_BYTES.false _ _ _ c.settle_values.ensures _ c.in-Ok.is c.type_inv.request blank_is _ c.put.ensures _ walked

pub returns-in-Err : goal.returns-in-Err
returns-in-Err c = values_refused _ _ _ _ c.if-state-ne-STATE_BYTES.false _ _ _ c.settle_values.ensures _ c.in-Err.is c.refused.ensures
