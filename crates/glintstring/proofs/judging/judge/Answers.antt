-- The three ways out: another length than a state's, a refusal, and the walk of a settled request. Each is a case of the definition.
use mathlib.Core.Path.{◌∙◌}
use Rattle.glintstring.proofs.JudgingLaws.{judge_9, judge_walked, judge_refused}
use Rattle.glintstring.proofs.SettledAtHand.{settled_at_hand}
use Rattle.verdicts.proofs.ReleasingLaws.{blank_is}
use borrow.Author.Rules.{rules}
use Rattle.glintstring.proofs.judging.judge.Goals as goal

pub returns-then-state-ne-STATE_BYTES : goal.returns-then-state-ne-STATE_BYTES
returns-then-state-ne-STATE_BYTES c =
    let both = judge_9 _ _ _ _ _ c.if-state-ne-STATE_BYTES.true (c.without_walk.ensures.answer_value ∙ c.uncounted.ensures) c.without_walk.ensures.line_value in
    record { given = both.0; line = both.1 }

pub settle-requires : goal.settle-requires
settle-requires c = search (rules, blank_is)

pub of-requires : goal.of-requires
of-requires c = let told = c.in-Ok.is in let bytes = c.type_inv.request in settled_at_hand _ _ _ _ c.settle.ensures _ told bytes blank_is

pub returns-in-Ok : goal.returns-in-Ok
returns-in-Ok c =
    let given = rw (c.of.ensures.bytes, c.of.ensures.notes) at c.walk_with_line.ensures.given in
    let line = rw c.of.ensures.bytes at c.walk_with_line.ensures.line in
    let both = judge_walked _ _ _ _ _ c.if-state-ne-STATE_BYTES.false _ _ _ c.settle.ensures _ c.in-Ok.is c.type_inv.request blank_is _ given line in
    record { given = both.0; line = both.1 }

pub returns-in-Err : goal.returns-in-Err
returns-in-Err c =
    let both = judge_refused _ _ _ _ _ c.if-state-ne-STATE_BYTES.false _ _ _ c.settle.ensures _ c.in-Err.is (c.without_walk-in-Err.ensures.answer_value ∙ c.refused.ensures) c.without_walk-in-Err.ensures.line_value in
    record { given = both.0; line = both.1 }
