-- The three ways out, as of the walk call; the mode is put into the notes of a settled request.
use mathlib.Core.Path.{◌∙◌}
use Rattle.glintstring.proofs.JudgingLaws.{cases_9, cases_walked, cases_refused}
use Rattle.glintstring.proofs.SettledAtHand.{cases_hand}
use Rattle.verdicts.proofs.ReleasingLaws.{blank_is}
use borrow.Author.Rules.{rules}
use Rattle.glintstring.proofs.judging.judge_by_cases.Goals as goal

pub returns-then-state-ne-STATE_BYTES : goal.returns-then-state-ne-STATE_BYTES
returns-then-state-ne-STATE_BYTES c =
    let both = cases_9 _ _ _ _ _ c.if-state-ne-STATE_BYTES.true (c.without_walk.ensures.answer_value ∙ c.uncounted.ensures) c.without_walk.ensures.line_value in
    record { given = both.0; line = both.1 }

pub settle-requires : goal.settle-requires
settle-requires c = search (rules, blank_is)

pub of-requires : goal.of-requires
of-requires c = let told = c.in-Ok.is in let bytes = c.type_inv.request in cases_hand _ _ _ _ c.settle.ensures _ told bytes blank_is _ c.put.ensures

pub returns-in-Ok : goal.returns-in-Ok
returns-in-Ok c =
    let given = rw (c.of.ensures.bytes, c.of.ensures.notes) at c.walk_with_line.ensures.given in
    let line = rw c.of.ensures.bytes at c.walk_with_line.ensures.line in
    let both = cases_walked _ _ _ _ _ c.if-state-ne-STATE_BYTES.false _ _ _ c.settle.ensures _ c.in-Ok.is c.type_inv.request blank_is _ c.put.ensures _ given line in
    record { given = both.0; line = both.1 }

pub returns-in-Err : goal.returns-in-Err
returns-in-Err c =
    let both = cases_refused _ _ _ _ _ c.if-state-ne-STATE_BYTES.false _ _ _ c.settle.ensures _ c.in-Err.is (c.without_walk-in-Err.ensures.answer_value ∙ c.refused.ensures) c.without_walk-in-Err.ensures.line_value in
    record { given = both.0; line = both.1 }
