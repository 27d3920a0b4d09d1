-- The four ways out: another length than a state's, a refusal, another index, and the walk of a settled request with its index taken into the notes.
use mathlib.Core.Path.{◌∙◌}
use Rattle.glintstring.proofs.SettledAtHand.{settled_table}
use Rattle.glintstring.proofs.IndexedLaws.{indexed_9, indexed_refused, indexed_differs, indexed_walked, right_one, indexed_hand}
use Rattle.verdicts.proofs.ReleasingLaws.{blank_is}
use borrow.Author.Rules.{rules}
use Rattle.glintstring.proofs.judging.judge_indexed.Goals as goal

pub returns-then-state-ne-STATE_BYTES : goal.returns-then-state-ne-STATE_BYTES
returns-then-state-ne-STATE_BYTES c =
    let both = indexed_9 _ _ _ _ _ _ c.if-state-ne-STATE_BYTES.true (c.without_walk.ensures.answer_value ∙ c.uncounted.ensures) c.without_walk.ensures.line_value in
    record { given = both.0; line = both.1 }

pub settle-requires : goal.settle-requires
settle-requires c = search (rules, blank_is)

pub differs-requires : goal.differs-requires
differs-requires c = settled_table _ _ _ _ c.settle.ensures _ c.in-Ok.is c.type_inv.request blank_is

pub take_index-requires-clause-table_here : goal.take_index-requires-clause-table_here
take_index-requires-clause-table_here c = settled_table _ _ _ _ c.settle.ensures _ c.in-Ok.is c.type_inv.request blank_is

pub take_index-requires-clause-index_value : goal.take_index-requires-clause-index_value
take_index-requires-clause-index_value c = right_one _ _ _ c.differs.ensures c.in-None.is

pub of-requires : goal.of-requires
of-requires c = let right = right_one _ _ _ c.differs.ensures c.in-None.is in let told = c.in-Ok.is in let bytes = c.type_inv.request in indexed_hand _ _ _ _ c.settle.ensures _ told bytes blank_is _ right _ c.take_index.ensures

pub returns-in-None : goal.returns-in-None
returns-in-None c =
    let given = rw (c.of.ensures.bytes, c.of.ensures.notes) at c.walk_with_line.ensures.given in
    let line = rw c.of.ensures.bytes at c.walk_with_line.ensures.line in
    let right = right_one _ _ _ c.differs.ensures c.in-None.is in
    let both = indexed_walked _ _ _ _ _ _ c.if-state-ne-STATE_BYTES.false _ _ _ c.settle.ensures _ c.in-Ok.is c.type_inv.request blank_is right _ c.take_index.ensures _ given line in
    record { given = both.0; line = both.1 }

pub returns-in-Some : goal.returns-in-Some
returns-in-Some c =
    let both = indexed_differs _ _ _ _ _ _ c.if-state-ne-STATE_BYTES.false _ _ _ c.settle.ensures _ c.in-Ok.is c.type_inv.request blank_is _ _ c.differs.ensures c.in-Some.is (c.without_walk-in-Some.ensures.answer_value ∙ c.uncounted-in-Some.ensures) c.without_walk-in-Some.ensures.line_value in
    record { given = both.0; line = both.1 }

pub returns-in-Err : goal.returns-in-Err
returns-in-Err c =
    let both = indexed_refused _ _ _ _ _ _ c.if-state-ne-STATE_BYTES.false _ _ _ c.settle.ensures _ c.in-Err.is (c.without_walk-in-Err.ensures.answer_value ∙ c.refused.ensures) c.without_walk-in-Err.ensures.line_value in
    record { given = both.0; line = both.1 }
