-- What was answered so far and what is left are all the answers; at a plan that fails, its fault and the plans behind it are all that is left.
use borrow.Author.Rules.{rules}
use Rattle.parsing.proofs.LineReaderLaws.{counted_flags}
use Rattle.verdicts.proofs.ReleasingLaws.{answering_starts, answering_hand, answering_unguarded, answering_known, answering_room, answering_small, answering_next, answering_fault, answering_few, answering_sized, answering_stops, answering_done}
use Rattle.verdicts.proofs.releasing.answer_plans.Goals as goal

pub loop-k-init : goal.loop-k-init
loop-k-init c = search (rules, answering_starts)

pub request_at-requires-clause-counted : goal.request_at-requires-clause-counted
request_at-requires-clause-counted c = search (rules, counted_flags)

pub of-requires : goal.of-requires
of-requires c = search (rules, answering_hand)

pub answer_plan-answer-requires-clause-guards : goal.answer_plan-answer-requires-clause-guards
answer_plan-answer-requires-clause-guards c = rw (c.of.ensures.bytes, c.of.ensures.notes) (search (rules, answering_unguarded))

pub answer_plan-answer-requires-clause-mode : goal.answer_plan-answer-requires-clause-mode
answer_plan-answer-requires-clause-mode c = rw c.of.ensures.notes (search (rules, answering_known))

pub put_answer-requires-clause-k_in_bounds : goal.put_answer-requires-clause-k_in_bounds
put_answer-requires-clause-k_in_bounds c = search (rules, answering_room)

pub put_answer-requires-clause-place_bound : goal.put_answer-requires-clause-place_bound
put_answer-requires-clause-place_bound c = let given = rw (c.of.ensures.bytes, c.of.ensures.notes) at c.answer_plan-answer.ensures in search (rules, answering_small)

pub loop-k-preserved : goal.loop-k-preserved
loop-k-preserved c = let given = rw (c.of.ensures.bytes, c.of.ensures.notes) at c.answer_plan-answer.ensures in search (rules, answering_next)

pub put_answer-requires-in-Err-clause-k_in_bounds : goal.put_answer-requires-in-Err-clause-k_in_bounds
put_answer-requires-in-Err-clause-k_in_bounds c = search (rules, answering_room)

pub put_answer-requires-in-Err-clause-place_bound : goal.put_answer-requires-in-Err-clause-place_bound
put_answer-requires-in-Err-clause-place_bound c = search (rules, answering_fault)

pub leave_unreached-requires-clause-k_le_plans : goal.leave_unreached-requires-clause-k_le_plans
leave_unreached-requires-clause-k_le_plans c = search (rules, answering_few)

pub leave_unreached-requires-clause-row_len : goal.leave_unreached-requires-clause-row_len
leave_unreached-requires-clause-row_len c = search (rules, answering_sized)

pub returns-in-Err : goal.returns-in-Err
returns-in-Err c = search (rules, answering_stops)

pub returns : goal.returns
returns c = search (rules, answering_done)
