-- The loop has written the plans up to its own, and what it has yet to write is that the rest are not reached.
use borrow.Author.Rules.{rules}
use Rattle.verdicts.proofs.ReleasingLaws.{leaving_starts, leaving_room, nothing_placed, leaving_next, leaving_done}
use Rattle.verdicts.proofs.releasing.leave_unreached.Goals as goal

pub loop-i-init : goal.loop-i-init
loop-i-init c = search (rules, leaving_starts)

pub put_answer-requires-clause-k_in_bounds : goal.put_answer-requires-clause-k_in_bounds
put_answer-requires-clause-k_in_bounds c = search (rules, leaving_room)

pub put_answer-requires-clause-place_bound : goal.put_answer-requires-clause-place_bound
put_answer-requires-clause-place_bound c = search (rules, nothing_placed)

pub loop-i-preserved : goal.loop-i-preserved
loop-i-preserved c = search (rules, leaving_next)

pub returns : goal.returns
returns c = search (rules, leaving_done)
