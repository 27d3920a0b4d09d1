-- A turn puts one citation in two bytes; what is left then makes of the room what the whole makes of it.
use Rattle.writing.proofs.CiteLaws.{citing_starts, cite_near, cite_passed, citing_next, cites_end, cites_within, cites_put}
use Rattle.writing.proofs.lines.put_cites.Goals as goal

pub loop-line-init : goal.loop-line-init
loop-line-init c = search citing_starts

pub put_number-requires-clause-q_bound : goal.put_number-requires-clause-q_bound
put_number-requires-clause-q_bound c = search cite_near

pub overflow_add-p-in-loop-line : goal.overflow_add-p-in-loop-line
overflow_add-p-in-loop-line c = search cite_passed

pub loop-line-preserved : goal.loop-line-preserved
loop-line-preserved c = search citing_next

pub returns-clause-after : goal.returns-clause-after
returns-clause-after c = rw (← c.lines-lines.ensures.same) (search cites_end)

pub returns-clause-within : goal.returns-clause-within
returns-clause-within c = search cites_within

pub returns-clause-written : goal.returns-clause-written
returns-clause-written c = rw (← c.lines-lines.ensures.same) (search cites_put)
