-- The goals stand in the request as a conclusion does in a line.
use Rattle.writing.proofs.PutLineLaws.{goals_there, goals_order, goals_inside, goals_fit, goals_within, goals_end, goals_put}
use Rattle.writing.proofs.lines.put_asked.Goals as goal

pub sequence_of-end-requires : goal.sequence_of-end-requires
sequence_of-end-requires c = search goals_there

pub put_part-requires-clause-p_le_e : goal.put_part-requires-clause-p_le_e
put_part-requires-clause-p_le_e c = search goals_order

pub put_part-requires-clause-e_in_bounds : goal.put_part-requires-clause-e_in_bounds
put_part-requires-clause-e_in_bounds c = search goals_inside

pub overflow_sub-result : goal.overflow_sub-result
overflow_sub-result c = search goals_order

pub overflow_add-result : goal.overflow_add-result
overflow_add-result c = search goals_fit

pub returns-clause-after : goal.returns-clause-after
returns-clause-after c = search goals_end

pub returns-clause-within : goal.returns-clause-within
returns-clause-within c = search goals_within

pub returns-clause-written : goal.returns-clause-written
returns-clause-written c = search goals_put
