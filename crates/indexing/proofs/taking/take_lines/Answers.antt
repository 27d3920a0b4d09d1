-- At each turn the offsets that are left give what all of them give, and line n stands with those before it in the notes.
use Rattle.indexing.proofs.TakeLaws.{taking_starts, taking_next, taking_end, taking_done}
use Rattle.indexing.proofs.taking.take_lines.Goals as goal

pub loop-init : goal.loop-init
loop-init c = search taking_starts

pub loop-preserved : goal.loop-preserved
loop-preserved c = search taking_next

pub returns-clause-value : goal.returns-clause-value
returns-clause-value c = search taking_end

pub returns-clause-t_after : goal.returns-clause-t_after
returns-clause-t_after c = search taking_done
