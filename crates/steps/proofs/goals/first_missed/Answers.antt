-- From each entry that is met on, the list misses what the whole list does.
use Rattle.steps.proofs.MissLaws.{list_there, first_fits, list_fits, missed_starts, entry_there, entry_below, missed_here, missed_next, missed_done}
use Rattle.steps.proofs.goals.first_missed.Goals as goal

pub overflow_add-i-end : goal.overflow_add-i-end
overflow_add-i-end c = search first_fits

pub overflow_add-i-end-2 : goal.overflow_add-i-end-2
overflow_add-i-end-2 c = search list_fits

pub bounds-s-p : goal.bounds-s-p
bounds-s-p c = search list_there

pub loop-i-init : goal.loop-i-init
loop-i-init c = search missed_starts

pub bounds-s-i : goal.bounds-s-i
bounds-s-i c = search entry_there

pub met-requires : goal.met-requires
met-requires c = search entry_below

pub returns-then-not-met : goal.returns-then-not-met
returns-then-not-met c = search missed_here

pub loop-i-preserved : goal.loop-i-preserved
loop-i-preserved c = search missed_next

pub returns : goal.returns
returns c = search missed_done
