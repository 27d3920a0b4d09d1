-- The count of a sequence stands behind the list before it.
use Rattle.finding.proofs.ByBranch.{list_starts, list_first, list_behind, sequence_is}
use Rattle.finding.proofs.branches.sequence_of.Goals as goal

pub bounds-s-p : goal.bounds-s-p
bounds-s-p c = search list_starts

pub overflow_add-first : goal.overflow_add-first
overflow_add-first c = search list_first

pub overflow_add-result : goal.overflow_add-result
overflow_add-result c = search list_behind

pub returns : goal.returns
returns c = search sequence_is
