-- The counts of actions, effects and executability lines are those of the table, and the index has two bytes for each.
use Rattle.finding.proofs.StartLaws.{second_byte}
use Rattle.indexing.proofs.BuildLaws.{index_total, total_fits, sum_fits, part_fits}
use Rattle.indexing.proofs.building.index_length.Goals as goal

pub bounds-s-1 : goal.bounds-s-1
bounds-s-1 c = search second_byte

pub overflow_add-result : goal.overflow_add-result
overflow_add-result c = search part_fits

pub overflow_add-result-2 : goal.overflow_add-result-2
overflow_add-result-2 c = search sum_fits

pub overflow_mul-result : goal.overflow_mul-result
overflow_mul-result c = search total_fits

pub returns : goal.returns
returns c = search index_total
