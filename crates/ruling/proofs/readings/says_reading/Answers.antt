-- The line says the reading exactly where its list X is what the state knows, its count and its items' bytes are those of what follows the action,
-- and its conclusion is the same.
use Rattle.ruling.proofs.ReadingRuleLaws.{cited_counted, cited_fits, cited_ends, starts_other, count_other, items_other, items_same}
use Rattle.ruling.proofs.readings.says_reading.Goals as goal

pub returns-then-not-lists_known : goal.returns-then-not-lists_known
returns-then-not-lists_known c = search starts_other

pub count_of-requires : goal.count_of-requires
count_of-requires c = search cited_counted

pub returns-then-count_of-saturating_sub : goal.returns-then-count_of-saturating_sub
returns-then-count_of-saturating_sub c = search count_other

pub overflow_add-plan : goal.overflow_add-plan
overflow_add-plan c = search cited_fits

pub slice_bounds-same_part-count : goal.slice_bounds-same_part-count
slice_bounds-same_part-count c = search cited_ends

pub slice_bounds-same_part-start : goal.slice_bounds-same_part-start
slice_bounds-same_part-start c = search cited_ends

pub returns-then-same_part : goal.returns-then-same_part
returns-then-same_part c = search items_same

pub returns-else-same_part : goal.returns-else-same_part
returns-else-same_part c = rw c.if-same_part.false (search items_other)
