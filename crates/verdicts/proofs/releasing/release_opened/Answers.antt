-- A row of another length, what 16 and 17 refuse, and what is past them: each is a case of the definition.
use borrow.Author.Rules.{rules}
use Rattle.verdicts.proofs.ReleasingLaws.{row_counted, release_9, start_behind, table_there, ends_there, clean_there, start_inside, release_then, release_first}
use Rattle.verdicts.proofs.releasing.release_opened.Goals as goal

pub overflow_mul-plans : goal.overflow_mul-plans
overflow_mul-plans c = search (rules, row_counted)

pub returns-then-row-plans : goal.returns-then-row-plans
returns-then-row-plans c = search (rules, release_9)

pub overflow_sub-start : goal.overflow_sub-start
overflow_sub-start c = search (rules, start_behind)

pub table_refused-requires-clause-table_here : goal.table_refused-requires-clause-table_here
table_refused-requires-clause-table_here c = search (rules, table_there)

pub table_refused-requires-clause-s_value : goal.table_refused-requires-clause-s_value
table_refused-requires-clause-s_value c = search (rules, ends_there)

pub answer_file-requires-clause-table_here : goal.answer_file-requires-clause-table_here
answer_file-requires-clause-table_here c = search (rules, table_there)

pub answer_file-requires-clause-file_value : goal.answer_file-requires-clause-file_value
answer_file-requires-clause-file_value c = search (rules, clean_there)

pub answer_file-requires-clause-start_in_bounds : goal.answer_file-requires-clause-start_in_bounds
answer_file-requires-clause-start_in_bounds c = search (rules, start_inside)

pub returns-in-Ok : goal.returns-in-Ok
returns-in-Ok c = search (rules, release_then)

pub returns-in-Err : goal.returns-in-Err
returns-in-Err c = search (rules, release_first)
