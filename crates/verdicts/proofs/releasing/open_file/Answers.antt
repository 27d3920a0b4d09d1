-- Too long; the table and then the count; or the first fault of the table.
use borrow.Author.Rules.{rules}
use Rattle.reader.proofs.WholeLaws.{at_the_start}
use Rattle.verdicts.proofs.ReleasingLaws.{open_long, open_counted, open_fault}
use Rattle.verdicts.proofs.releasing.open_file.Goals as goal

pub returns-then-file-gt-REQUEST : goal.returns-then-file-gt-REQUEST
returns-then-file-gt-REQUEST c = search (rules, open_long)

pub table_at-requires-clause-starts : goal.table_at-requires-clause-starts
table_at-requires-clause-starts c = search (rules, at_the_start)

pub returns : goal.returns
returns c = search (rules, open_counted)

pub returns-in_err-plans : goal.returns-in_err-plans
returns-in_err-plans c = search (rules, open_fault)
