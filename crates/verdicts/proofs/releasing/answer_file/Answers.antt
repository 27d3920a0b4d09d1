-- A byte after the last plan is refused at its place; else the row is that of the answers.
use borrow.Author.Rules.{rules}
use Rattle.finding.proofs.StartLaws.{first_byte, second_byte}
use Rattle.verdicts.proofs.ReleasingLaws.{counts_there, file_answered, file_20}
use Rattle.verdicts.proofs.releasing.answer_file.Goals as goal

pub bounds-file-0 : goal.bounds-file-0
bounds-file-0 c = search (rules, first_byte)

pub bounds-file-1 : goal.bounds-file-1
bounds-file-1 c = search (rules, second_byte)

pub byte_after-requires : goal.byte_after-requires
byte_after-requires c = search (rules, counts_there)

pub answer_plans-requires-clause-counted : goal.answer_plans-requires-clause-counted
answer_plans-requires-clause-counted c = search (rules, counts_there)

pub returns-in-None : goal.returns-in-None
returns-in-None c = search (rules, file_answered)

pub returns-in-Some : goal.returns-in-Some
returns-in-Some c = search (rules, file_20)
