-- Action, then fluent: the first fault is the line's.
use borrow.Author.Rules.{rules}
use Rattle.parsing.proofs.LineReaderLaws.{knowledge_whole, knowledge_fluent_fault, knowledge_action_fault}
use Rattle.parsing.proofs.table_lines.knowledge_at.Goals as goal

pub returns-in_err-a : goal.returns-in_err-a
returns-in_err-a c = search (rules, knowledge_action_fault)

pub returns-in_err-after : goal.returns-in_err-after
returns-in_err-after c = search (rules, knowledge_fluent_fault)

pub returns : goal.returns
returns c = search (rules, knowledge_whole)
