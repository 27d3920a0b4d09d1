-- Action, then body: the first fault is the line's.
use borrow.Author.Rules.{rules}
use Rattle.parsing.proofs.LineReaderLaws.{executability_whole, executability_action_fault}
use Rattle.parsing.proofs.inputs.Input.executability_at.Goals as goal

pub returns-in_err-a : goal.returns-in_err-a
returns-in_err-a g c = search (rules, executability_action_fault)

pub returns : goal.returns
returns g c = search (rules, executability_whole)
