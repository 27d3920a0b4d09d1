-- The body passes or is at fault, and the line with it.
use borrow.Author.Rules.{rules}
use Rattle.parsing.proofs.LineReaderLaws.{body_passed, body_fault}
use Rattle.parsing.proofs.inputs.Input.action_with_body.Goals as goal

pub returns-in_err-after : goal.returns-in_err-after
returns-in_err-after g c = search (rules, body_fault)

pub returns : goal.returns
returns g c = search (rules, body_passed)
