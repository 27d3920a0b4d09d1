-- A literal that is read says "is" or "is not".
use borrow.Author.Rules.{rules}
use Rattle.parsing.proofs.ValueReaderLaws.{set_fault, set_is, set_is_not}
use Rattle.parsing.proofs.values.set_value_at.Goals as goal

pub returns-in_err-x : goal.returns-in_err-x
returns-in_err-x c = search (rules, set_fault)

pub returns-then-x-ne0 : goal.returns-then-x-ne0
returns-then-x-ne0 c = search (rules, set_is_not)

pub returns : goal.returns
returns c = search (rules, set_is)
