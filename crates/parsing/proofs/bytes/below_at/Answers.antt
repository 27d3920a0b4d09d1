-- The byte is missing, at the bound or above, or below it: one law for each.
use borrow.Author.Rules.{rules}
use Rattle.parsing.proofs.ByteLaws.{below_large, below_good, below_fault}
use Rattle.parsing.proofs.bytes.below_at.Goals as goal

pub returns-in_err-x : goal.returns-in_err-x
returns-in_err-x c = search (rules, below_fault)

pub returns-then-bound-x : goal.returns-then-bound-x
returns-then-bound-x c = search (rules, below_large)

pub returns : goal.returns
returns c = search (rules, below_good)
