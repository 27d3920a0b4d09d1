-- The list X, then the rest of the line: the first fault is the line's. The plan ends as far after X as it has bytes.
use borrow.Author.Rules.{rules}
use Rattle.derivation.proofs.DerivationLaws.{line_whole, line_fault}
use Rattle.derivation.proofs.derivations.line_at.Goals as goal

pub returns-in_err-plan : goal.returns-in_err-plan
returns-in_err-plan c = search (rules, line_fault)

pub returns : goal.returns
returns c = search (rules, line_whole)
