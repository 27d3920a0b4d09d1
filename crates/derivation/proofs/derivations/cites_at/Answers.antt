-- The count, then the citations: the first fault is the line's.
use borrow.Author.Rules.{rules}
use Rattle.derivation.proofs.DerivationLaws.{cites_whole, cites_fault}
use Rattle.derivation.proofs.derivations.cites_at.Goals as goal

pub returns-in_err-count : goal.returns-in_err-count
returns-in_err-count c = search (rules, cites_fault)

pub returns : goal.returns
returns c = search (rules, cites_whole)
