-- The conclusion and the rule byte, then the citations: the first fault is the line's.
use borrow.Author.Rules.{rules}
use Rattle.derivation.proofs.DerivationLaws.{end_whole, end_fault}
use Rattle.derivation.proofs.derivations.end_at.Goals as goal

pub returns-in_err-cites : goal.returns-in_err-cites
returns-in_err-cites c = search (rules, end_fault)

pub returns : goal.returns
returns c = end_whole _ _ _ _ _ c.concluded_at.ensures _ _ c.in_ok-cites.was c.cites_at.ensures
