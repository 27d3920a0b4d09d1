-- At each turn what the whole list of citations gives is what those left give.
use borrow.Author.Rules.{rules}
use Rattle.derivation.proofs.DerivationLaws.{citations_done, citations_fault, citations_next}
use Rattle.derivation.proofs.derivations.citations_from.Goals as goal

pub loop-preserved : goal.loop-preserved
loop-preserved c = search (rules, citations_next)

pub returns-in_err-after : goal.returns-in_err-after
returns-in_err-after c = search (rules, citations_fault)

pub returns : goal.returns
returns c = search (rules, citations_done)
