-- The plain layout has nothing there; the closing one a count of any value and as many line numbers.
use borrow.Author.Rules.{rules}
use Rattle.derivation.proofs.DerivationLaws.{closing_none, closing_numbers, closing_count}
use Rattle.derivation.proofs.derivations.closing_at.Goals as goal

pub returns-in-Plain : goal.returns-in-Plain
returns-in-Plain c = search (rules, closing_none)

pub returns-in_err-count-in-Closing : goal.returns-in_err-count-in-Closing
returns-in_err-count-in-Closing c = search (rules, closing_count)

pub returns-in_ok-count-in-Closing : goal.returns-in_ok-count-in-Closing
returns-in_ok-count-in-Closing c = search (rules, closing_numbers)
