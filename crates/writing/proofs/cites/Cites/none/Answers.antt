-- No line is cited, and each place holds 0.
use borrow.Author.Rules.{rules}
use Rattle.writing.proofs.cites.Cites.none.Goals as goal

pub invariant_of-result : goal.invariant_of-result
invariant_of-result c = search rules
