-- Literals beside each other are complements exactly where the lower is even; fluents never are.
use borrow.Author.Rules.{rules}
use Rattle.parsing.proofs.ListLaws.{beside_even, beside_odd, beside_never}
use Rattle.parsing.proofs.lists.Kind.beside.Goals as goal

pub returns-then-floor-ne0 : goal.returns-then-floor-ne0
returns-then-floor-ne0 c = search (rules, beside_odd)

pub returns-else-floor-ne0 : goal.returns-else-floor-ne0
returns-else-floor-ne0 c = search (rules, beside_even)

pub returns-in-Fluents : goal.returns-in-Fluents
returns-in-Fluents c = search (rules, beside_never)
