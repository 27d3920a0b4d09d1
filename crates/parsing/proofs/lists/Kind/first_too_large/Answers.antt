-- Literals go by twice the number of fluents, and fluents by that number.
use borrow.Author.Rules.{rules}
use Rattle.parsing.proofs.ListLaws.{bound_literals, bound_fluents}
use Rattle.parsing.proofs.lists.Kind.first_too_large.Goals as goal

pub returns-in-Literals : goal.returns-in-Literals
returns-in-Literals c = search (rules, bound_literals)

pub returns-in-Fluents : goal.returns-in-Fluents
returns-in-Fluents c = search (rules, bound_fluents)
