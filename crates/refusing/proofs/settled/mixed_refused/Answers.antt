-- A knowledge line of an action with effects is refused at its place; else nothing is. The lines end where the table does.
use borrow.Author.Rules.{rules}
use Rattle.refusing.proofs.SettleLaws.{fits_17, bytes_17, stand_17, none_17, at_17}
use Rattle.refusing.proofs.settled.mixed_refused.Goals as goal

pub overflow_mul-bytes : goal.overflow_mul-bytes
overflow_mul-bytes c = search (rules, fits_17)

pub overflow_sub-start : goal.overflow_sub-start
overflow_sub-start c = search (rules, bytes_17)

pub mixed-requires : goal.mixed-requires
mixed-requires c = search (rules, stand_17)

pub returns-in-None : goal.returns-in-None
returns-in-None c = search (rules, none_17)

pub returns-in-Some : goal.returns-in-Some
returns-in-Some c = search (rules, at_17)
