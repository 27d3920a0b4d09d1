-- The count that opening told, or none.
use borrow.Author.Rules.{rules}
use Rattle.verdicts.proofs.ReleasingLaws.{plans_there, plans_none}
use Rattle.verdicts.proofs.releasing.plans.Goals as goal

pub returns-in-Ok : goal.returns-in-Ok
returns-in-Ok c = search (rules, plans_there)

pub returns-in-Err : goal.returns-in-Err
returns-in-Err c = search (rules, plans_none)
