-- No guards, or the first of the list where the notes say that it stands.
use Rattle.steps.proofs.MissLaws.{none_lacked, guards_there, first_lacked}
use borrow.Author.Rules.{rules}
use Rattle.steps.proofs.goals.lacking.Goals as goal

pub returns-then-guards-eq0 : goal.returns-then-guards-eq0
returns-then-guards-eq0 g c = search none_lacked

pub first_missed-requires : goal.first_missed-requires
first_missed-requires g c = search (rules, guards_there)

pub returns : goal.returns
returns g c = search first_lacked
