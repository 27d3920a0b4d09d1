-- Nothing is counted, and all of the budget is left.
use Rattle.walking.proofs.StandingLaws.{opens, opens_going}
use Rattle.walking.proofs.tally.Tally.opened.Goals as goal

pub returns-clause-stands : goal.returns-clause-stands
returns-clause-stands c = search opens

pub returns-clause-going : goal.returns-clause-going
returns-clause-going c = search opens_going
