-- Each number is noted as its end says.
use Rattle.walking.proofs.StandingLaws.{by_missed, by_stuck, by_broken, by_other}
use Rattle.walking.proofs.tally.Course.of.Goals as goal

pub returns-in-1 : goal.returns-in-1
returns-in-1 c = search by_missed

pub returns-in-2 : goal.returns-in-2
returns-in-2 c = search by_stuck

pub returns-in-43 : goal.returns-in-43
returns-in-43 c = search by_broken

pub returns-in_default : goal.returns-in_default
returns-in_default c = search by_other
