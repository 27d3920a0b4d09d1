-- The walk goes on exactly where nothing is missed, or something is.
use Rattle.walking.proofs.StandingLaws.{on_fine, on_other}
use Rattle.walking.proofs.tally.Tally.goes_on.Goals as goal

pub returns-in-Fine : goal.returns-in-Fine
returns-in-Fine c = search on_fine

pub returns-in_default : goal.returns-in_default
returns-in_default c = search on_other
