-- The walk goes on where its tally says so, and the values end with the last.
use Rattle.walking.proofs.StandingLaws.{more_over, more_on}
use Rattle.walking.proofs.walk.has_more.Goals as goal

pub returns-then-goes_on : goal.returns-then-goes_on
returns-then-goes_on g c = let asked = c.values_of.ensures in search more_on

pub returns-else-goes_on : goal.returns-else-goes_on
returns-else-goes_on g c = search more_over
