-- The guard that is found lacking, if any, is noted.
use Rattle.walking.proofs.WalkArms.{breaks_noted, breaks_none}
use Rattle.walking.proofs.walk.breaks.Goals as goal

pub returns-in-Some : goal.returns-in-Some
returns-in-Some g c = let asked = c.lacking.ensures in search breaks_noted

pub returns-in-None : goal.returns-in-None
returns-in-None g c = let asked = c.lacking.ensures in search breaks_none
