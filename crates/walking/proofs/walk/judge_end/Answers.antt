-- One is counted, and the state is judged where the walk goes on and has missed nothing yet.
use Rattle.walking.proofs.WalkArms.{judged_missed, judged_fine, judged_before}
use Rattle.walking.proofs.walk.judge_end.Goals as goal

pub returns-in-Some : goal.returns-in-Some
returns-in-Some g c = let asked = c.missed.ensures in search judged_missed

pub returns-in_default-missed : goal.returns-in_default-missed
returns-in_default-missed g c = let asked = c.missed.ensures in search judged_fine

pub returns-in_default : goal.returns-in_default
returns-in_default g c = search judged_before
