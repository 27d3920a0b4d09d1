-- All but the budget left is what was noted.
use Rattle.walking.proofs.StandingLaws.{noted}
use Rattle.walking.proofs.tally.Tally.note.Goals as goal

pub returns : goal.returns
returns c = search noted
