-- How it has gone and the place are written, and nothing else.
use Rattle.walking.proofs.StandingLaws.{given_up}
use Rattle.walking.proofs.tally.Tally.give_up.Goals as goal

pub returns : goal.returns
returns c = search given_up
