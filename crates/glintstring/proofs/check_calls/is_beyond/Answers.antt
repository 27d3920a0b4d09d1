-- The plain layout speaks of no whether entry, and the closing one of any number.
use Rattle.glintstring.proofs.CheckCallLaws.{plain_beyond, closing_beyond}
use Rattle.glintstring.proofs.check_calls.is_beyond.Goals as goal

pub returns-in-Plain : goal.returns-in-Plain
returns-in-Plain c = search plain_beyond

pub returns-in-Closing : goal.returns-in-Closing
returns-in-Closing c = search closing_beyond
