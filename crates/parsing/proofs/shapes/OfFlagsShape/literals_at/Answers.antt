-- A list of literals of flags.
use Rattle.parsing.specs.Read.{kind_of}
use Rattle.parsing.proofs.shapes.OfFlagsShape.literals_at.Goals as goal

pub returns : goal.returns
unfolding kind_of
returns c = c.list_at.ensures
