-- What is left behind the first of the two parts is compared with the other; where the part does not begin with the first, it is not the two.
use Rattle.comparing.proofs.SamePartLaws.{joined_stripped}
use Rattle.comparing.proofs.parts.same_joined.Goals as goal

pub returns : goal.returns
returns c = search joined_stripped
