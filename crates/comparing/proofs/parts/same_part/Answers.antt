-- `==` compares entry by entry, as the definition does.
use Rattle.comparing.proofs.SamePartLaws.{parts_same}
use Rattle.comparing.proofs.parts.same_part.Goals as goal

pub returns : goal.returns
returns c = search parts_same
