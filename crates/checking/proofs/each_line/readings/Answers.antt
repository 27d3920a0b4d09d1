-- The counts are those of the definition.
use Rattle.checking.proofs.EachLineLaws.{reads_told}
use Rattle.checking.proofs.each_line.readings.Goals as goal

pub returns : goal.returns
returns c = reads_told _ _ c.contains.ensures.value
