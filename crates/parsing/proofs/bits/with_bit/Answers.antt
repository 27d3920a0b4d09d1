-- The shift is the power that the bit stands for, and `|` adds it where it is not there.
use Rattle.parsing.proofs.BitLaws.{with_is}
use Rattle.parsing.proofs.bits.with_bit.Goals as goal

pub returns : goal.returns
returns c = search with_is
