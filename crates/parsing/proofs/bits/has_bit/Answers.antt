-- The shift is the quotient that the definition has.
use Rattle.parsing.proofs.BitLaws.{has_is}
use Rattle.parsing.proofs.bits.has_bit.Goals as goal

pub returns : goal.returns
returns c = rw c.from.ensures (search has_is)
