-- The first pair of bytes that are apart, or else the end of the shorter part, is the first difference.
use Rattle.indexing.proofs.DifferLaws.{another_byte, no_difference, another_end}
use Rattle.indexing.proofs.differing.difference.Goals as goal

pub returns-in-Some : goal.returns-in-Some
returns-in-Some c = search another_byte

pub returns-in-None : goal.returns-in-None
returns-in-None c = search no_difference

pub returns-in-None-2 : goal.returns-in-None-2
returns-in-None-2 c = search another_end
