-- The byte 0 says the literal that is false, and any other the one that is true.
use Rattle.guide.proofs.SensedReadLaws.{read_no, read_yes}
use Rattle.guide.proofs.sensed.mark_read.Goals as goal

pub returns-then-byte-eq0 : goal.returns-then-byte-eq0
returns-then-byte-eq0 c = search read_no

pub returns-else-byte-eq0 : goal.returns-else-byte-eq0
returns-else-byte-eq0 c = search read_yes
