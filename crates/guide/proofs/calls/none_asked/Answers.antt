-- A row of 0 has no fluent in it.
use Rattle.guide.proofs.SensedReadLaws.{none_told}
use Rattle.guide.proofs.calls.none_asked.Goals as goal

pub returns : goal.returns
returns c = search none_told
