-- The set of the literal's fluent, without what does not satisfy the literal.
use Rattle.parsing.proofs.ValueReaderLaws.{narrow_is}
use Rattle.parsing.proofs.values.narrow.Goals as goal

pub returns : goal.returns
returns c = search narrow_is
