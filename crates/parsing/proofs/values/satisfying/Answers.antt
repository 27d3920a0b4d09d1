-- The shift is the power that the value stands for.
use Rattle.parsing.proofs.ValueReaderLaws.{satisfies_is, satisfies_is_not}
use Rattle.parsing.proofs.values.satisfying.Goals as goal

pub returns-then-l-eq0 : goal.returns-then-l-eq0
returns-then-l-eq0 c = search satisfies_is

pub returns : goal.returns
returns c = search satisfies_is_not
