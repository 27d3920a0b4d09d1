-- Flags have no numbers of values.
use mathlib.Core.Path.{refl}
use Rattle.parsing.specs.Read.{passed, values_first}
use Rattle.parsing.proofs.shapes.OfFlagsShape.values_at.Goals as goal

pub returns : goal.returns
unfolding passed values_first
returns c = refl
