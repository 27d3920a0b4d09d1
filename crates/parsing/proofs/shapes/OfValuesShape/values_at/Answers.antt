-- The numbers of values, of which the place after them is told.
use mathlib.Core.Path.{sym, ◌∙◌}
use Rattle.parsing.specs.Read.{values_first}
use Rattle.parsing.proofs.ListLaws.{passed_same}
use Rattle.parsing.proofs.shapes.OfValuesShape.values_at.Goals as goal

pub returns : goal.returns
unfolding values_first
returns c = c.value_counts_at.ensures ∙ sym (passed_same _ (λ counts. tt {0}))
