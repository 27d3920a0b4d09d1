-- A list of literals with values, which begins with every value left to each fluent.
use mathlib.Core.Path.{refl}
use Rattle.parsing.proofs.LineReaderLaws.{counted_values}
use Rattle.parsing.proofs.MaskLaws.{allows_all}
use Rattle.meaning.specs.declared.Form.TheVariants.{Valued}
use Rattle.parsing.proofs.shapes.OfValuesShape.literals_at.Goals as goal

pub list_at-requires-clause-asked : goal.list_at-requires-clause-asked
list_at-requires-clause-asked c = counted_values Valued _ refl c.requires.counted

pub list_at-requires-clause-none_yet : goal.list_at-requires-clause-none_yet
list_at-requires-clause-none_yet c = allows_all c.args.s.now
