-- Where values are counted, no fluent has more than there are bits.
use Rattle.std.proofs.Common.{refl}
use Rattle.meaning.specs.declared.Form.TheVariants.{Valued}
use Rattle.parsing.proofs.LineReaderLaws.{counted_values}
use Rattle.refusing.proofs.held.AllowedHeld.agrees.Goals as goal

pub agrees-requires-clause-few_values : goal.agrees-requires-clause-few_values
agrees-requires-clause-few_values c = counted_values Valued _ refl c.requires.counted
