-- The part starts at the place, or at the end of the input where the place is beyond it.
use Rattle.glintstring.proofs.ShowingLaws.{starts_in_request, starts_in_derivation, starts_in_neither}
use Rattle.glintstring.proofs.exports.glintstring_show.Goals as goal

pub returns-then-input : goal.returns-then-input
returns-then-input c = search starts_in_request

pub returns-then-input-2 : goal.returns-then-input-2
returns-then-input-2 c = search starts_in_derivation

pub returns : goal.returns
returns c = search starts_in_neither
