-- The whether list's count stands after the goals, so 30 is told as defined; past it the walks go on.
use Rattle.steps.proofs.HandLaws.{goals_here}
use Rattle.glintstring.proofs.CheckCallLaws.{whether_inside}
use Rattle.glintstring.proofs.DeriveLaws.{some_asked, none_asked}
use Rattle.glintstring.proofs.derives.derive_at_hand.Goals as goal

pub sequence_of-whether-requires : goal.sequence_of-whether-requires
sequence_of-whether-requires c = search goals_here

pub bounds-request-whether : goal.bounds-request-whether
bounds-request-whether c = search whether_inside

pub returns-then-asked-gt0 : goal.returns-then-asked-gt0
returns-then-asked-gt0 c = search some_asked

pub derive_walked-requires-clause-t_value_3 : goal.derive_walked-requires-clause-t_value_3
derive_walked-requires-clause-t_value_3 c = search none_asked
