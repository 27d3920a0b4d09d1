-- The value that is known, if one is, is compared with the one that the literal names.
use Rattle.valuing.proofs.ValuedMarks.{known_is, known_unknown, known_is_not}
use Rattle.valuing.proofs.states.known.Goals as goal

pub returns-then-l-eq0 : goal.returns-then-l-eq0
returns-then-l-eq0 c = search known_is

pub returns-then-mark-eq0 : goal.returns-then-mark-eq0
returns-then-mark-eq0 c = search known_unknown

pub returns : goal.returns
returns c = search known_is_not
