-- What is cited is the number that is given, and behind it that of the last line.
use Rattle.schemes.proofs.CitedLaws.{none_fits, one_fits, line_there, last_near, composed_put}
use Rattle.schemes.proofs.scheme.put_composed.Goals as goal

pub overflow_sub-last : goal.overflow_sub-last
overflow_sub-last c = search line_there

pub push-requires-clause-room : goal.push-requires-clause-room
push-requires-clause-room c = search none_fits

pub push-requires-2-clause-room : goal.push-requires-2-clause-room
push-requires-2-clause-room c = search one_fits

pub push-requires-2-clause-line_bound : goal.push-requires-2-clause-line_bound
push-requires-2-clause-line_bound c = search last_near

pub returns : goal.returns
returns c = search composed_put
