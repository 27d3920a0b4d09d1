-- What is cited is the number of the last line, behind no others.
use Rattle.schemes.proofs.CitedLaws.{none_fits, line_there, last_near, next_put}
use Rattle.schemes.proofs.scheme.put_next.Goals as goal

pub overflow_sub-previous : goal.overflow_sub-previous
overflow_sub-previous c = search line_there

pub push-requires-clause-room : goal.push-requires-clause-room
push-requires-clause-room c = search none_fits

pub push-requires-clause-line_bound : goal.push-requires-clause-line_bound
push-requires-clause-line_bound c = search last_near

pub returns : goal.returns
returns c = search next_put
