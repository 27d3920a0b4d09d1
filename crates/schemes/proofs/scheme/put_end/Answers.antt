-- The first line is by rule 1, and the second cites it.
use Rattle.schemes.proofs.SchemeArms.{end_position, end_some, end_put}
use Rattle.schemes.proofs.scheme.put_end.Goals as goal

pub put_next-requires-clause-position : goal.put_next-requires-clause-position
put_next-requires-clause-position c = search end_position

pub put_next-requires-clause-progress_nonzero : goal.put_next-requires-clause-progress_nonzero
put_next-requires-clause-progress_nonzero c = search end_some

pub returns : goal.returns
returns c = search end_put
