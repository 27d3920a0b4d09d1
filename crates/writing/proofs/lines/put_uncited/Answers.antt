-- What is known, and behind it two bytes.
use Rattle.writing.proofs.PutLineLaws.{uncited_ends, uncited_put}
use Rattle.writing.proofs.lines.put_uncited.Goals as goal

pub returns-clause-after : goal.returns-clause-after
returns-clause-after c = search uncited_ends

pub returns-clause-written : goal.returns-clause-written
returns-clause-written c = search uncited_put
