-- The items go behind the place of their number, which is put when they are counted.
use Rattle.writing.proofs.RestPutLaws.{rest_ends, rest_put}
use Rattle.writing.proofs.rests.put_rest.Goals as goal

pub returns-clause-after : goal.returns-clause-after
returns-clause-after c = search rest_ends

pub returns-clause-written : goal.returns-clause-written
returns-clause-written c = search rest_put
