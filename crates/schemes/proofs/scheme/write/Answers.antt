-- The number of lines goes into the two bytes before the lines.
use Rattle.schemes.proofs.PassLaws.{count_near, plan_written}
use Rattle.schemes.proofs.scheme.write.Goals as goal

pub put_number-requires-clause-k_bound : goal.put_number-requires-clause-k_bound
put_number-requires-clause-k_bound c = search count_near

pub returns : goal.returns
returns c = search plan_written
