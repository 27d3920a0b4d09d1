-- The lines are put from the first state and the first position on, behind two bytes and no line.
use Rattle.steps.proofs.HandLaws.{facts_here}
use Rattle.steps.proofs.ToldMarks.{marked_as}
use Rattle.steps.proofs.FirstLaws.{starts_there}
use Rattle.schemes.proofs.PassLaws.{opens_underway, whole_narrow, plan_lined}
use Rattle.schemes.proofs.scheme.put_plan.Goals as goal

pub state_of-marks-requires : goal.state_of-marks-requires
state_of-marks-requires c = search facts_here

pub put_from-requires-clause-position : goal.put_from-requires-clause-position
put_from-requires-clause-position c = search starts_there

pub put_from-requires-clause-marked : goal.put_from-requires-clause-marked
put_from-requires-clause-marked c = search marked_as

pub put_from-requires-clause-narrow_from : goal.put_from-requires-clause-narrow_from
put_from-requires-clause-narrow_from c = search whole_narrow

pub put_from-requires-clause-underway : goal.put_from-requires-clause-underway
put_from-requires-clause-underway c = search opens_underway

pub returns : goal.returns
returns c = search plan_lined
