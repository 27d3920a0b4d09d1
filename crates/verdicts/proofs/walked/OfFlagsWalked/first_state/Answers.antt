-- The facts of flags stand at place 2, and their state is the first.
use Rattle.steps.proofs.HandLaws.{facts_here}
use Rattle.steps.proofs.FirstLaws.{first_flags}
use Rattle.verdicts.proofs.walked.OfFlagsWalked.first_state.Goals as goal

pub state_of-requires : goal.state_of-requires
state_of-requires c = search facts_here

pub returns : goal.returns
returns c = search first_flags
