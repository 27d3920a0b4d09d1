-- What the notes have as the item's next, and then as the next of each branching around it, leads on to what is left after the item.
use Rattle.steps.proofs.OnwardLaws.{Goes}
use Rattle.steps.proofs.onward.follow.Given as goal

abbrev pub invariant-loop-at : goal.invariant-loop-at
invariant-loop-at g l = Goes l.r.bytes.now l.r.notes.now l.i l.at

abbrev pub decreases-loop-at : goal.decreases-loop-at
decreases-loop-at g l = l.at
