-- The first line is the best so far, and a turn looks at the first of those that are left: it becomes the best where it is short by fewer. What
-- is left gives, with the best so far, what the whole gives, and line numbers rise in file order.
use Rattle.finding.proofs.AheadLaws.{to_go}
use Rattle.steps.proofs.ActionLaws.{Nearing}
use Rattle.steps.proofs.actions.nearest.Given as goal

abbrev pub invariant-loop-k : goal.invariant-loop-k
invariant-loop-k l = Nearing l.r.bytes.now l.r.notes.now l.a l.marks l.best l.fewest l.k

abbrev pub decreases-loop-k : goal.decreases-loop-k
decreases-loop-k l = to_go l.k
