-- A turn looks at the first of the action's lines that are left; what is left gives what the whole gives, and line numbers rise in file order.
-- Where none is left the nearest is what is given.
use Rattle.finding.proofs.AheadLaws.{to_go}
use Rattle.steps.proofs.ActionLaws.{Running}
use Rattle.steps.proofs.actions.ask.Given as goal

abbrev pub invariant-loop-k : goal.invariant-loop-k
invariant-loop-k l = Running l.r.bytes.now l.r.notes.now l.a l.marks l.k

abbrev pub decreases-loop-k : goal.decreases-loop-k
decreases-loop-k l = to_go l.k
