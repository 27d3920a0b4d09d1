-- A turn tells or undoes what the first of the action's effects that are left asks for; what is left then gives what the whole gives, and effect
-- numbers rise in file order. At the end that is the state after, since 16 has passed and the action can be run.
use Rattle.finding.proofs.AheadLaws.{to_go}
use Rattle.steps.proofs.ActionLaws.{Sweeping}
use Rattle.steps.proofs.actions.state_after.Given as goal

abbrev pub invariant-loop-k : goal.invariant-loop-k
invariant-loop-k l = Sweeping l.r.bytes.now l.r.notes.now l.a l.marks l.next l.k

abbrev pub decreases-loop-k : goal.decreases-loop-k
decreases-loop-k l = to_go l.k
