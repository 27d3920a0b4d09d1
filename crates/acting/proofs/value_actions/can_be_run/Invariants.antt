-- A turn looks at the first of the action's lines that are left; what is left gives what the whole gives, and line numbers rise in file order.
use Rattle.finding.proofs.AheadLaws.{to_go}
use Rattle.acting.proofs.RunLaws.{Running}
use Rattle.acting.proofs.value_actions.can_be_run.Given as goal

abbrev pub invariant-loop-k : goal.invariant-loop-k
invariant-loop-k l = Running l.s l.t l.a l.marks l.k

abbrev pub decreases-loop-k : goal.decreases-loop-k
decreases-loop-k l = to_go l.k
