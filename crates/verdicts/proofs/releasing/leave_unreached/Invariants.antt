-- The loop has written the plans up to its own, and what it has yet to write is that the rest are not reached.
use Rattle.verdicts.specs.Releasing.{with_unreached}
use Rattle.verdicts.proofs.ReleasingLaws.{Leaving}
use Rattle.verdicts.proofs.releasing.leave_unreached.Given as goal

abbrev pub invariant-loop-i : goal.invariant-loop-i
invariant-loop-i l = Leaving (with_unreached l.initial.row l.k l.plans) l.row l.plans l.i
