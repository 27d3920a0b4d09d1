-- The fluents below f that have a flag are held, and those from f up are to come; f rises to the limit.
use Rattle.steps.proofs.OpenedLaws.{gathering_starts, gather_kept, gather_more, gather_over, gather_done}
use Rattle.steps.proofs.opening.gathered.Goals as goal
use Rattle.steps.proofs.opening.gathered.Goals.{then-flags-f-eq1+else-k-gt-OPEN, else-flags-f-eq1, else-loop-f-test, then-loop-f-test+then-flags-f-eq1+then-k-gt-OPEN}

pub loop-f-init : goal.loop-f-init
loop-f-init c = search gathering_starts

pub loop-f-preserved : goal.loop-f-preserved
loop-f-preserved c = elim c.if-flags-f-eq1.branch [
  | then-flags-f-eq1+else-k-gt-OPEN w ↦ rw (w.held-is, w.k-is) (search gather_more)
  | else-flags-f-eq1 w ↦ rw (w.held-is, w.k-is) (search gather_kept)
]

pub returns : goal.returns
returns c = elim c.loop-f-test.branch [
  | else-loop-f-test w ↦ rw w.k-is (search gather_done)
  | then-loop-f-test+then-flags-f-eq1+then-k-gt-OPEN w ↦ rw w.k-is (search gather_over)
]
