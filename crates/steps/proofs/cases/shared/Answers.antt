-- Up to fluent f the marks are shared ones, from there on those of the one state. A turn leaves a mark that both states have, and forgets one that they have not.
use Rattle.steps.proofs.CaseLaws.{sharing_starts, sharing_same, sharing_apart, sharing_done}
use Rattle.steps.proofs.cases.shared.Goals as goal
use Rattle.steps.proofs.cases.shared.Goals.{then-one-f, else-one-f}

pub loop-f-init : goal.loop-f-init
loop-f-init c = search sharing_starts

pub loop-f-preserved : goal.loop-f-preserved
loop-f-preserved c = elim c.if-one-f.branch [
  | then-one-f w ↦ rw w.both-is (search sharing_apart)
  | else-one-f w ↦ rw w.both-is (search sharing_same)
]

pub returns : goal.returns
returns c = search sharing_done
