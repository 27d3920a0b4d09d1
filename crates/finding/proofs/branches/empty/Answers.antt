-- A sequence is empty exactly where both bytes of its count are 0.
use Rattle.finding.proofs.ByBranch.{first_zero, first_other}
use Rattle.finding.proofs.branches.empty.Goals as goal

pub returns-then-s-q-eq0 : goal.returns-then-s-q-eq0
returns-then-s-q-eq0 c = search first_zero

pub returns : goal.returns
returns c = search first_other
