-- None of the branches before the one that is looked at is taken, so what all of them give is what those that are left give. The branch's items end
-- where the next branch begins, and the rest begins after the last branch.
use Prim.Native.Nat.{◌-◌}
use Rattle.finding.specs.Branches.{BranchesHere}
use Rattle.ruling.proofs.BranchRuleLaws.{Trying}
use Rattle.meaning.specs.declared.Form.TheVariants.{Flags}
use Rattle.ruling.proofs.branchings.some_branch.Given as goal

abbrev pub invariant-loop : goal.invariant-loop
invariant-loop l = BranchesHere Flags l.d l.t (l.count - l.counter) l.p l.i × Trying l.d l.t l.held l.first l.cited l.yc l.y l.more (l.count - l.counter) l.p l.i
