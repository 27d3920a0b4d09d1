-- The place after all the branches is the place after those that are left; each branch says where the next one stands.
use Prim.Native.Nat.{◌+◌, ◌-◌, ◌<◌, ◌≤◌}
use native.Mathlib.Omega.{arith}
use mathlib.Core.Path.{◌≡◌}
use Rattle.finding.proofs.ByBranch.{branch_first, branches_next}
use Rattle.ruling.proofs.BranchRuleLaws.{end_next, end_done}
use borrow.Author.Rules.{rules}
use Rattle.ruling.proofs.branchings.after_branches.Goals as goal

pub loop-init : goal.loop-init
loop-init c = search rules

pub next_place-q-requires : goal.next_place-q-requires
next_place-q-requires c = let more : 0 < c.args.count - c.loop.counter = omega arith in search (rules, branch_first)

pub next_item-i-requires : goal.next_item-i-requires
next_item-i-requires c = let more : 0 < c.args.count - c.loop.counter = omega arith in search (rules, branch_first)

pub loop-preserved : goal.loop-preserved
loop-preserved c = let more : 0 < c.args.count - c.loop.counter = omega arith in let fewer : c.args.count - (c.loop.counter + 1) ≡ c.args.count - c.loop.counter - 1 = omega arith in rw fewer (search branches_next, search end_next)

pub returns : goal.returns
returns c = let none : c.args.count - c.loop.counter ≤ 0 = omega arith in search end_done
