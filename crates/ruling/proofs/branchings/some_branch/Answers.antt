-- None of the branches before the one that is looked at is taken, so what all of them give is what those that are left give. The branch's items end
-- where the next branch begins, and the rest begins after the last branch.
use Prim.Native.Nat.{◌+◌, ◌-◌, ◌<◌, ◌≤◌}
use native.Mathlib.Omega.{arith}
use mathlib.Core.Path.{◌≡◌}
use Rattle.finding.proofs.ByBranch.{branch_first, condition_first, branches_next}
use Rattle.refusing.proofs.Laws18.{flags_condition}
use Rattle.ruling.proofs.BranchRuleLaws.{second_there, second_fits, start_fits, branches_start, rest_there, trying_starts, trying_unknown, trying_other, branch_there, count_there, items_fit, taken_here, taken_none}
use borrow.Author.Rules.{rules}
use Rattle.ruling.proofs.branchings.some_branch.Goals as goal
use Rattle.ruling.proofs.branchings.some_branch.Goals.{then-each_holds+else-joined_plans, else-each_holds}

pub overflow_add-first : goal.overflow_add-first
overflow_add-first c = search second_fits

pub bounds-d-first : goal.bounds-d-first
bounds-d-first c = search second_there

pub overflow_add-first-2 : goal.overflow_add-first-2
overflow_add-first-2 c = search start_fits

pub after_branches-rest-requires : goal.after_branches-rest-requires
after_branches-rest-requires c = search (rules, branches_start)

pub loop-init : goal.loop-init
loop-init c = let all : c.wide-count.result - 0 ≡ c.wide-count.result = omega arith in rw all (search branches_start, search trying_starts)

pub next_place-q-requires : goal.next_place-q-requires
next_place-q-requires c = let more : 0 < c.wide-count.result - c.loop.counter = omega arith in search (rules, branch_first)

pub next_item-j-requires : goal.next_item-j-requires
next_item-j-requires c = let more : 0 < c.wide-count.result - c.loop.counter = omega arith in search (rules, branch_first)

pub each_holds-requires : goal.each_holds-requires
each_holds-requires c = let more : 0 < c.wide-count.result - c.loop.counter = omega arith in search (rules, flags_condition)

pub sequence_of-sequence-requires : goal.sequence_of-sequence-requires
sequence_of-sequence-requires c = let more : 0 < c.wide-count.result - c.loop.counter = omega arith in search (rules, condition_first)

pub count_of-items-requires : goal.count_of-items-requires
count_of-items-requires c = let more : 0 < c.wide-count.result - c.loop.counter = omega arith in search count_there

pub overflow_add-sequence : goal.overflow_add-sequence
overflow_add-sequence c = let more : 0 < c.wide-count.result - c.loop.counter = omega arith in search items_fit

pub joined_plans-requires-clause-some_items : goal.joined_plans-requires-clause-some_items
joined_plans-requires-clause-some_items c = let more : 0 < c.wide-count.result - c.loop.counter = omega arith in search branch_there

pub joined_plans-requires-clause-some_items_2 : goal.joined_plans-requires-clause-some_items_2
joined_plans-requires-clause-some_items_2 c = search rest_there

pub returns-then-joined_plans : goal.returns-then-joined_plans
returns-then-joined_plans c = let more : 0 < c.wide-count.result - c.loop.counter = omega arith in search taken_here

pub loop-preserved : goal.loop-preserved
loop-preserved c = let more : 0 < c.wide-count.result - c.loop.counter = omega arith in let fewer : c.wide-count.result - (c.loop.counter + 1) ≡ c.wide-count.result - c.loop.counter - 1 = omega arith in elim c.if-each_holds.branch [ then-each_holds+else-joined_plans w ↦ rw fewer (search branches_next, search trying_other) | else-each_holds w ↦ rw fewer (search branches_next, search trying_unknown) ]

pub returns : goal.returns
returns c = let none : c.wide-count.result - c.loop.counter ≤ 0 = omega arith in search taken_none
