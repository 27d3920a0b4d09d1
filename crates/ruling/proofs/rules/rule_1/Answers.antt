-- The plan is empty exactly where its count is 0, and each list is what stands at its place. A fluent is no list.
use Rattle.ruling.proofs.RuleLaws.{YHere, plan_counted, empty_whether, empty_same, not_empty}
use Rattle.ruling.proofs.rules.rule_1.Goals as goal

pub returns-in_default : goal.returns-in_default
returns-in_default c = search empty_whether

pub empty-requires : goal.empty-requires
empty-requires c = search plan_counted

pub same_lists-requires-clause-list_here : goal.same_lists-requires-clause-list_here
same_lists-requires-clause-list_here c = search YHere

pub returns-then-empty : goal.returns-then-empty
returns-then-empty c = search empty_same

pub returns-else-empty : goal.returns-else-empty
returns-else-empty c = rw c.if-empty.false (search not_empty)
