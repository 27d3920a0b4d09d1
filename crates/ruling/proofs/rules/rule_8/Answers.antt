-- The cited list has one literal exactly where its count is 1, and this is of the fluent exactly where half of it is the fluent. The lists X and the
-- plans are compared as they stand.
use Rattle.ruling.proofs.RuleLaws.{some_plan, settled_by_whether, list_settled, literals_there, first_there, not_one_literal, other_fluent, settled_elsewhere, settled}
use Rattle.ruling.proofs.rules.rule_8.Goals as goal
use Rattle.ruling.proofs.rules.rule_8.Goals.{then-d-told-ne1-via-then-d-told-ne1, then-d-told-ne1-via-else-d-told-ne1+then-d-told, then-d-told-ne1-via-else-d-told-ne1+else-d-told+then-not-same_lists}

pub returns-in_default : goal.returns-in_default
returns-in_default c = search settled_by_whether

pub returns-in_default-conclusion : goal.returns-in_default-conclusion
returns-in_default-conclusion c = search list_settled

pub bounds-d-told : goal.bounds-d-told
bounds-d-told c = search literals_there

pub bounds-d-told-else-d-told-ne1 : goal.bounds-d-told-else-d-told-ne1
bounds-d-told-else-d-told-ne1 c = search first_there

pub returns-then-d-told-ne1 : goal.returns-then-d-told-ne1
returns-then-d-told-ne1 c = elim c.then-d-told-ne1.branch [ then-d-told-ne1-via-then-d-told-ne1 w ↦ search not_one_literal | then-d-told-ne1-via-else-d-told-ne1+then-d-told w ↦ search other_fluent | then-d-told-ne1-via-else-d-told-ne1+else-d-told+then-not-same_lists w ↦ search settled_elsewhere ]

pub same_plans-requires-clause-some_plan : goal.same_plans-requires-clause-some_plan
same_plans-requires-clause-some_plan c = search some_plan

pub same_plans-requires-clause-some_plan_2 : goal.same_plans-requires-clause-some_plan_2
same_plans-requires-clause-some_plan_2 c = search some_plan

pub returns : goal.returns
returns c = search settled
