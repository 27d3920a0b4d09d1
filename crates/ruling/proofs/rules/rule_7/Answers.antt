-- A plan of one item whose byte is no 255 is that action, which is within the limit; the marks are the state of X. A list is no fluent.
use Rattle.ruling.proofs.RuleLaws.{fluent_small, plan_counted, items_fit, item_there, action_small, look_lists, not_one_looked, look_branches, looks_elsewhere, looks_there}
use Rattle.ruling.proofs.rules.rule_7.Goals as goal
use Rattle.ruling.proofs.rules.rule_7.Goals.{then-count_of-ne1-via-then-count_of-ne1, then-count_of-ne1-via-else-count_of-ne1+then-d-plan}

pub returns-in_default : goal.returns-in_default
returns-in_default c = search look_lists

pub count_of-requires : goal.count_of-requires
count_of-requires c = search plan_counted

pub overflow_add-plan : goal.overflow_add-plan
overflow_add-plan c = search items_fit

pub bounds-d-plan : goal.bounds-d-plan
bounds-d-plan c = search item_there

pub returns-then-count_of-ne1 : goal.returns-then-count_of-ne1
returns-then-count_of-ne1 c = elim c.then-count_of-ne1.branch [ then-count_of-ne1-via-then-count_of-ne1 w ↦ search not_one_looked | then-count_of-ne1-via-else-count_of-ne1+then-d-plan w ↦ search look_branches ]

pub overflow_add-plan-2 : goal.overflow_add-plan-2
overflow_add-plan-2 c = search items_fit

pub bounds-d-plan-2 : goal.bounds-d-plan-2
bounds-d-plan-2 c = search item_there

pub looks_at-requires-clause-a_lt_actions : goal.looks_at-requires-clause-a_lt_actions
looks_at-requires-clause-a_lt_actions c = search action_small

pub looks_at-requires-clause-f_lt_fluents : goal.looks_at-requires-clause-f_lt_fluents
looks_at-requires-clause-f_lt_fluents c = search fluent_small

pub can_be_run-requires : goal.can_be_run-requires
can_be_run-requires c = search action_small

pub returns-then-looks_at : goal.returns-then-looks_at
returns-then-looks_at c = search looks_there

pub returns-else-looks_at : goal.returns-else-looks_at
returns-else-looks_at c = rw c.if-looks_at.false (search looks_elsewhere)
