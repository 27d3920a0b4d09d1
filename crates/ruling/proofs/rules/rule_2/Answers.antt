-- A plan of one item whose byte is no 255 is that action, which is within the limit; the marks are the state of X, and those after it the state that
-- Y is compared with. A fluent is no list.
use Rattle.steps.proofs.ToldMarks.{marked_as}
use Rattle.steps.proofs.AfterLaws.{runs_there}
use Rattle.ruling.proofs.RuleLaws.{YHere, plan_counted, items_fit, next_marked, action_whether, not_one_item, item_there, item_branches, action_small, action_senses, action_stuck, action_leads}
use Rattle.ruling.proofs.rules.rule_2.Goals as goal
use Rattle.ruling.proofs.rules.rule_2.Goals.{then-count_of-ne1-via-then-count_of-ne1, then-count_of-ne1-via-else-count_of-ne1+then-d-plan}

pub returns-in_default : goal.returns-in_default
returns-in_default c = search action_whether

pub count_of-requires : goal.count_of-requires
count_of-requires c = search plan_counted

pub overflow_add-plan : goal.overflow_add-plan
overflow_add-plan c = search items_fit

pub bounds-d-plan : goal.bounds-d-plan
bounds-d-plan c = search item_there

pub returns-then-count_of-ne1 : goal.returns-then-count_of-ne1
returns-then-count_of-ne1 c = elim c.then-count_of-ne1.branch [ then-count_of-ne1-via-then-count_of-ne1 w ↦ search not_one_item | then-count_of-ne1-via-else-count_of-ne1+then-d-plan w ↦ search item_branches ]

pub overflow_add-plan-2 : goal.overflow_add-plan-2
overflow_add-plan-2 c = search items_fit

pub bounds-d-plan-2 : goal.bounds-d-plan-2
bounds-d-plan-2 c = search item_there

pub is_sensing-requires : goal.is_sensing-requires
is_sensing-requires c = search action_small

pub returns-then-is_sensing : goal.returns-then-is_sensing
returns-then-is_sensing c = search action_senses

pub can_be_run-requires : goal.can_be_run-requires
can_be_run-requires c = search action_small

pub state_after-requires-clause-a_lt_actions : goal.state_after-requires-clause-a_lt_actions
state_after-requires-clause-a_lt_actions c = search action_small

pub state_after-requires-clause-marked : goal.state_after-requires-clause-marked
state_after-requires-clause-marked c = search marked_as

pub state_after-requires-clause-marks_value : goal.state_after-requires-clause-marks_value
state_after-requires-clause-marks_value c = search runs_there

pub lists_known-requires-clause-marked : goal.lists_known-requires-clause-marked
lists_known-requires-clause-marked c = search next_marked

pub lists_known-requires-clause-list_here : goal.lists_known-requires-clause-list_here
lists_known-requires-clause-list_here c = search YHere

pub returns-then-can_be_run : goal.returns-then-can_be_run
returns-then-can_be_run c = search action_leads

pub returns-else-can_be_run : goal.returns-else-can_be_run
returns-else-can_be_run c = rw c.if-can_be_run.false (search action_stuck)
