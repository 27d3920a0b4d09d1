-- The lists are what stands at their places, and the plan is the join of the two exactly where the plan that stands there is. A fluent is no list.
use Rattle.ruling.proofs.RuleLaws.{YHere, some_plan, plan_counted, items_fit, some_items, first_whether, starts_apart, meets_apart, ends_apart, composed}
use Rattle.ruling.proofs.rules.rule_5.Goals as goal
use Rattle.ruling.proofs.rules.rule_5.Goals.{then-not-same_lists-via-then-not-same_lists, then-not-same_lists-via-else-not-same_lists+then-not-same_lists-2, then-not-same_lists-via-else-not-same_lists+else-not-same_lists-2+then-not-same_conclusions}

pub returns-in_default : goal.returns-in_default
returns-in_default c = search first_whether

pub same_lists-requires-else-not-same_lists-clause-list_here : goal.same_lists-requires-else-not-same_lists-clause-list_here
same_lists-requires-else-not-same_lists-clause-list_here c = search YHere

pub returns-then-not-same_lists : goal.returns-then-not-same_lists
returns-then-not-same_lists c = elim c.then-not-same_lists.branch [ then-not-same_lists-via-then-not-same_lists w ↦ search starts_apart | then-not-same_lists-via-else-not-same_lists+then-not-same_lists-2 w ↦ search meets_apart | then-not-same_lists-via-else-not-same_lists+else-not-same_lists-2+then-not-same_conclusions w ↦ search ends_apart ]

pub count_of-count-requires : goal.count_of-count-requires
count_of-count-requires c = search plan_counted

pub count_of-more-requires : goal.count_of-more-requires
count_of-more-requires c = search plan_counted

pub overflow_add-first : goal.overflow_add-first
overflow_add-first c = search items_fit

pub overflow_add-second : goal.overflow_add-second
overflow_add-second c = search items_fit

pub joined_plans-requires-clause-some_plan : goal.joined_plans-requires-clause-some_plan
joined_plans-requires-clause-some_plan c = search some_plan

pub joined_plans-requires-clause-some_items : goal.joined_plans-requires-clause-some_items
joined_plans-requires-clause-some_items c = search some_items

pub joined_plans-requires-clause-some_items_2 : goal.joined_plans-requires-clause-some_items_2
joined_plans-requires-clause-some_items_2 c = search some_items

pub returns : goal.returns
returns c = search composed
