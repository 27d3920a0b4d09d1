-- The lists are what stands at their places, and the plans are the same exactly where the plans that stand there are. A fluent is no list.
use Rattle.ruling.proofs.RuleLaws.{YHere, YClear, some_plan, part_of_whether, whether_in_part, not_within, other_plan, ends_within}
use Rattle.ruling.proofs.rules.rule_6.Goals as goal

pub returns-in_default : goal.returns-in_default
returns-in_default c = search part_of_whether

pub returns-in_default-conclusion : goal.returns-in_default-conclusion
returns-in_default-conclusion c = search whether_in_part

pub returns-then-not-within : goal.returns-then-not-within
returns-then-not-within c = search not_within

pub same_plans-requires-clause-some_plan : goal.same_plans-requires-clause-some_plan
same_plans-requires-clause-some_plan c = search some_plan

pub same_plans-requires-clause-some_plan_2 : goal.same_plans-requires-clause-some_plan_2
same_plans-requires-clause-some_plan_2 c = search some_plan

pub within-requires-then-same_plans-clause-list_here : goal.within-requires-then-same_plans-clause-list_here
within-requires-then-same_plans-clause-list_here c = search YHere

pub within-requires-then-same_plans-clause-list_here_2 : goal.within-requires-then-same_plans-clause-list_here_2
within-requires-then-same_plans-clause-list_here_2 c = search YHere

pub within-requires-then-same_plans-clause-q_value : goal.within-requires-then-same_plans-clause-q_value
within-requires-then-same_plans-clause-q_value c = search YClear

pub returns-then-same_plans : goal.returns-then-same_plans
returns-then-same_plans c = search ends_within

pub returns-else-same_plans : goal.returns-else-same_plans
returns-else-same_plans c = rw c.if-same_plans.false (search other_plan)
