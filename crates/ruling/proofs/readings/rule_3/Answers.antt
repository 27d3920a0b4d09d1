-- The first item is told by its byte; where it is a sensing action that can be run, each reading is said by its line exactly where the citations used
-- are all, and then they are as many as the readings.
use Rattle.steps.proofs.ToldMarks.{marked_as}
use Rattle.ruling.proofs.RuleLaws.{plan_counted, items_fit, items_there}
use Rattle.ruling.proofs.ReadingRuleLaws.{none_first, branching_first, action_small, some_rest, not_sensing, not_run, all_read}
use Rattle.ruling.proofs.readings.rule_3.Goals as goal
use Rattle.ruling.proofs.readings.rule_3.Goals.{then-count_of-eq0-via-then-count_of-eq0, then-count_of-eq0-via-else-count_of-eq0+then-d-plan}

pub count_of-requires : goal.count_of-requires
count_of-requires c = search plan_counted

pub overflow_add-plan : goal.overflow_add-plan
overflow_add-plan c = search items_fit

pub bounds-d-plan : goal.bounds-d-plan
bounds-d-plan c = search items_there

pub returns-then-count_of-eq0 : goal.returns-then-count_of-eq0
returns-then-count_of-eq0 c = elim c.then-count_of-eq0.branch [ then-count_of-eq0-via-then-count_of-eq0 w ↦ search none_first | then-count_of-eq0-via-else-count_of-eq0+then-d-plan w ↦ search branching_first ]

pub overflow_add-plan-2 : goal.overflow_add-plan-2
overflow_add-plan-2 c = search items_fit

pub bounds-d-plan-2 : goal.bounds-d-plan-2
bounds-d-plan-2 c = search items_there

pub is_sensing-requires : goal.is_sensing-requires
is_sensing-requires c = search action_small

pub returns-then-not-is_sensing : goal.returns-then-not-is_sensing
returns-then-not-is_sensing c = search not_sensing

pub can_be_run-requires : goal.can_be_run-requires
can_be_run-requires c = search action_small

pub returns-then-not-can_be_run : goal.returns-then-not-can_be_run
returns-then-not-can_be_run c = search not_run

pub first_unknown-f-requires-clause-a_lt_actions : goal.first_unknown-f-requires-clause-a_lt_actions
first_unknown-f-requires-clause-a_lt_actions c = search action_small

pub first_unknown-f-requires-clause-marked_as : goal.first_unknown-f-requires-clause-marked_as
first_unknown-f-requires-clause-marked_as c = search marked_as

pub each_reading-requires-clause-a_lt_actions : goal.each_reading-requires-clause-a_lt_actions
each_reading-requires-clause-a_lt_actions c = search action_small

pub each_reading-requires-clause-marked : goal.each_reading-requires-clause-marked
each_reading-requires-clause-marked c = search marked_as

pub each_reading-requires-clause-some_rest : goal.each_reading-requires-clause-some_rest
each_reading-requires-clause-some_rest c = search some_rest

pub returns : goal.returns
returns c = all_read _ _ _ _ c.sequence_of-plan.ensures c.count_of.ensures c.if-count_of-eq0.false c.if-d-plan.false _ _ _ c.wide-a.ensures _ _ c.is_sensing.ensures _ c.state_of-marks.ensures _ c.can_be_run.ensures c.if-not-is_sensing.false c.if-not-can_be_run.false _ c.first_unknown-f.ensures _ c.wide.ensures _ c.requires.l_value _ c.each_reading.ensures _ c.eq.ensures
