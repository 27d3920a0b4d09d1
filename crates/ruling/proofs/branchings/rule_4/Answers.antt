-- X and the conclusions are compared first, so that the plans are left. The line's plan, which was read before, is read again without a fault, and
-- the notes then hold its branching. No other plan has a branching first.
use Rattle.ruling.proofs.RuleLaws.{some_plan}
use Rattle.ruling.proofs.BranchRuleLaws.{starts_other, ends_other, plan_counted, first_fits, count_none, first_there, other_first, branching_first, rule_by_branch, read_again}
use Rattle.parsing.proofs.LineReaderLaws.{counted_flags}
use Rattle.ruling.proofs.branchings.rule_4.Goals as goal
use Rattle.ruling.proofs.branchings.rule_4.Goals.{then-not-same_lists-via-then-not-same_lists, then-not-same_lists-via-else-not-same_lists+then-not-same_conclusions, then-count-eq0-via-then-count-eq0, then-count-eq0-via-else-count-eq0+then-d-plan}

pub returns-then-not-same_lists : goal.returns-then-not-same_lists
returns-then-not-same_lists c = elim c.then-not-same_lists.branch [ then-not-same_lists-via-then-not-same_lists w ↦ search starts_other | then-not-same_lists-via-else-not-same_lists+then-not-same_conclusions w ↦ search ends_other ]

pub count_of-count-requires : goal.count_of-count-requires
count_of-count-requires c = search plan_counted

pub overflow_add-plan : goal.overflow_add-plan
overflow_add-plan c = search first_fits

pub bounds-d-plan : goal.bounds-d-plan
bounds-d-plan c = search first_there

pub returns-then-count-eq0 : goal.returns-then-count-eq0
returns-then-count-eq0 c = elim c.then-count-eq0.branch [ then-count-eq0-via-then-count-eq0 w ↦ search count_none | then-count-eq0-via-else-count-eq0+then-d-plan w ↦ search other_first ]

pub plan_at-requires-clause-counted : goal.plan_at-requires-clause-counted
plan_at-requires-clause-counted c = search counted_flags

pub some_branch-requires-clause-some_branched : goal.some_branch-requires-clause-some_branched
some_branch-requires-clause-some_branched c = branching_first _ _ _ _ _ c.sequence_of-plan.ensures _ c.count_of-count.ensures c.if-count-eq0.false c.if-d-plan.false c.requires.n_le_fluents c.requires.m_le_actions _ _ _ c.plan_at.ensures c.sized.ensures _ _ c.in-Ok.is c.requires.some_read

pub some_branch-requires-clause-some_plan : goal.some_branch-requires-clause-some_plan
some_branch-requires-clause-some_plan c = some_plan _ _ _ c.sequence_of-given.ensures c.requires.some_line

pub returns : goal.returns
returns c = rule_by_branch _ _ _ _ _ c.sequence_of-plan.ensures _ c.count_of-count.ensures c.if-count-eq0.false c.if-d-plan.false c.requires.n_le_fluents c.requires.m_le_actions _ _ _ c.plan_at.ensures c.sized.ensures _ _ c.in-Ok.is _ _ _ c.same_lists.ensures c.if-not-same_lists.false c.same_conclusions.ensures c.if-not-same_conclusions.false _ c.state_of-held.ensures _ c.sequence_of-given.ensures _ c.some_branch.ensures

pub returns-in_default : goal.returns-in_default
returns-in_default c = search read_again
