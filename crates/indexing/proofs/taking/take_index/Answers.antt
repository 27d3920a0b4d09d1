-- At each turn the actions that are left give what all of them give, and their parts of the index stand from q on.
use Rattle.finding.proofs.StartLaws.{second_byte}
use Rattle.indexing.proofs.TakeLaws.{indexing_starts, indexing_done, action_small, effects_at, effects_end, effects_few, effects_sum, runs_at, runs_end, runs_few, runs_sum, action_taken}
use Rattle.indexing.proofs.taking.take_index.Goals as goal

pub bounds-s-1 : goal.bounds-s-1
bounds-s-1 c = search second_byte

pub loop-a-init : goal.loop-a-init
loop-a-init c = search indexing_starts

pub bounds-index-q : goal.bounds-index-q
bounds-index-q c = search effects_at

pub take_lines-middle-requires-clause-a_lt_actions : goal.take_lines-middle-requires-clause-a_lt_actions
take_lines-middle-requires-clause-a_lt_actions c = search action_small

pub take_lines-middle-requires-clause-q_in_bounds : goal.take_lines-middle-requires-clause-q_in_bounds
take_lines-middle-requires-clause-q_in_bounds c = search effects_at

pub take_lines-middle-requires-clause-q_in_bounds_2 : goal.take_lines-middle-requires-clause-q_in_bounds_2
take_lines-middle-requires-clause-q_in_bounds_2 c = search effects_end

pub take_lines-middle-requires-clause-q_bound : goal.take_lines-middle-requires-clause-q_bound
take_lines-middle-requires-clause-q_bound c = search effects_few

pub bounds-index-middle : goal.bounds-index-middle
bounds-index-middle c = search runs_at

pub take_lines-q-requires-clause-a_lt_actions : goal.take_lines-q-requires-clause-a_lt_actions
take_lines-q-requires-clause-a_lt_actions c = search action_small

pub take_lines-q-requires-clause-q_in_bounds : goal.take_lines-q-requires-clause-q_in_bounds
take_lines-q-requires-clause-q_in_bounds c = search runs_at

pub take_lines-q-requires-clause-q_in_bounds_2 : goal.take_lines-q-requires-clause-q_in_bounds_2
take_lines-q-requires-clause-q_in_bounds_2 c = search runs_end

pub take_lines-q-requires-clause-q_bound : goal.take_lines-q-requires-clause-q_bound
take_lines-q-requires-clause-q_bound c = search runs_few

pub overflow_add-effects : goal.overflow_add-effects
overflow_add-effects c = search effects_sum

pub overflow_add-runs : goal.overflow_add-runs
overflow_add-runs c = search runs_sum

pub loop-a-preserved : goal.loop-a-preserved
loop-a-preserved c =
    action_taken _ _ _ _ _ _ _ _ _ c.loop-a.invariant c.loop-a-test.true _ c.take_lines-middle.ensures.value _ c.wide-run_count.ensures _ _ _ _
    c.wide-effect_count.ensures c.take_lines-q.ensures.value c.take_lines-middle.ensures.t_after c.take_lines-q.ensures.t_after

pub returns : goal.returns
returns c = search indexing_done
