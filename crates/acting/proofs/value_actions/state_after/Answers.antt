-- A turn tells or forgets what the first of the action's effects that are left asks for; what is left then gives what the whole gives, and effect
-- numbers rise in file order. At the end that is the state after, since 16 has passed and the action can be run.
use Rattle.finding.proofs.AheadLaws.{line_few, line_less}
use Rattle.acting.proofs.EffectLaws.{sweeping_starts, effect_body, effect_body_fits, effect_one_fits, effect_one_there, effect_second_fits, effect_second_there, effect_fluent, sweep_known, sweep_told, sweep_unknown, look_told, look_forgotten, look_kept, after_swept}
use Rattle.acting.proofs.value_actions.state_after.Goals as goal

pub loop-k-init : goal.loop-k-init
loop-k-init c = search sweeping_starts

pub line_place-p-requires-clause-k_lt_line_numbers : goal.line_place-p-requires-clause-k_lt_line_numbers
line_place-p-requires-clause-k_lt_line_numbers c = search line_few

pub next_line-k-requires-clause-k_lt_line_numbers : goal.next_line-k-requires-clause-k_lt_line_numbers
next_line-k-requires-clause-k_lt_line_numbers c = search line_few

pub overflow_add-p : goal.overflow_add-p
overflow_add-p c = search effect_one_fits

pub overflow_add-p-in-loop-k : goal.overflow_add-p-in-loop-k
overflow_add-p-in-loop-k c = search effect_second_fits

pub bounds-s-p : goal.bounds-s-p
bounds-s-p c = search effect_one_there

pub bounds-s-p-in-loop-k : goal.bounds-s-p-in-loop-k
bounds-s-p-in-loop-k c = search effect_second_there

pub bounds-next-f : goal.bounds-next-f
bounds-next-f c = search effect_fluent

pub loop-k-smaller-then-next-f : goal.loop-k-smaller-then-next-f
loop-k-smaller-then-next-f c = search line_less

pub loop-k-preserved-then-next-f : goal.loop-k-preserved-then-next-f
loop-k-preserved-then-next-f c = search sweep_known

pub overflow_add-p-then-next-f-eq-UNKNOWN_MARK : goal.overflow_add-p-then-next-f-eq-UNKNOWN_MARK
overflow_add-p-then-next-f-eq-UNKNOWN_MARK c = search effect_body_fits

pub overflow_add-p-else-next-f-eq-UNKNOWN_MARK : goal.overflow_add-p-else-next-f-eq-UNKNOWN_MARK
overflow_add-p-else-next-f-eq-UNKNOWN_MARK c = search effect_body_fits

pub bounds-next-f-in-loop-k : goal.bounds-next-f-in-loop-k
bounds-next-f-in-loop-k c = search effect_fluent

pub each_known-requires-clause-values_here : goal.each_known-requires-clause-values_here
each_known-requires-clause-values_here c = search effect_body

pub bounds-next-f-then-each_known : goal.bounds-next-f-then-each_known
bounds-next-f-then-each_known c = search effect_fluent

pub loop-k-smaller-then-each_known : goal.loop-k-smaller-then-each_known
loop-k-smaller-then-each_known c = search line_less

pub loop-k-preserved-then-each_known : goal.loop-k-preserved-then-each_known
loop-k-preserved-then-each_known c = search sweep_told

pub loop-k-smaller-else-each_known : goal.loop-k-smaller-else-each_known
loop-k-smaller-else-each_known c = search line_less

pub loop-k-preserved-else-each_known : goal.loop-k-preserved-else-each_known
loop-k-preserved-else-each_known c = search sweep_unknown

pub look_at-requires-clause-values_here : goal.look_at-requires-clause-values_here
look_at-requires-clause-values_here c = search effect_body

pub bounds-next-f-in-Known : goal.bounds-next-f-in-Known
bounds-next-f-in-Known c = search effect_fluent

pub loop-k-smaller-in-Known : goal.loop-k-smaller-in-Known
loop-k-smaller-in-Known c = search line_less

pub loop-k-preserved-in-Known : goal.loop-k-preserved-in-Known
loop-k-preserved-in-Known c = search look_told

pub bounds-next-f-in-Possible : goal.bounds-next-f-in-Possible
bounds-next-f-in-Possible c = search effect_fluent

pub loop-k-smaller-in-Possible : goal.loop-k-smaller-in-Possible
loop-k-smaller-in-Possible c = search line_less

pub loop-k-preserved-in-Possible : goal.loop-k-preserved-in-Possible
loop-k-preserved-in-Possible c = search look_forgotten

pub loop-k-smaller : goal.loop-k-smaller
loop-k-smaller c = search line_less

pub loop-k-preserved : goal.loop-k-preserved
loop-k-preserved c = search look_kept

pub returns : goal.returns
returns c = search after_swept
