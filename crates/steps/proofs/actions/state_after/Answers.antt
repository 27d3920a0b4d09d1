-- A turn tells or undoes what the first of the action's effects that are left asks for; what is left then gives what the whole gives, and effect
-- numbers rise in file order. At the end that is the state after, since 16 has passed and the action can be run.
use Rattle.std.proofs.Common.{arith}
use Rattle.finding.proofs.AheadLaws.{line_few, line_less}
use Rattle.steps.proofs.ActionLaws.{sweeping_starts, effect_body, effect_body_fits, effect_one_fits, effect_one_there, effect_fluent, sweep_known, sweep_told, sweep_unknown, look_told, look_undone, look_kept}
use Rattle.steps.proofs.AfterLaws.{after_swept}
use Rattle.steps.proofs.actions.state_after.Goals as goal

pub loop-k-init : goal.loop-k-init
loop-k-init c = search sweeping_starts

pub line_place-p-requires-clause-k_lt_line_numbers : goal.line_place-p-requires-clause-k_lt_line_numbers
line_place-p-requires-clause-k_lt_line_numbers c = search line_few

pub next_line-k-requires-clause-k_lt_line_numbers : goal.next_line-k-requires-clause-k_lt_line_numbers
next_line-k-requires-clause-k_lt_line_numbers c = search line_few

pub overflow_add-p : goal.overflow_add-p
overflow_add-p c = search effect_one_fits

pub bounds-r-p : goal.bounds-r-p
bounds-r-p c = search effect_one_there

pub bounds-next-f : goal.bounds-next-f
bounds-next-f c = search effect_fluent

pub loop-k-smaller-then-next-f : goal.loop-k-smaller-then-next-f
loop-k-smaller-then-next-f c = search line_less

pub loop-k-preserved-then-next-f : goal.loop-k-preserved-then-next-f
loop-k-preserved-then-next-f c = sweep_known _ _ _ _ _ _ c.loop-k.invariant c.loop-k-test.true _ _ c.line_place-p.ensures c.next_line-k.ensures _ _ c.wide-l.ensures c.mark_of-mark.ensures c.if-next-f.true

pub overflow_add-p-then-next-f-eq0 : goal.overflow_add-p-then-next-f-eq0
overflow_add-p-then-next-f-eq0 c = search effect_body_fits

pub bounds-next-f-in-loop-k : goal.bounds-next-f-in-loop-k
bounds-next-f-in-loop-k c = search effect_fluent

pub each_holds-requires : goal.each_holds-requires
each_holds-requires c = search effect_body

pub bounds-next-f-then-each_holds : goal.bounds-next-f-then-each_holds
bounds-next-f-then-each_holds c = search effect_fluent

pub loop-k-smaller-then-each_holds : goal.loop-k-smaller-then-each_holds
loop-k-smaller-then-each_holds c = search line_less

pub loop-k-preserved-then-each_holds : goal.loop-k-preserved-then-each_holds
loop-k-preserved-then-each_holds c = sweep_told _ _ _ _ _ _ c.loop-k.invariant c.loop-k-test.true _ _ c.line_place-p.ensures c.next_line-k.ensures _ _ c.wide-l.ensures c.mark_of-mark.ensures c.if-next-f.false _ c.each_holds.ensures c.if-each_holds.true

pub loop-k-smaller-else-each_holds : goal.loop-k-smaller-else-each_holds
loop-k-smaller-else-each_holds c = search line_less

pub loop-k-preserved-else-each_holds : goal.loop-k-preserved-else-each_holds
loop-k-preserved-else-each_holds c = sweep_unknown _ _ _ _ _ _ c.loop-k.invariant c.loop-k-test.true _ _ c.line_place-p.ensures c.next_line-k.ensures _ _ c.wide-l.ensures c.mark_of-mark.ensures c.if-next-f.false _ c.each_holds.ensures c.if-each_holds.false (omega arith)

pub overflow_add-p-else-next-f-eq0 : goal.overflow_add-p-else-next-f-eq0
overflow_add-p-else-next-f-eq0 c = search effect_body_fits

pub look_at-requires : goal.look_at-requires
look_at-requires c = search effect_body

pub bounds-next-f-in-Known : goal.bounds-next-f-in-Known
bounds-next-f-in-Known c = search effect_fluent

pub loop-k-smaller-in-Known : goal.loop-k-smaller-in-Known
loop-k-smaller-in-Known c = search line_less

pub loop-k-preserved-in-Known : goal.loop-k-preserved-in-Known
loop-k-preserved-in-Known c = look_told _ _ _ _ _ _ c.loop-k.invariant c.loop-k-test.true _ _ c.line_place-p.ensures c.next_line-k.ensures _ _ c.wide-l.ensures c.mark_of-mark.ensures c.if-next-f.false _ c.look_at.ensures c.in-Known.is

pub bounds-next-f-in-Possible : goal.bounds-next-f-in-Possible
bounds-next-f-in-Possible c = search effect_fluent

pub loop-k-smaller-in-Possible : goal.loop-k-smaller-in-Possible
loop-k-smaller-in-Possible c = search line_less

pub loop-k-preserved-in-Possible : goal.loop-k-preserved-in-Possible
loop-k-preserved-in-Possible c = look_undone _ _ _ _ _ _ c.loop-k.invariant c.loop-k-test.true _ _ c.line_place-p.ensures c.next_line-k.ensures _ _ c.wide-l.ensures c.mark_of-mark.ensures c.if-next-f.false _ c.look_at.ensures c.in-Possible.is c.if-next-f-eq0.false

pub loop-k-smaller : goal.loop-k-smaller
loop-k-smaller c = search line_less

pub loop-k-preserved : goal.loop-k-preserved
loop-k-preserved c = look_kept _ _ _ _ _ _ c.loop-k.invariant c.loop-k-test.true _ _ c.line_place-p.ensures c.next_line-k.ensures _ _ c.wide-l.ensures c.mark_of-mark.ensures c.if-next-f.false _ c.look_at.ensures c.in-Never.is

pub returns : goal.returns
returns c = search after_swept
