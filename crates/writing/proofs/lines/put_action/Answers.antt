-- The parts of the line go behind those that are there, one after another; where there are too many lines, nothing is put.
use native.Mathlib.Omega.{arith}
use Rattle.writing.proofs.ProgressLaws.{lines_over, progress_near, line_goes_on, line_added}
use Rattle.writing.proofs.PutLineLaws.{action_line}
use borrow.Author.Rules.{rules}
use Rattle.writing.proofs.lines.put_action.Goals as goal

pub returns-then-progress-gt-LINES-clause-stands : goal.returns-then-progress-gt-LINES-clause-stands
returns-then-progress-gt-LINES-clause-stands c = search lines_over

pub put_known-plan-requires : goal.put_known-plan-requires
put_known-plan-requires c = let near = progress_near _ c.requires.underway c.if-progress-gt-LINES.false in record { marked = c.requires.marked; q_bound = omega (arith, near) }

pub overflow_add-plan : goal.overflow_add-plan
overflow_add-plan c = let near = progress_near _ c.requires.underway c.if-progress-gt-LINES.false in
    let plan = c.put_known-plan.ensures.within in
    record { fits = omega (arith, near, plan) }

pub overflow_add-plan-2 : goal.overflow_add-plan-2
overflow_add-plan-2 c = let near = progress_near _ c.requires.underway c.if-progress-gt-LINES.false in
    let plan = c.put_known-plan.ensures.within in
    record { fits = omega (arith, near, plan) }

pub put_number-requires : goal.put_number-requires
put_number-requires c = let near = progress_near _ c.requires.underway c.if-progress-gt-LINES.false in let plan = c.put_known-plan.ensures.within in record { k_bound = search rules; q_bound = omega (arith, near, plan) }

pub put_uncited-progress-requires : goal.put_uncited-progress-requires
put_uncited-progress-requires c = let near = progress_near _ c.requires.underway c.if-progress-gt-LINES.false in let plan = c.put_known-plan.ensures.within in record { marked = c.requires.marked_2; q_bound = omega (arith, near, plan) }

pub returns : goal.returns
returns c = let first = c.put_known-plan.ensures in let last = c.put_uncited-progress.ensures in let line = action_line _ _ _ _ _ first.written first.after _ _ _ _ _ _ c.put_number.ensures c.put.ensures last.written last.after in let one = first.within in let two = last.within in record { stands = line_added _ c.requires.underway c.if-progress-gt-LINES.false _ _ _ _ line.put line.ends; going = line_goes_on _ c.requires.underway c.if-progress-gt-LINES.false _ (omega (arith, one, two)) }
