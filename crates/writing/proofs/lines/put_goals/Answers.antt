-- The parts of the line go behind those that are there, one after another; where there are too many lines, nothing is put.
use native.Mathlib.Omega.{arith}
use mathlib.Core.Path.{refl}
use Rattle.writing.proofs.ProgressLaws.{lines_over, progress_near, line_goes_on, line_added}
use Rattle.writing.proofs.PutLineLaws.{cited_line}
use Rattle.writing.proofs.lines.put_goals.Goals as goal

pub returns-then-progress-gt-LINES-clause-stands : goal.returns-then-progress-gt-LINES-clause-stands
returns-then-progress-gt-LINES-clause-stands c = search lines_over

pub put_known-plan-requires : goal.put_known-plan-requires
put_known-plan-requires c = let near = progress_near _ c.requires.underway c.if-progress-gt-LINES.false in record { marked = c.requires.marked; q_bound = omega (arith, near) }

pub put_rest-concluded-requires : goal.put_rest-concluded-requires
put_rest-concluded-requires c = let near = progress_near _ c.requires.underway c.if-progress-gt-LINES.false in let plan = c.put_known-plan.ensures.within in record { position = c.requires.position; q_bound = omega (arith, near, plan) }

pub put_asked-ruled-requires : goal.put_asked-ruled-requires
put_asked-ruled-requires c = let near = progress_near _ c.requires.underway c.if-progress-gt-LINES.false in let rest = c.put_rest-concluded.ensures.within in let plan = c.put_known-plan.ensures.within in omega (arith, near, rest, plan)

pub overflow_add-ruled : goal.overflow_add-ruled
overflow_add-ruled c = let near = progress_near _ c.requires.underway c.if-progress-gt-LINES.false in
    let asked = c.put_asked-ruled.ensures.within in
    let rest = c.put_rest-concluded.ensures.within in
    let plan = c.put_known-plan.ensures.within in
    record { fits = omega (arith, near, asked, rest, plan) }

pub put_cites-progress-requires : goal.put_cites-progress-requires
put_cites-progress-requires c = let near = progress_near _ c.requires.underway c.if-progress-gt-LINES.false in let asked = c.put_asked-ruled.ensures.within in let rest = c.put_rest-concluded.ensures.within in let plan = c.put_known-plan.ensures.within in record { q_bound = omega (arith, near, asked, rest, plan) }

pub returns : goal.returns
returns c = let first = c.put_known-plan.ensures in let second = c.put_rest-concluded.ensures in let third = c.put_asked-ruled.ensures in let last = c.put_cites-progress.ensures in let line = cited_line _ _ _ _ _ first.written first.after _ _ _ _ _ _ _ _ _ _ _ second.written second.after third.written third.after _ refl c.put.ensures last.written last.after in let one = first.within in let two = second.within in let three = third.within in let four = last.within in record { stands = line_added _ c.requires.underway c.if-progress-gt-LINES.false _ _ _ _ line.put line.ends; going = line_goes_on _ c.requires.underway c.if-progress-gt-LINES.false _ (omega (arith, one, two, three, four)) }
