-- A turn looks at the first of the action's lines that are left; what is left gives what the whole gives, and line numbers rise in file order.
-- Where none is left the nearest is what is given.
use Rattle.finding.proofs.AheadLaws.{line_few, line_less}
use Rattle.steps.proofs.ActionLaws.{running_starts, running_done, run_body_fits, run_body, run_met, run_next}
use Rattle.steps.proofs.actions.ask.Goals as goal

pub loop-k-init : goal.loop-k-init
loop-k-init c = search running_starts

pub line_place-p-requires-clause-k_lt_line_numbers : goal.line_place-p-requires-clause-k_lt_line_numbers
line_place-p-requires-clause-k_lt_line_numbers c = search line_few

pub overflow_add-p : goal.overflow_add-p
overflow_add-p c = search run_body_fits

pub each_holds-requires : goal.each_holds-requires
each_holds-requires c = search run_body

pub returns-then-each_holds : goal.returns-then-each_holds
returns-then-each_holds c = search run_met

pub next_line-k-requires-clause-k_lt_line_numbers : goal.next_line-k-requires-clause-k_lt_line_numbers
next_line-k-requires-clause-k_lt_line_numbers c = search line_few

pub loop-k-smaller : goal.loop-k-smaller
loop-k-smaller c = search line_less

pub loop-k-preserved : goal.loop-k-preserved
loop-k-preserved c = search run_next

pub returns : goal.returns
returns c = search running_done
