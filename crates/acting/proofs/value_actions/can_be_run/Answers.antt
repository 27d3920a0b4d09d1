-- A turn looks at the first of the action's lines that are left; what is left gives what the whole gives, and line numbers rise in file order.
use Rattle.finding.proofs.AheadLaws.{line_few, line_less}
use Rattle.acting.proofs.RunLaws.{running_starts, running_done, run_body, run_body_fits, run_met, run_next}
use Rattle.acting.proofs.value_actions.can_be_run.Goals as goal

pub loop-k-init : goal.loop-k-init
loop-k-init c = search running_starts

pub line_place-p-requires-clause-k_lt_line_numbers : goal.line_place-p-requires-clause-k_lt_line_numbers
line_place-p-requires-clause-k_lt_line_numbers c = search line_few

pub overflow_add-p : goal.overflow_add-p
overflow_add-p c = search run_body_fits

pub each_known-requires-clause-values_here : goal.each_known-requires-clause-values_here
each_known-requires-clause-values_here c = search run_body

pub returns-then-each_known : goal.returns-then-each_known
returns-then-each_known c = search run_met

pub next_line-k-requires-clause-k_lt_line_numbers : goal.next_line-k-requires-clause-k_lt_line_numbers
next_line-k-requires-clause-k_lt_line_numbers c = search line_few

pub loop-k-smaller : goal.loop-k-smaller
loop-k-smaller c = search line_less

pub loop-k-preserved : goal.loop-k-preserved
loop-k-preserved c = search run_next

pub returns : goal.returns
returns c = search running_done
