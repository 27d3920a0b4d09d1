-- A turn flags the body of the first of the action's lines that are left; what is left then gives what the whole gives, and line numbers rise in
-- file order.
use Rattle.finding.proofs.AheadLaws.{line_few, line_less}
use Rattle.steps.proofs.FlagLaws.{lines_start, body_there, body_fits, line_flagged, lines_done}
use Rattle.steps.proofs.opening.flag_lines.Goals as goal

pub loop-k-init : goal.loop-k-init
loop-k-init c = search lines_start

pub line_place-requires-clause-k_lt_line_numbers : goal.line_place-requires-clause-k_lt_line_numbers
line_place-requires-clause-k_lt_line_numbers c = search line_few

pub overflow_add-line_place : goal.overflow_add-line_place
overflow_add-line_place c = search body_fits

pub flag_body-requires : goal.flag_body-requires
flag_body-requires c = search body_there

pub next_line-k-requires-clause-k_lt_line_numbers : goal.next_line-k-requires-clause-k_lt_line_numbers
next_line-k-requires-clause-k_lt_line_numbers c = search line_few

pub loop-k-smaller : goal.loop-k-smaller
loop-k-smaller c = search line_less

pub loop-k-preserved : goal.loop-k-preserved
loop-k-preserved c = search line_flagged

pub returns : goal.returns
returns c = search lines_done
