-- The first line is the best so far, and a turn looks at the first of those that are left: it becomes the best where it is short by fewer. What
-- is left gives, with the best so far, what the whole gives, and line numbers rise in file order.
use Rattle.finding.proofs.AheadLaws.{line_few, line_less}
use Rattle.steps.proofs.ActionLaws.{never_near, first_few, first_body, first_body_fits, nearing_starts, nearing_done, near_body_fits, near_body, near_fewer, near_kept}
use borrow.Author.Rules.{rules}
use Rattle.steps.proofs.actions.nearest.Goals as goal
use Rattle.steps.proofs.actions.nearest.Goals.{then-short-fewest, else-short-fewest}

pub returns-then-first-eq0 : goal.returns-then-first-eq0
returns-then-first-eq0 c = search never_near

pub line_place-best-requires-clause-k_lt_line_numbers : goal.line_place-best-requires-clause-k_lt_line_numbers
line_place-best-requires-clause-k_lt_line_numbers c = search first_few

pub overflow_add-best : goal.overflow_add-best
overflow_add-best c = search first_body_fits

pub short_by-fewest-requires : goal.short_by-fewest-requires
short_by-fewest-requires c = search first_body

pub next_line-k-requires-clause-k_lt_line_numbers : goal.next_line-k-requires-clause-k_lt_line_numbers
next_line-k-requires-clause-k_lt_line_numbers c = search first_few

pub loop-k-init : goal.loop-k-init
loop-k-init c = search nearing_starts

pub line_place-p-requires-clause-k_lt_line_numbers : goal.line_place-p-requires-clause-k_lt_line_numbers
line_place-p-requires-clause-k_lt_line_numbers c = search line_few

pub overflow_add-p : goal.overflow_add-p
overflow_add-p c = search near_body_fits

pub short_by-short-requires : goal.short_by-short-requires
short_by-short-requires c = search near_body

pub next_line-k-requires-in-loop-k : goal.next_line-k-requires-in-loop-k
next_line-k-requires-in-loop-k c = record { lines_le_run_lines = search rules; k_lt_line_numbers = search line_few }

pub loop-k-smaller : goal.loop-k-smaller
loop-k-smaller c = search line_less

pub loop-k-preserved : goal.loop-k-preserved
loop-k-preserved c = elim c.if-short-fewest.branch [
  | then-short-fewest w ↦ rw (w.best-is, w.fewest-is) (search near_fewer)
  | else-short-fewest w ↦ rw (w.best-is, w.fewest-is) (search near_kept)
]

pub returns : goal.returns
returns c = search nearing_done
