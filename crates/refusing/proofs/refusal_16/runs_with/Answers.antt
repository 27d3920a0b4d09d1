-- A turn looks at the first of the action's lines that are left; what is left gives what the whole gives, and line numbers rise in file order.
use Rattle.finding.proofs.AheadLaws.{line_few, line_less}
use Rattle.refusing.proofs.AgreeLaws.{passing_starts, passing_done, run_body_fits, run_body, passing_met, passing_next}
use borrow.Author.Rules.{rules}
use Rattle.refusing.proofs.refusal_16.runs_with.Goals as goal

pub loop-k-init : goal.loop-k-init
loop-k-init g c = search passing_starts

pub line_place-p-requires : goal.line_place-p-requires
line_place-p-requires g c = search (rules, line_few)

pub overflow_add-p : goal.overflow_add-p
overflow_add-p g c = search run_body_fits

pub agrees_with_both-requires-clause-literals_here : goal.agrees_with_both-requires-clause-literals_here
agrees_with_both-requires-clause-literals_here g c = search (rules, run_body)

pub returns-then-agrees_with_both : goal.returns-then-agrees_with_both
returns-then-agrees_with_both g c = search passing_met

pub next_line-k-requires : goal.next_line-k-requires
next_line-k-requires g c = search (rules, line_few)

pub loop-k-smaller : goal.loop-k-smaller
loop-k-smaller g c = search line_less

pub loop-k-preserved : goal.loop-k-preserved
loop-k-preserved g c = search passing_next

pub returns : goal.returns
returns g c = search passing_done
