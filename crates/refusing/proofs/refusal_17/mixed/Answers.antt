-- At each turn no knowledge line before is of an action with effects.
use Rattle.refusing.proofs.Laws17.{looked_starts, twice_fits, line_fits, line_there, look_met, look_next, look_done, acts}
use borrow.Author.Rules.{rules}
use Rattle.refusing.proofs.refusal_17.mixed.Goals as goal

pub loop-k-init : goal.loop-k-init
loop-k-init c = search looked_starts

pub overflow_mul-p : goal.overflow_mul-p
overflow_mul-p c = search twice_fits

pub overflow_add-p : goal.overflow_add-p
overflow_add-p c = search line_fits

pub bounds-s-p : goal.bounds-s-p
bounds-s-p c = search line_there

pub first_line-requires : goal.first_line-requires
first_line-requires c = search (rules, acts)

pub returns-then-first_line-gt0 : goal.returns-then-first_line-gt0
returns-then-first_line-gt0 c = search look_met

pub loop-k-preserved : goal.loop-k-preserved
loop-k-preserved c = search look_next

pub returns : goal.returns
returns c = search look_done
