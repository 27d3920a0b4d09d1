-- The whether list's count stands after the goals, so 30 is told as defined; past it the answer is that of the derivation's check.
use borrow.Author.Rules.{rules}
use Rattle.steps.proofs.HandLaws.{goals_here}
use Rattle.glintstring.proofs.CheckCallLaws.{whether_inside, check_30, check_accepts, check_refuses}
use Rattle.glintstring.proofs.check_calls.check_at_hand.Goals as goal

pub sequence_of-whether-requires : goal.sequence_of-whether-requires
sequence_of-whether-requires c = search (rules, goals_here)

pub bounds-r-whether : goal.bounds-r-whether
bounds-r-whether c = search (rules, whether_inside)

pub returns-then-is_beyond : goal.returns-then-is_beyond
returns-then-is_beyond c = search (rules, check_30)

pub returns-in-Ok : goal.returns-in-Ok
returns-in-Ok c = rw c.uncounted-in-Ok.ensures (search (rules, check_accepts))

pub returns-in-Err : goal.returns-in-Err
returns-in-Err c = search (rules, check_refuses)
