-- The request is settled first, as the definition has it, and then it is at hand.
use borrow.Author.Rules.{rules}
use Rattle.glintstring.proofs.CheckCallLaws.{check_settled_first, check_then}
use Rattle.glintstring.proofs.SettledAtHand.{settled_at_hand}
use Rattle.verdicts.proofs.ReleasingLaws.{blank_is}
use Rattle.glintstring.proofs.check_calls.check_as.Goals as goal

pub settle-requires : goal.settle-requires
settle-requires c = search (rules, blank_is)

pub of-requires : goal.of-requires
of-requires c = search (rules, settled_at_hand, blank_is)

pub returns-in-Ok : goal.returns-in-Ok
returns-in-Ok c = let checked = rw (c.of.ensures.bytes, c.of.ensures.notes) at c.check_at_hand.ensures in search (rules, check_then, blank_is)

pub returns-in-Err : goal.returns-in-Err
returns-in-Err c = search (rules, check_settled_first)
