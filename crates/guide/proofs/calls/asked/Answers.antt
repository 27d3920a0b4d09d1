-- A guide that was refused asks for no reading.
use borrow.Author.Rules.{rules}
use Rattle.verdicts.proofs.ReleasingLaws.{blank_is}
use Rattle.glintstring.proofs.SettledAtHand.{settled_at_hand}
use Rattle.guide.proofs.GuideHeldLaws.{asked_going, asked_refused, asked_fault}
use Rattle.guide.proofs.calls.asked.Goals as goal

pub settle-requires : goal.settle-requires
settle-requires c = search (rules, blank_is)

pub of-r-requires : goal.of-r-requires
of-r-requires c = search (rules, settled_at_hand, blank_is)

pub returns-then-is_going : goal.returns-then-is_going
returns-then-is_going c = let going = rw (c.of-r.ensures.bytes, c.of-r.ensures.notes) at c.is_going.ensures.value in let after = rw c.of-r.ensures.bytes at c.asked_after.ensures in search (rules, asked_going, blank_is)

pub returns-else-is_going : goal.returns-else-is_going
returns-else-is_going c = let going = rw (c.of-r.ensures.bytes, c.of-r.ensures.notes) at c.is_going.ensures.value in search (rules, asked_refused, blank_is)

pub returns-in-Err : goal.returns-in-Err
returns-in-Err c = search (rules, asked_fault)
