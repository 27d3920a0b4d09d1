-- A settled request is at hand, and the guide is on its way where position and marks are fine.
use borrow.Author.Rules.{rules}
use Rattle.verdicts.proofs.ReleasingLaws.{blank_is}
use Rattle.glintstring.proofs.SettledAtHand.{settled_at_hand}
use Rattle.guide.proofs.GuideHeldLaws.{going_position, going_marked, called_going, called_refused, called_fault}
use Rattle.guide.proofs.calls.call.Goals as goal

pub settle-requires : goal.settle-requires
settle-requires c = search (rules, blank_is)

pub of-r-requires : goal.of-r-requires
of-r-requires c = settled_at_hand _ _ _ _ c.settle.ensures _ c.in-Ok.is c.type_inv.request blank_is

pub answer_call-requires : goal.answer_call-requires
answer_call-requires c = let going = rw (c.of-r.ensures.bytes, c.of-r.ensures.notes) at c.is_going.ensures.value in record { position = rw (c.of-r.ensures.bytes, c.of-r.ensures.notes) (going_position _ _ _ _ _ going c.if-is_going.true (settled_at_hand _ _ _ _ c.settle.ensures _ c.in-Ok.is c.type_inv.request blank_is)); marked = search (rules, going_marked) }

pub returns-then-is_going : goal.returns-then-is_going
returns-then-is_going c = let going = rw (c.of-r.ensures.bytes, c.of-r.ensures.notes) at c.is_going.ensures.value in let answered = rw (c.of-r.ensures.bytes, c.of-r.ensures.notes) at c.answer_call.ensures in search (rules, called_going, blank_is)

pub returns-else-is_going : goal.returns-else-is_going
returns-else-is_going c = let going = rw (c.of-r.ensures.bytes, c.of-r.ensures.notes) at c.is_going.ensures.value in search (rules, called_refused, blank_is)

pub returns-in-Err : goal.returns-in-Err
returns-in-Err c = search (rules, called_fault)
