-- The action of an item stands at its place; what the guide knows when it is done is by whether it senses.
use Rattle.steps.proofs.OnwardLaws.{item_inside}
use Rattle.guide.proofs.TurnLaws.{action_low, item_refused, item_sensing, item_acting}
use Rattle.guide.proofs.going.do_item.Goals as goal

pub bounds-r-get : goal.bounds-r-get
bounds-r-get c = search item_inside

pub can_be_run-requires : goal.can_be_run-requires
can_be_run-requires c = search action_low

pub returns-then-not-can_be_run : goal.returns-then-not-can_be_run
returns-then-not-can_be_run c = search item_refused

pub is_sensing-requires : goal.is_sensing-requires
is_sensing-requires c = search action_low

pub returns-then-is_sensing : goal.returns-then-is_sensing
returns-then-is_sensing c = search item_sensing

pub state_after-marks-requires-clause-a_lt_actions : goal.state_after-marks-requires-clause-a_lt_actions
state_after-marks-requires-clause-a_lt_actions c = search action_low

pub returns-else-is_sensing : goal.returns-else-is_sensing
returns-else-is_sensing c = search item_acting
