-- By what comes next there is one law for each return.
use Rattle.guide.proofs.TurnLaws.{item_ahead, comes_end, comes_action, comes_nowhere}
use Rattle.guide.proofs.going.go_on.Goals as goal

pub do_item-requires-clause-item_there : goal.do_item-requires-clause-item_there
do_item-requires-clause-item_there c = search item_ahead

pub returns-in-End : goal.returns-in-End
returns-in-End c = search comes_end

pub returns-in-Action : goal.returns-in-Action
returns-in-Action c = search comes_action

pub returns-in-NoBranch : goal.returns-in-NoBranch
returns-in-NoBranch c = search comes_nowhere
