-- The notes have the number of the plan's items.
use Rattle.guide.proofs.GuideTestLaws.{end_tested, item_tested}
use Rattle.guide.proofs.calls.is_position.Goals as goal

pub returns-then-at-eq-ITEMS : goal.returns-then-at-eq-ITEMS
returns-then-at-eq-ITEMS c = search end_tested

pub returns-else-at-eq-ITEMS : goal.returns-else-at-eq-ITEMS
returns-else-at-eq-ITEMS c = search item_tested
