-- A branch without items leaves the count of items as it was; of another it was noted.
use Rattle.finding.proofs.ByBranch.{count_here, item_empty, item_noted}
use borrow.Author.Rules.{rules}
use Rattle.finding.proofs.branches.next_item.Goals as goal

pub empty-none-requires : goal.empty-none-requires
empty-none-requires c = search (rules, count_here)

pub returns-then-none : goal.returns-then-none
returns-then-none c = search item_empty

pub returns : goal.returns
returns c = search item_noted
