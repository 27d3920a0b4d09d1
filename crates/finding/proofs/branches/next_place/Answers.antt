-- A branch without items ends behind its count; where another ends was noted.
use Rattle.finding.proofs.ByBranch.{count_here, place_empty, place_noted}
use borrow.Author.Rules.{rules}
use Rattle.finding.proofs.branches.next_place.Goals as goal

pub empty-none-requires : goal.empty-none-requires
empty-none-requires c = search (rules, count_here)

pub returns-then-none : goal.returns-then-none
returns-then-none c = search place_empty

pub returns : goal.returns
returns c = search place_noted
