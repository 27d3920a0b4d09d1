-- The count is missing, below its least, above its most, or within: one law for each.
use borrow.Author.Rules.{rules}
use Rattle.parsing.proofs.ByteLaws.{count_low, count_high, count_within, count_fault}
use Rattle.parsing.proofs.bytes.count_at.Goals as goal

pub returns-in_err-count : goal.returns-in_err-count
returns-in_err-count c = search (rules, count_fault)

pub returns-then-count-least : goal.returns-then-count-least
returns-then-count-least c = search (rules, count_low, count_high)

pub returns : goal.returns
returns c = search (rules, count_within)
