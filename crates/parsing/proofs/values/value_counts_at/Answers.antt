-- At each turn what the whole gives is what the bytes left give.
use borrow.Author.Rules.{rules}
use Rattle.parsing.proofs.ValueReaderLaws.{counts_done, counts_fault, counts_next}
use Rattle.parsing.proofs.values.value_counts_at.Goals as goal

pub loop-preserved : goal.loop-preserved
loop-preserved c = search (rules, counts_next)

pub returns-in_err-after : goal.returns-in_err-after
returns-in_err-after c = search (rules, counts_fault)

pub returns : goal.returns
returns c = search (rules, counts_done)
