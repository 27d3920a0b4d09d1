-- A request that is read is refused from 16 on; a fault in reading is the answer.
use borrow.Author.Rules.{rules}
use Rattle.refusing.proofs.SettleLaws.{values_here, values_there, values_fault}
use Rattle.refusing.proofs.settled.settle_values.Goals as goal

pub refused-requires : goal.refused-requires
refused-requires c = search (rules, values_here)

pub returns : goal.returns
returns c = search (rules, values_there)

pub returns-in_err-end : goal.returns-in_err-end
returns-in_err-end c = search (rules, values_fault)
