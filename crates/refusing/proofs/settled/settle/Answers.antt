-- A request that is read is refused from 16 on; a fault in reading is the answer.
use borrow.Author.Rules.{rules}
use Rattle.refusing.proofs.SettleLaws.{settle_here, settle_there, settle_fault}
use Rattle.refusing.proofs.settled.settle.Goals as goal

pub refused-requires : goal.refused-requires
refused-requires c = search (rules, settle_here)

pub returns : goal.returns
returns c = search (rules, settle_there)

pub returns-in_err-end : goal.returns-in_err-end
returns-in_err-end c = search (rules, settle_fault)
