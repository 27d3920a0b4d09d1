-- A guarded request that is read is refused from 16 on; a fault in reading is the answer.
use borrow.Author.Rules.{rules}
use Rattle.refusing.proofs.SettleLaws.{guarded_stands, guarded_there, guarded_fault}
use Rattle.refusing.proofs.settled.settle_guarded.Goals as goal

pub refused-requires : goal.refused-requires
refused-requires c = search (rules, guarded_stands)

pub returns : goal.returns
returns c = search (rules, guarded_there)

pub returns-in_err-end : goal.returns-in_err-end
returns-in_err-end c = search (rules, guarded_fault)
