-- A contradiction is refused at its place; else the answer is that of 17.
use Rattle.refusing.proofs.SettleLaws.{few_16, runs_16, values_16, stand_16, past_16, at_16}
use borrow.Author.Rules.{rules}
use Rattle.refusing.proofs.settled.table_refused.Goals as goal

pub contradiction-requires : goal.contradiction-requires
contradiction-requires c = search (rules, few_16, runs_16, values_16, stand_16)

pub returns-in-None : goal.returns-in-None
returns-in-None c = search (rules, past_16)

pub returns-in-Some : goal.returns-in-Some
returns-in-Some c = search (rules, at_16)
