-- An overlap is refused at its place; else nothing is.
use borrow.Author.Rules.{rules}
use Rattle.refusing.proofs.SettleLaws.{values_18, stand_18, none_18, at_18}
use Rattle.refusing.proofs.settled.plan_refused.Goals as goal

pub overlap-requires-clause-counted : goal.overlap-requires-clause-counted
overlap-requires-clause-counted c = search (rules, values_18, c.shared_slice_known-1.given)

pub overlap-requires-clause-some_plan : goal.overlap-requires-clause-some_plan
overlap-requires-clause-some_plan c = search (rules, stand_18, c.shared_slice_known-1.given)

pub returns-in-None : goal.returns-in-None
returns-in-None c = search (rules, none_18, c.shared_slice_known-1.given)

pub returns-in-Some : goal.returns-in-Some
returns-in-Some c = search (rules, at_18, c.shared_slice_known-1.given)
