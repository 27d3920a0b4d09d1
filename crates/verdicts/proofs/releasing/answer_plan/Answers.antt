-- An overlap is refused at its place; else the walk of the request at hand is what the definition says.
use borrow.Author.Rules.{rules}
use Rattle.parsing.proofs.LineReaderLaws.{counted_flags}
use Rattle.verdicts.proofs.ReleasingLaws.{plan_there, plan_walked, plan_18}
use Rattle.verdicts.proofs.releasing.answer_plan.Goals as goal

pub overlap-requires-clause-counted : goal.overlap-requires-clause-counted
overlap-requires-clause-counted c = search (rules, counted_flags)

pub overlap-requires-clause-some_plan : goal.overlap-requires-clause-some_plan
overlap-requires-clause-some_plan c = search (rules, plan_there)

pub returns-in-None : goal.returns-in-None
returns-in-None c = search (rules, plan_walked)

pub returns-in-Some : goal.returns-in-Some
returns-in-Some c = search (rules, plan_18)
