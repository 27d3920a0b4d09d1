-- The goals, then the whether list: the first fault is the request's, and where they stand is noted between.
use borrow.Author.Rules.{rules}
use Rattle.reading.proofs.RequestLaws.{goals_passed, goals_fault}
use Rattle.reading.proofs.requests.goals_at.Goals as goal

pub returns-in_err-whether : goal.returns-in_err-whether
returns-in_err-whether g c = search (rules, goals_fault)

pub returns : goal.returns
returns g c = goals_passed _ _ _ _ _ _ _ _ c.literals_at.ensures _ _ _ c.in_ok-whether.was c.put_places.ensures c.list_at.ensures
