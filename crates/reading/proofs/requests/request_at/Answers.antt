-- The plan, then sections 7 and 8: the first fault is the request's.
use borrow.Author.Rules.{rules}
use Rattle.reading.proofs.RequestLaws.{plan_place_fits, plan_items_fit, plan_end_fits, plan_there, plan_fault}
use Rattle.reading.proofs.requests.request_at.Goals as goal

pub returns-in_err-items : goal.returns-in_err-items
returns-in_err-items g c = search (rules, plan_fault)

pub goals_at-requires-clause-plan_bound : goal.goals_at-requires-clause-plan_bound
goals_at-requires-clause-plan_bound g c = search (rules, plan_place_fits)

pub goals_at-requires-clause-bound : goal.goals_at-requires-clause-bound
goals_at-requires-clause-bound g c = search (rules, plan_items_fit)

pub goals_at-requires-clause-p_bound : goal.goals_at-requires-clause-p_bound
goals_at-requires-clause-p_bound g c = search (rules, plan_end_fits)

pub returns : goal.returns
returns g c =
    let of = c.new-input.ensures in
    let read = rw (of.bytes, of.fluents) at c.goals_at.ensures in
    plan_there _ _ _ _ _ _ _ _ c.plan_at.ensures _ _ c.in_ok-items.was _ _ read
