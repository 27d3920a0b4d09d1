-- Where sections 1 to 5 were read from p on, the two counts stand in their places, so there are bytes to read there and they are the table's own; what sections 6 to 8 note over them is what is noted of the request. A fault in sections 1 to 5 is the request's.
use borrow.Author.Rules.{rules}
use Rattle.reader.proofs.WholeLaws.{first_there, place_small, fluents_small, second_there, fluents_most, sections_counted, sections_there, sections_fault}
use Rattle.reader.proofs.whole.sections_as.Goals as goal

pub returns-in_err-plan : goal.returns-in_err-plan
returns-in_err-plan g c = search (rules, sections_fault)

pub bounds-s-p : goal.bounds-s-p
bounds-s-p g c = first_there _ _ _ c.args.t.now _ _ c.table_at.ensures _ c.in_ok-plan.was

pub actions_place-requires-clause-p_bound : goal.actions_place-requires-clause-p_bound
actions_place-requires-clause-p_bound g c = place_small _ _ _ c.args.t.now _ _ c.table_at.ensures _ c.in_ok-plan.was c.requires.s_len_bound

pub actions_place-requires-clause-n_bound : goal.actions_place-requires-clause-n_bound
actions_place-requires-clause-n_bound g c = fluents_small _ _ _ c.args.t.now _ _ c.table_at.ensures _ c.in_ok-plan.was _ c.from-n.ensures

pub bounds-s-actions_place : goal.bounds-s-actions_place
bounds-s-actions_place g c = second_there _ _ _ c.args.t.now _ _ c.table_at.ensures _ c.in_ok-plan.was _ _ c.from-n.ensures c.actions_place.ensures

pub request_at-requires-clause-counted : goal.request_at-requires-clause-counted
request_at-requires-clause-counted g c = sections_counted _ _ _ c.args.t.now _ _ c.table_at.ensures _ c.in_ok-plan.was c.requires.starts

pub request_at-requires-clause-n_le_fluents : goal.request_at-requires-clause-n_le_fluents
request_at-requires-clause-n_le_fluents g c = fluents_most _ _ _ c.args.t.now _ _ c.table_at.ensures _ c.in_ok-plan.was _ c.from-n.ensures

pub returns : goal.returns
returns g c = sections_there _ _ _ _ _ _ c.table_at.ensures _ c.in_ok-plan.was _ _ _ _ _ c.from-n.ensures c.actions_place.ensures c.from-m.ensures c.request_at.ensures
