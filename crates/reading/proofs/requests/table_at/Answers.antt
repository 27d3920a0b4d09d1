-- The fluents' count, with values how many each fluent has, the actions' count, the initial facts and sections 3 to 5; the first fault is the table's.
use Rattle.std.proofs.lemmas.Result.{err_from_is_err_and}
use Rattle.reading.proofs.RequestLaws.{count_most, values_counted, facts_fault, facts_passed, actions_fault, actions_there, fluents_there, values_fault, fluents_fault}
use Rattle.reading.proofs.requests.table_at.Goals as goal

pub returns-in_err-n : goal.returns-in_err-n
returns-in_err-n g c =
    let told = err_from_is_err_and c.from_residual.result c.from_residual.ensures.1 in
    rw (told.1, told.2) (fluents_fault _ _ _ _ _ c.count_at.ensures _ _ c.in_err-n.was)

pub returns-in_err-actions : goal.returns-in_err-actions
returns-in_err-actions g c =
    let told = err_from_is_err_and c.from_residual-in_err-actions.result c.from_residual-in_err-actions.ensures.1 in
    rw (told.1, told.2) (values_fault _ _ _ _ _ c.count_at.ensures _ _ c.in_ok-n.was _ c.values_at.ensures _ _ c.in_err-actions.was)

pub returns-in_err-m : goal.returns-in_err-m
returns-in_err-m g c =
    let told = err_from_is_err_and c.from_residual-in_err-m.result c.from_residual-in_err-m.ensures.1 in
    rw (told.1, told.2)
    (fluents_there _ _ _ _ _ c.count_at.ensures _ _ c.in_ok-n.was _ c.values_at.ensures _ _ _ c.in_ok-actions.was (actions_fault _ _ _ _ _ _ c.count_at-2.ensures _ _ c.in_err-m.was))

pub new-input-requires-clause-n_le_fluents : goal.new-input-requires-clause-n_le_fluents
new-input-requires-clause-n_le_fluents g c = count_most _ _ _ _ c.count_at.ensures _ _ c.in_ok-n.was

pub new-input-requires-clause-counted : goal.new-input-requires-clause-counted
new-input-requires-clause-counted g c = values_counted _ _ _ c.args.t.now _ c.count_at.ensures _ _ c.in_ok-n.was _ c.values_at.ensures _ c.requires.starts c.in_ok-actions.was

pub returns-in_err-effects : goal.returns-in_err-effects
returns-in_err-effects g c =
    let of = c.new-input.ensures in
    let facts = rw (of.bytes, of.fluents) at c.literals_at.ensures in
    let told = err_from_is_err_and c.from_residual-in_err-effects.result c.from_residual-in_err-effects.ensures.1 in
    rw (told.1, told.2)
    (fluents_there _ _ _ _ _ c.count_at.ensures _ _ c.in_ok-n.was _ c.values_at.ensures _ _ _ c.in_ok-actions.was
    (actions_there _ _ _ _ _ _ c.count_at-2.ensures _ _ _ _ c.in_ok-m.was (facts_fault _ _ _ _ _ _ _ facts _ _ c.in_err-effects.was)))

pub three_sections-requires-clause-m_le_actions : goal.three_sections-requires-clause-m_le_actions
three_sections-requires-clause-m_le_actions g c = rw c.new-input.ensures.actions (count_most _ _ _ _ c.count_at-2.ensures _ _ c.in_ok-m.was)

pub three_sections-requires-clause-s_len_bound : goal.three_sections-requires-clause-s_len_bound
three_sections-requires-clause-s_len_bound g c = rw c.new-input.ensures.bytes c.requires.s_len_bound

pub returns : goal.returns
returns g c =
    let of = c.new-input.ensures in
    let facts = rw (of.bytes, of.fluents) at c.literals_at.ensures in
    let read = rw (of.bytes, of.fluents, of.actions) at c.three_sections.ensures in
    fluents_there _ _ _ _ _ c.count_at.ensures _ _ c.in_ok-n.was _ c.values_at.ensures _ _ _ c.in_ok-actions.was
    (actions_there _ _ _ _ _ _ c.count_at-2.ensures _ _ _ _ c.in_ok-m.was (facts_passed _ _ _ _ _ _ _ facts _ _ _ c.in_ok-effects.was read))
