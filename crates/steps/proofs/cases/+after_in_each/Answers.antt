-- What the states after the action share is what two states share: those that the calls give with fluent i true and with it false.
use Rattle.std.proofs.Common.{rules}
use Rattle.steps.proofs.CaseLaws.{left_falls, fluent_held, first_filling, second_filling, first_can, second_can, one_marked, other_marked, after_both, last_can, after_last}
use Rattle.steps.proofs.cases.+after_in_each.Goals as goal

pub bounds-state-f : goal.bounds-state-f
bounds-state-f t c = search fluent_held

pub after_in_each-one-requires : goal.after_in_each-one-requires
after_in_each-one-requires t c = (search left_falls, (search rules, (first_filling _ _ _ c.requires.filling _ c.wide.ensures c.if-i-wide.true _ c.wide-f.ensures, first_can _ _ _ c.requires.filling _ c.wide.ensures c.if-i-wide.true _ c.wide-f.ensures _ _ c.requires.marks_value)))

pub bounds-state-f-then-i-wide : goal.bounds-state-f-then-i-wide
bounds-state-f-then-i-wide t c = search fluent_held

pub after_in_each-other-requires : goal.after_in_each-other-requires
after_in_each-other-requires t c = (search left_falls, (search rules, (second_filling _ _ _ c.requires.filling _ c.wide.ensures c.if-i-wide.true _ c.wide-f.ensures, second_can _ _ _ c.requires.filling _ c.wide.ensures c.if-i-wide.true _ c.wide-f.ensures _ _ c.requires.marks_value)))

pub shared-requires-clause-marked : goal.shared-requires-clause-marked
shared-requires-clause-marked t c = one_marked _ _ _ c.requires.filling _ c.wide.ensures c.if-i-wide.true _ c.wide-f.ensures _ _ _ _ c.after_in_each-one.ensures

pub shared-requires-clause-marked_2 : goal.shared-requires-clause-marked_2
shared-requires-clause-marked_2 t c = other_marked _ _ _ c.requires.filling _ c.wide.ensures c.if-i-wide.true _ c.wide-f.ensures _ _ _ _ c.after_in_each-other.ensures

pub returns-then-i-wide : goal.returns-then-i-wide
returns-then-i-wide t c = after_both _ _ _ c.requires.filling _ c.wide.ensures c.if-i-wide.true _ c.wide-f.ensures _ _ _ _ c.after_in_each-one.ensures c.after_in_each-other.ensures _ c.shared.ensures

pub state_after-requires-clause-marks_value : goal.state_after-requires-clause-marks_value
state_after-requires-clause-marks_value t c = last_can _ _ _ c.requires.filling _ c.wide.ensures c.if-i-wide.false _ _ c.requires.marks_value

pub returns : goal.returns
returns t c = search after_last
