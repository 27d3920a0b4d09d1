-- The fillings of the fluents from number i up are those with fluent i true and then those with it false.
use Rattle.std.proofs.Common.{rules}
use Rattle.steps.proofs.CaseLaws.{left_falls, fluent_held, first_filling, second_filling, runs_both, runs_not, runs_last}
use Rattle.steps.proofs.cases.+runs_in_each.Goals as goal

pub bounds-state-f : goal.bounds-state-f
bounds-state-f t c = search fluent_held

pub runs_in_each-requires : goal.runs_in_each-requires
runs_in_each-requires t c = (search left_falls, (search rules, first_filling _ _ _ c.requires.filling _ c.wide.ensures c.if-i-wide.true _ c.wide-f.ensures))

pub bounds-state-f-then-i-wide : goal.bounds-state-f-then-i-wide
bounds-state-f-then-i-wide t c = search fluent_held

pub runs_in_each-requires-then-i-wide : goal.runs_in_each-requires-then-i-wide
runs_in_each-requires-then-i-wide t c = (search left_falls, (search rules, second_filling _ _ _ c.requires.filling _ c.wide.ensures c.if-i-wide.true _ c.wide-f.ensures))

pub returns-then-not-runs_in_each : goal.returns-then-not-runs_in_each
returns-then-not-runs_in_each t c = search runs_not

pub returns-then-i-wide : goal.returns-then-i-wide
returns-then-i-wide t c = search runs_both

pub returns : goal.returns
returns t c = search runs_last
