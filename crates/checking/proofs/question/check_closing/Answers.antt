-- The whether entries stand after the goals, and the closing list where its slot says: a number for the goals, then one for each entry.
use Rattle.steps.proofs.HandLaws.{goals_here, whether_here}
use Rattle.checking.proofs.ClosingLaws.{list_there, sum_fits, closing_lines, closing_there, closing_fits, goals_number, fluents_fit, fluents_numbers, closing_not_due, goals_wrong, goals_right}
use borrow.Author.Rules.{rules}
use Rattle.checking.proofs.question.check_closing.Goals as goal

pub sequence_of-whether-requires : goal.sequence_of-whether-requires
sequence_of-whether-requires c = search goals_here

pub bounds-r-whether : goal.bounds-r-whether
bounds-r-whether c = search (list_there, whether_here)

pub overflow_add-due : goal.overflow_add-due
overflow_add-due c = search (rules, sum_fits)

pub bounds-d-closing : goal.bounds-d-closing
bounds-d-closing c = search closing_there

pub returns-then-count-due : goal.returns-then-count-due
returns-then-count-due c = search closing_not_due

pub overflow_add-first : goal.overflow_add-first
overflow_add-first c = search closing_fits

pub names-requires-clause-some_lines : goal.names-requires-clause-some_lines
names-requires-clause-some_lines c = search closing_lines

pub names-requires-clause-at_in_bounds : goal.names-requires-clause-at_in_bounds
names-requires-clause-at_in_bounds c = goals_number _ _ _ _ c.place_of-closing.ensures c.requires _ c.wide-count.ensures _ c.if-count-due.false

pub overflow_add-closing : goal.overflow_add-closing
overflow_add-closing c = search fluents_fit

pub check_fluents-requires-clause-some_lines : goal.check_fluents-requires-clause-some_lines
check_fluents-requires-clause-some_lines c = search closing_lines

pub check_fluents-requires-clause-list_here : goal.check_fluents-requires-clause-list_here
check_fluents-requires-clause-list_here c = search whether_here

pub check_fluents-requires-clause-whether_in_bounds : goal.check_fluents-requires-clause-whether_in_bounds
check_fluents-requires-clause-whether_in_bounds c = fluents_numbers _ _ _ _ c.place_of-closing.ensures c.requires _ c.wide-count.ensures _ c.if-count-due.false _ c.wide-due.ensures

pub returns-then-not-names : goal.returns-then-not-names
returns-then-not-names c = search goals_wrong

pub returns : goal.returns
returns c = search goals_right
