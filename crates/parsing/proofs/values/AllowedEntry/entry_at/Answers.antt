-- A literal is missing or too large, not above the one before, beside literals that leave no value with it, or good: one law for each, in that order.
use Rattle.std.proofs.lemmas.Result.{err_from_is_err_and}
use Rattle.parsing.proofs.ValueReaderLaws.{value_near, value_second, value_fluent, few_enough, value_entry_fault, value_entry_low, value_entry_none, value_entry_good}
use Rattle.parsing.proofs.values.AllowedEntry.entry_at.Goals as goal

pub returns-in_err-x : goal.returns-in_err-x
returns-in_err-x c =
    let told = err_from_is_err_and c.from_residual.result c.from_residual.ensures.1 in
    λ first. rw (told.1, told.2) (value_entry_fault _ _ _ _ _ _ _ c.in_err-x.ensures)

pub returns-then-x-floor : goal.returns-then-x-floor
returns-then-x-floor c = λ first. value_entry_low _ _ _ _ _ _ _ _ c.in_ok-x.ensures _ c.if-x-floor.true c.at.ensures

pub narrow-requires-clause-l_bound : goal.narrow-requires-clause-l_bound
narrow-requires-clause-l_bound c = value_near _ _ _ _ _ c.requires.n_le_fluents c.requires.asked c.in_ok-x.ensures

pub narrow-requires-clause-l_bound_2 : goal.narrow-requires-clause-l_bound_2
narrow-requires-clause-l_bound_2 c = value_second _ _ _ _ _ c.requires.n_le_fluents c.requires.asked c.in_ok-x.ensures

pub bounds-self-f : goal.bounds-self-f
bounds-self-f c = value_fluent _ _ _ _ _ c.requires.n_le_fluents c.requires.asked c.in_ok-x.ensures

pub values_in-requires : goal.values_in-requires
values_in-requires c = value_fluent _ _ _ _ _ c.requires.n_le_fluents c.requires.asked c.in_ok-x.ensures

pub some_left-requires : goal.some_left-requires
some_left-requires c = few_enough _ _ _ c.requires.asked c.values_in.ensures.value

pub returns-then-not-some_left : goal.returns-then-not-some_left
returns-then-not-some_left c =
    λ first.
    value_entry_none _ _ _ _ _ _ _ _ c.in_ok-x.ensures c.requires.n_le_fluents c.requires.asked c.narrow.ensures _ c.values_in.ensures.value _ c.some_left.ensures c.if-x-floor.false _ c.if-not-some_left.true
    c.at-then-not-some_left.ensures

pub returns : goal.returns
returns c =
    λ first.
    value_entry_good _ _ _ _ _ _ _ _ c.in_ok-x.ensures c.requires.n_le_fluents c.requires.asked c.narrow.ensures _ c.values_in.ensures.value _ c.some_left.ensures c.if-x-floor.false c.if-not-some_left.false
