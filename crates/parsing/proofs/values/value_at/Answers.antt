-- The fluent, and then the second byte below twice the number of its values.
use borrow.Author.Rules.{rules}
use Rattle.parsing.proofs.ValueReaderLaws.{value_fluent_fault, value_fluent_near, value_second_fault, value_whole, value_high_fits, value_fits}
use Rattle.parsing.proofs.values.value_at.Goals as goal

pub returns-in_err-f : goal.returns-in_err-f
returns-in_err-f c = search (rules, value_fluent_fault)

pub values_in-values-requires : goal.values_in-values-requires
values_in-values-requires c = search (rules, value_fluent_near)

pub returns-in_err-said : goal.returns-in_err-said
returns-in_err-said c = search (rules, value_second_fault)

pub overflow_mul-result : goal.overflow_mul-result
overflow_mul-result c = search (rules, value_high_fits)

pub overflow_add-result : goal.overflow_add-result
overflow_add-result c = search (rules, value_fits)

pub returns : goal.returns
returns c = search (rules, value_whole)
