-- The facts of values stand behind the numbers of values, and what they leave is the first state.
use Rattle.steps.proofs.FormSteps.{hand_values}
use Rattle.verdicts.proofs.WalkedLaws.{byte_there, facts_fit, facts_there, valued_first}
use Rattle.verdicts.proofs.walked.OfValuesWalked.first_state.Goals as goal

pub bounds-r-0 : goal.bounds-r-0
bounds-r-0 c = search byte_there

pub overflow_add-wide : goal.overflow_add-wide
overflow_add-wide c = search facts_fit

pub first_state-requires-clause-values_here : goal.first_state-requires-clause-values_here
first_state-requires-clause-values_here c = search facts_there

pub first_state-requires-clause-few_values : goal.first_state-requires-clause-few_values
first_state-requires-clause-few_values c = search hand_values

pub returns : goal.returns
returns c = search valued_first
