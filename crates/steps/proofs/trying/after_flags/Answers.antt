-- By the mode, the state after it is found in one of two ways.
use Rattle.steps.proofs.TriedLaws.{plain_can, plain_after_in, cases_few, cases_run, cases_after_in}
use Rattle.steps.proofs.trying.after_flags.Goals as goal

pub state_after-requires-clause-marks_value : goal.state_after-requires-clause-marks_value
state_after-requires-clause-marks_value c = search plain_can

pub returns-in-ByKnown : goal.returns-in-ByKnown
returns-in-ByKnown c = search plain_after_in

pub after_cases-requires-clause-marks_value : goal.after_cases-requires-clause-marks_value
after_cases-requires-clause-marks_value c = search cases_few

pub after_cases-requires-clause-marks_value_2 : goal.after_cases-requires-clause-marks_value_2
after_cases-requires-clause-marks_value_2 c = search cases_run

pub returns-in_default : goal.returns-in_default
returns-in_default c = search cases_after_in
