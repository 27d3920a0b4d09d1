-- The open fluents are at most as many as the limit, so they are those that are held, and to fill these is enough.
use Rattle.steps.proofs.TriedLaws.{cases_filling, cases_can, cases_after}
use Rattle.steps.proofs.cases.after_cases.Goals as goal

pub after_in_each-requires-clause-filling : goal.after_in_each-requires-clause-filling
after_in_each-requires-clause-filling c = search cases_filling

pub after_in_each-requires-clause-marks_value : goal.after_in_each-requires-clause-marks_value
after_in_each-requires-clause-marks_value c = search cases_can

pub returns : goal.returns
returns c = search cases_after
