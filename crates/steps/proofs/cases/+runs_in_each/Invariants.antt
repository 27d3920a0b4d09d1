-- At each call a fluent less is left, so the calls end.
use Rattle.steps.proofs.CaseLaws.{fluents_left}
use Rattle.steps.proofs.cases.+runs_in_each.Given as goal

abbrev pub decreases-runs_in_each : goal.decreases-runs_in_each
decreases-runs_in_each l = fluents_left l.i
