-- What is left of the plan is shorter at each call; the readings of an action are taken fluent by fluent.
use Rattle.schemes.proofs.SchemeFalls.{item_measure, from_measure, readings_measure}
use Rattle.schemes.proofs.scheme.+put_acting_put_branching_put_from_put_readings_put_sensing.Given as goal

abbrev pub decreases-put_acting : goal.decreases-put_acting
decreases-put_acting l = item_measure l.i

abbrev pub decreases-put_branching : goal.decreases-put_branching
decreases-put_branching l = item_measure l.i

abbrev pub decreases-put_from : goal.decreases-put_from
decreases-put_from l = from_measure l.at

abbrev pub decreases-put_readings : goal.decreases-put_readings
decreases-put_readings l = readings_measure l.at l.f

abbrev pub decreases-put_sensing : goal.decreases-put_sensing
decreases-put_sensing l = item_measure l.i
