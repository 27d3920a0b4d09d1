-- The walk goes on through the items, a branching goes into one of its branches, and a fork reads one value after another of each fluent: each call
-- is below its caller by where it is in the plan, and by the fluent that it reads.
use Rattle.std.proofs.Common.{◌-◌, get_or}
use Rattle.meaning.specs.Limits.{format}
use Rattle.steps.specs.Steps.{values_as}
use Rattle.walking.specs.Standing.{standing}
use Rattle.walking.specs.Walks.{add_higher}
use Rattle.walking.proofs.FallLaws.{walk_measure, branching_measure, fork_measure, higher_measure}
use Rattle.walking.proofs.WalkArms.{Walking}
use Rattle.walking.proofs.ForkLaws.{Forking}
use Rattle.walking.proofs.walk.+fork_higher_values_walk_walk_branching.Given as goal

abbrev pub decreases-fork : goal.decreases-fork
decreases-fork g l = fork_measure l.i l.f

abbrev pub decreases-higher_values : goal.decreases-higher_values
decreases-higher_values g l = higher_measure l.i l.f

abbrev pub decreases-walk : goal.decreases-walk
decreases-walk g l = walk_measure l.at

abbrev pub decreases-walk_branching : goal.decreases-walk_branching
decreases-walk_branching g l = branching_measure l.i

abbrev pub invariant-higher_values-loop-state : goal.invariant-higher_values-loop-state
invariant-higher_values-loop-state g l = Forking g.S.Shape.FORM l.r.bytes.now l.r.notes.now l.i l.f l.initial.state (add_higher g.S.Shape.FORM l.r.bytes.now l.r.notes.now l.i l.f l.initial.state (standing l.initial.tally)) l.tally l.state

abbrev pub decreases-higher_values-loop-state : goal.decreases-higher_values-loop-state
decreases-higher_values-loop-state g l = values_as g.S.Shape.FORM l.r.bytes.now l.f - get_or l.state l.f 0

abbrev pub invariant-walk-loop-i : goal.invariant-walk-loop-i
invariant-walk-loop-i g l = Walking g.S.Shape.FORM l.r.bytes.now l.r.notes.now l.at l.initial.state l.initial.tally l.tally l.i l.state

abbrev pub decreases-walk-loop-i : goal.decreases-walk-loop-i
decreases-walk-loop-i g l = format.items - l.i
