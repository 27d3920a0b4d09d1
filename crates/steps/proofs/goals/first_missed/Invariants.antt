-- From each entry that is met on, the list misses what the whole list does.
use Prim.Native.Nat.{◌+◌}
use Rattle.meaning.specs.Reading.{placed}
use Rattle.meaning.specs.Walk.{first_missed}
use Rattle.finding.specs.Places.{found}
use Rattle.reading.specs.Listed.{listed}
use Rattle.steps.specs.Steps.{met_as}
use Rattle.steps.proofs.MissLaws.{MissedAhead}
use Rattle.steps.proofs.goals.first_missed.Given as goal

abbrev pub invariant-loop-i : goal.invariant-loop-i
invariant-loop-i l = MissedAhead (met_as l.asked l.marks) l.s l.p l.i-end (found (first_missed (met_as l.asked l.marks) (placed (l.p + 1) (listed l.s l.p)))) l.i
