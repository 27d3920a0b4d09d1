-- The marks below f are those of the first state, by the sets that the facts leave.
use Prim.Native.Nat.{◌+◌}
use lib.ListN.{get_or}
use Rattle.reading.specs.Listed.{twos_from}
use Rattle.valuing.proofs.FirstMarks.{MarksAhead}
use Rattle.valuing.proofs.states.first_state.Given as goal

abbrev pub invariant-loop-f : goal.invariant-loop-f
invariant-loop-f l = MarksAhead l.s (twos_from l.s (l.p + 1) (get_or l.s l.p 0)) l.mark-items l.f
