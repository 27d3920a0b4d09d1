-- What the literals from number k on tell, with what those before told, is what all of them tell.
use Prim.Native.Nat.{◌+◌, ◌-◌, ◌*◌}
use mathlib.Core.Path.{◌≡◌}
use lib.ListN.{get_or}
use Rattle.reading.specs.Listed.{twos_from}
use Rattle.valuing.specs.Valuing.{look_values}
use Rattle.valuing.proofs.ValuedMarks.{look_on}
use Rattle.valuing.proofs.states.look_at.Given as goal

abbrev pub invariant-loop-k : goal.invariant-loop-k
invariant-loop-k l = look_values l.s l.marks (twos_from l.s (l.p + 1) (get_or l.s l.p 0)) ≡ look_on l.sure l.s l.marks (twos_from l.s (l.p + 1 + 2 * l.k) (get_or l.s l.p 0 - l.k))
