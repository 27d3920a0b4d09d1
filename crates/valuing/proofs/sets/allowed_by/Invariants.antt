-- The sets are what the literals so far leave, and those with the literals that are left say what all of them say.
use Prim.Native.Nat.{◌+◌}
use lib.ListN.{get_or, replicate}
use Rattle.meaning.specs.Limits.{format}
use Rattle.parsing.specs.Masks.{every_value}
use Rattle.reading.specs.Listed.{twos_from}
use Rattle.valuing.proofs.PairsLaws.{PairsLeft, twos_of}
use Rattle.valuing.proofs.LeftLaws.{NarrowAhead}
use Rattle.valuing.proofs.sets.allowed_by.Given as goal

abbrev pub invariant-loop-pair : goal.invariant-loop-pair
invariant-loop-pair l =
    record {
      pairs : PairsLeft l.s l.p l.pair-iterator.rest.now l.pair-iterator.size;
      narrow : NarrowAhead l.s (replicate format.fluents every_value) (twos_from l.s (l.p + 1) (get_or l.s l.p 0)) l.allowed (twos_of l.pair-iterator.rest.now);
    }
