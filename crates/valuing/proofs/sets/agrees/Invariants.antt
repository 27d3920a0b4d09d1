-- Each literal so far leaves its fluent a value; one that leaves none at some literal leaves none at the end.
use Prim.Native.Nat.{◌+◌}
use lib.ListN.{get_or}
use Rattle.reading.specs.Listed.{twos_from}
use Rattle.valuing.proofs.PairsLaws.{PairsLeft, twos_of}
use Rattle.valuing.proofs.LeftLaws.{AgreeAhead}
use Rattle.valuing.proofs.sets.agrees.Given as goal

abbrev pub invariant-loop-pair : goal.invariant-loop-pair
invariant-loop-pair l =
    record {
      pairs : PairsLeft l.s l.q l.pair-iterator.rest.now l.pair-iterator.size;
      agree : AgreeAhead l.s l.allowed (twos_from l.s (l.q + 1) (get_or l.s l.q 0)) l.both (twos_of l.pair-iterator.rest.now);
    }
