-- What the literals that are left say is what all of them say.
use Prim.Native.Nat.{◌+◌}
use mathlib.Core.Path.{◌≡◌}
use lib.ListN.{get_or}
use Rattle.meaning.specs.Tests.{each_of}
use Rattle.meaning.specs.ValueStates.{known}
use Rattle.meaning.specs.Reading.{literals_in}
use Rattle.reading.specs.Listed.{twos_from}
use Rattle.valuing.proofs.PairsLaws.{PairsLeft, twos_of}
use Rattle.valuing.proofs.states.each_known.Given as goal

abbrev pub invariant-loop-pair : goal.invariant-loop-pair
invariant-loop-pair l =
    record {
      pairs : PairsLeft l.s l.p l.pair-iterator.rest.now l.pair-iterator.size;
      same : each_of (known (literals_in l.s) l.marks) (twos_from l.s (l.p + 1) (get_or l.s l.p 0)) ≡ each_of (known (literals_in l.s) l.marks) (twos_of l.pair-iterator.rest.now);
    }
