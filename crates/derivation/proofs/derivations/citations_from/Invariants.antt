-- At each turn what the whole list of citations gives is what those left give.
use Prim.Native.Nat.{◌-◌}
use mathlib.Core.Path.{◌≡◌}
use Rattle.meaning.specs.Reading.{repeated, two_bytes_at}
use Rattle.parsing.specs.Read.{passed}
use Rattle.derivation.proofs.derivations.citations_from.Given as goal

abbrev pub invariant-loop : goal.invariant-loop
invariant-loop l = passed (repeated (two_bytes_at l.s) l.count l.start) ≡ passed (repeated (two_bytes_at l.s) (l.count - l.counter) l.p)
