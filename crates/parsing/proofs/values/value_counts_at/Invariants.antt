-- At each turn what the whole gives is what the bytes left give.
use Prim.Native.Nat.{◌-◌}
use mathlib.Core.Path.{◌≡◌}
use Rattle.meaning.specs.Reading.{value_counts_at}
use Rattle.parsing.specs.Read.{passed}
use Rattle.parsing.proofs.values.value_counts_at.Given as goal

abbrev pub invariant-loop : goal.invariant-loop
invariant-loop l = passed (value_counts_at l.count l.s l.start) ≡ passed (value_counts_at (l.count - l.counter) l.s l.p)
