-- At each turn what all lines give is what the lines left give, and the places noted are those of the lines read and of the ends of their plans.
use Prim.Native.Nat.{◌-◌}
use mathlib.Core.Path.{◌≡◌}
use Rattle.meaning.specs.Limits.{format}
use Rattle.meaning.specs.Reading.{repeated}
use Rattle.meaning.specs.Derivations.{line_at}
use Rattle.reading.specs.Noted.{noting}
use Rattle.derivation.specs.DerivationRead.{places_noted}
use Rattle.derivation.proofs.derivations.lines_from.Given as goal

abbrev pub invariant-loop-k : goal.invariant-loop-k
invariant-loop-k l = noting (places_noted 0) (repeated (line_at format l.n l.m l.s l.layout) l.count l.start) l.initial.places ≡ noting (places_noted l.k) (repeated (line_at format l.n l.m l.s l.layout) (l.count - l.k) l.p) l.places
