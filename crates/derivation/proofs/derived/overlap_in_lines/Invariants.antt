-- Whatever lines stand where the places say, the first overlap in all of them is the first in those from line k on: those before line k have
-- none.
use Rattle.derivation.proofs.DerivedLaws.{Sought}
use Rattle.derivation.proofs.derived.overlap_in_lines.Given as goal

abbrev pub invariant-loop-k : goal.invariant-loop-k
invariant-loop-k l = Sought l.n l.m l.s l.places l.count l.k
