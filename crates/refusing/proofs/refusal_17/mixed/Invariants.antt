-- At each turn no knowledge line before is of an action with effects.
use Rattle.refusing.proofs.Laws17.{Looked}
use Rattle.refusing.proofs.refusal_17.mixed.Given as goal

abbrev pub invariant-loop-k : goal.invariant-loop-k
invariant-loop-k l = Looked l.s l.t l.start l.count l.k
