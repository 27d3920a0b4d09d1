-- What is left of the values from v up, with what was found below, is what is left of all.
use Rattle.valuing.proofs.FirstMarks.{LeftAhead}
use Rattle.valuing.proofs.states.mark_left.Given as goal

abbrev pub invariant-loop-v : goal.invariant-loop-v
invariant-loop-v l = LeftAhead l.m l.values l.mark l.v
