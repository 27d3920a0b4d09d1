-- The fluents below f that have a flag are held, and those from f up are to come; f rises to the limit.
use Rattle.steps.proofs.OpenedLaws.{Gathering}
use Rattle.steps.proofs.opening.gathered.Given as goal

abbrev pub invariant-loop-f : goal.invariant-loop-f
invariant-loop-f l = Gathering l.flags l.held l.k l.f
