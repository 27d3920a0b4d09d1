-- A turn that finds nothing leaves the first one where it was, and from the end that the notes have no fluent is sensed.
use Rattle.steps.proofs.LookAs.{Sought}
use Rattle.steps.proofs.sensing.next_unknown.Given as goal

abbrev pub invariant-loop-f : goal.invariant-loop-f
invariant-loop-f g l = Sought l.r.bytes.now l.r.notes.now l.a l.marks l.from l.f
