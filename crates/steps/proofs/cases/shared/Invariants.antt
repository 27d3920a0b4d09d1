-- Up to fluent f the marks are shared ones, from there on those of the one state. A turn leaves a mark that both states have, and forgets one that they have not.
use Rattle.steps.proofs.CaseLaws.{Sharing}
use Rattle.steps.proofs.cases.shared.Given as goal

abbrev pub invariant-loop-f : goal.invariant-loop-f
invariant-loop-f l = Sharing l.one l.other l.both l.f
