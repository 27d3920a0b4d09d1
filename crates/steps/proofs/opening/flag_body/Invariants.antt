-- Flagged the literals from number i on, the flags are those of the whole body.
use Rattle.reading.specs.Listed.{listed}
use Rattle.steps.specs.Flags.{flagged}
use Rattle.steps.proofs.FlagLaws.{FlagsAhead}
use Rattle.steps.proofs.opening.flag_body.Given as goal

abbrev pub invariant-loop-l : goal.invariant-loop-l
invariant-loop-l l = FlagsAhead l.marks l.l-items (flagged l.marks (listed l.s l.p) l.initial.flags) l.flags l.l-index
