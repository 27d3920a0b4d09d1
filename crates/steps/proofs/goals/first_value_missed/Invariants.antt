-- Each literal that is known true leaves the first miss among those behind it.
use Rattle.meaning.specs.Reading.{literals_in}
use Rattle.meaning.specs.ValueStates.{known}
use Rattle.steps.proofs.MissLaws.{ValuesAhead}
use Rattle.steps.proofs.goals.first_value_missed.Given as goal

abbrev pub invariant-loop-k : goal.invariant-loop-k
invariant-loop-k l = ValuesAhead (known (literals_in l.s) l.marks) l.s l.p l.k-end l.k
