-- Told the entries that are left, the marks are those of the whole list.
use mathlib.Core.Path.{◌≡◌}
use lib.ListN.{drop}
use Rattle.meaning.specs.Limits.{format}
use Rattle.meaning.specs.States.{told_all, state_of}
use Rattle.reading.specs.Listed.{listed}
use Rattle.reading.proofs.marks.state_of.Given as goal

abbrev pub invariant-loop-l : goal.invariant-loop-l
invariant-loop-l l = state_of format (listed l.s l.p) ≡ told_all (drop l.l-index l.l-items) l.marks
