-- What the entries that are left tell, with what those before told, is what all of them tell.
use mathlib.Core.Path.{◌≡◌}
use lib.ListN.{drop}
use Rattle.reading.specs.Listed.{listed, look_at}
use Rattle.reading.proofs.MarkLaws.{look_on}
use Rattle.reading.proofs.marks.look_at.Given as goal

abbrev pub invariant-loop-literal : goal.invariant-loop-literal
invariant-loop-literal l = look_at l.marks (listed l.s l.p) ≡ look_on l.sure l.marks (drop l.literal-index l.literal-items)
