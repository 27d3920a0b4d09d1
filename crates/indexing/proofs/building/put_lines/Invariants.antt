-- A turn puts the offset of the first of the action's lines that are left; what is left then makes of the room what the whole makes of it, and line numbers rise in
-- file order. At the end their count goes before them.
use Rattle.finding.proofs.AheadLaws.{to_go}
use Rattle.indexing.specs.IndexNotes.{places_noted}
use Rattle.indexing.proofs.BuildLaws.{Putting}
use Rattle.indexing.proofs.building.put_lines.Given as goal

abbrev pub invariant-loop-k : goal.invariant-loop-k
invariant-loop-k l = Putting l.t l.initial.room l.lines l.q (places_noted l.t l.lines l.a) l.room l.count l.p l.k

abbrev pub decreases-loop-k : goal.decreases-loop-k
decreases-loop-k l = to_go l.k
