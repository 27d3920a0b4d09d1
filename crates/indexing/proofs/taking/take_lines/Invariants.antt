-- At each turn the offsets that are left give what all of them give, and line n stands with those before it in the notes.
use Prim.Native.Nat.{◌+◌}
use Rattle.meaning.specs.Indexes.{counted_at, after_counted}
use Rattle.reading.specs.Noted.{line_numbers}
use Rattle.indexing.specs.IndexNotes.{lines_taken}
use Rattle.indexing.proofs.TakeLaws.{Taking}
use Rattle.indexing.proofs.taking.take_lines.Given as goal

abbrev pub invariant-loop : goal.invariant-loop
invariant-loop l = Taking l.index l.lines (lines_taken l.lines (line_numbers + l.a) l.k (counted_at l.index l.q) l.initial.t) (after_counted l.index l.q) l.t l.count l.counter l.p l.i l.n
