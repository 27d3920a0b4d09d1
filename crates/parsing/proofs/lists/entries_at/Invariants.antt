-- At each turn what the whole list gives is what the entries left give, after those so far.
use Prim.Native.Nat.{◌-◌}
use mathlib.Core.List.{[]}
use Rattle.parsing.specs.Read.{passed}
use Rattle.parsing.proofs.ListLaws.{Ahead}
use Rattle.parsing.proofs.lists.entries_at.Given as goal

abbrev pub invariant-loop : goal.invariant-loop
invariant-loop g l = Ahead (g.E.Entry.entries l.fn.first l.n l.s) (g.E.Entry.kept l.fn.first l.kept l.s) (passed (g.E.Entry.entries l.fn.first l.n l.s l.count l.start [])) (l.count - l.counter) l.p l.floor
