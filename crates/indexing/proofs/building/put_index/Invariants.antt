-- A turn puts an action's part of the index behind those of the actions before it.
use Rattle.indexing.proofs.BuildLaws.{Building}
use Rattle.indexing.proofs.building.put_index.Given as goal

abbrev pub invariant-loop-a : goal.invariant-loop-a
invariant-loop-a l = Building l.s l.t l.initial.room l.room l.actions l.q l.a
