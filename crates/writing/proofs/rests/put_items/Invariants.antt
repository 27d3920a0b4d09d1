-- A turn copies one item from where it stands; what is left from the position after it makes of the room what the whole makes of it.
use Prim.Native.Nat.{◌-◌}
use Rattle.meaning.specs.Limits.{format}
use Rattle.writing.proofs.RestPutLaws.{ItemsPut}
use Rattle.writing.proofs.rests.put_items.Given as goal

abbrev pub invariant-loop-i : goal.invariant-loop-i
invariant-loop-i l = ItemsPut l.r.bytes.now l.r.notes.now l.initial.room l.at l.q l.room l.i l.p l.items

abbrev pub decreases-loop-i : goal.decreases-loop-i
decreases-loop-i l = format.items - l.i
