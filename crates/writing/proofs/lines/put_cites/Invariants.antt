-- A turn puts one citation in two bytes; what is left then makes of the room what the whole makes of it.
use Rattle.writing.proofs.CiteLaws.{Citing}
use Rattle.writing.proofs.lines.put_cites.Given as goal

abbrev pub invariant-loop-line : goal.invariant-loop-line
invariant-loop-line l = Citing l.lines l.initial.room l.q l.room l.p l.line-index
