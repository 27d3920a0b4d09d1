-- At each turn what the section gives is what the lines left give, and the notes have those read.
use Prim.Native.Nat.{◌-◌}
use mathlib.Core.Path.{◌≡◌}
use Rattle.meaning.specs.Reading.{section_at}
use Rattle.reading.specs.Noted.{line_at, section_noted, noting}
use Rattle.reading.proofs.SectionLaws.{From}
use Rattle.reading.proofs.sections.section_at.Given as goal

abbrev pub invariant-loop-k : goal.invariant-loop-k
invariant-loop-k g l =
    let c = g.C.Section.section in
    let s = l.input.bytes.now in
    noting (section_noted c) (section_at (line_at g.S.Shape.FORM c l.input.fluents l.input.actions s) s l.start) l.fn.t ≡ From g.S.Shape.FORM c l.input.fluents l.input.actions s (l.count - l.k) l.p l.k l.last l.t
