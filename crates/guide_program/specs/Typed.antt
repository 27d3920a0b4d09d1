-- What was read of a line.
use Rattle.std.specs.Prelude.{ℕ, ◌≤◌, List, length}
use Rattle.guide_program.specs.declared.typed.Line.{Line}
use Rattle.guide_program.specs.declared.typed.Line.TheVariants.{Readings, Other, TooLong, End}

-- The readings stand at the start of the row.
abbrev pub Kept : Line → (row : List ℕ) → Type 0
Kept (Readings n) row = n ≤ length row
Kept Other row = Unit {0}
Kept TooLong row = Unit {0}
Kept End row = Unit {0}
