-- What is put behind the lines that are there.
use Rattle.std.specs.Prelude.{ℕ, ◌+◌, ◌≤◌, ◌<◌, ◌≡◌, List, ◌++◌, length}
use Rattle.meaning.specs.Limits.{format}
use Rattle.meaning.specs.Derivations.{Line}
use Rattle.meaning.specs.Schemes.{ReadLines}
use Rattle.writing.specs.declared.lines.Progress.{Progress}
use Rattle.writing.specs.Progress.{add, standing, Underway}

-- These lines, and so there is a line.
pub record Put (lines : List Line) (progress : Progress) (room : List ℕ) (progress' : Progress) (room' : List ℕ) : Type 0 where
  pub stands : standing progress' room' ≡ add (standing progress room) lines
  pub underway : Underway progress'
  pub some : 0 < progress'.lines

-- The lines of so many readings. The last line of each is cited behind what was cited, unless there are too many lines.
pub record ReadingsPut (readings : ℕ) (read : ReadLines) (cites : List ℕ) (progress : Progress) (room cites' : List ℕ) (progress' : Progress) (room' : List ℕ) : Type 0 where
  pub put : Put read.lines progress room progress' room'
  pub more : length cites' ≡ length cites + readings
  pub numbers : progress'.lines ≤ format.lines → cites' ≡ cites ++ read.lasts
