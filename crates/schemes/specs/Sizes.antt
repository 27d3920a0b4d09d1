-- What the two passes over the scheme give: how many lines and bytes a derivation has, and the derivation itself.
use Rattle.std.specs.Prelude.{ℕ, ◌+◌, ◌≤◌, ◌<◌, ◌≡◌, List, length}
use Rattle.std.proofs.lemmas.List.Edits.{sets}
use Rattle.meaning.specs.declared.Layout.TheVariants.{Plain}
use Rattle.meaning.specs.Limits.{format}
use Rattle.meaning.specs.Derivations.{Line}
use Rattle.meaning.specs.Layouts.{lines_written}
use Rattle.meaning.specs.Schemes.{derivation_bytes}
use Rattle.schemes.specs.declared.scheme.Size.{Size}

-- The lines stand behind the two bytes of their number, unless they are too many.
pub record Lined (lines : List Line) (room : List ℕ) (size : Size) (room' : List ℕ) : Type 0 where
  pub many : format.lines < length lines → format.lines < size.lines
  pub few : length lines ≤ format.lines → size.lines ≡ length lines
  pub long : length lines ≤ format.lines → size.bytes ≡ 2 + length (lines_written Plain lines)
  pub stand : length lines ≤ format.lines → room' ≡ sets room 2 (lines_written Plain lines)

-- So many lines, and where they are not too many, so many bytes of the derivation.
pub record Measured (lines : List Line) (size : Size) : Type 0 where
  pub many : format.lines < length lines → format.lines < size.lines
  pub few : length lines ≤ format.lines → size.lines ≡ length lines
  pub long : length lines ≤ format.lines → size.bytes ≡ length (derivation_bytes lines)
