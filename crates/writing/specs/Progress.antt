-- How far the writing of a derivation has come, and what lines add to it.
use Rattle.std.specs.Prelude.{ℕ, ◌+◌, ◌*◌, ◌^◌, ◌≤◌, List, length, ltb}
use Rattle.std.proofs.lemmas.List.Edits.{sets}
use Rattle.meaning.specs.declared.Layout.TheVariants.{Plain}
use Rattle.writing.specs.declared.lines.Progress.{Progress}
use Rattle.meaning.specs.Tests.{pick}
use Rattle.meaning.specs.Limits.{format}
use Rattle.meaning.specs.Derivations.{Line}
use Rattle.meaning.specs.Layouts.{lines_written}

-- Too many lines; or so many lines, which end at so many bytes, and the room has them as far as it goes.
pub data Standing : Type 0 where
  over : Standing
  so_far : (lines bytes : ℕ) → (room : List ℕ) → Standing

-- Lines behind those that are there. What is beyond the room's end is left out.
unfoldable pub add : Standing → List Line → Standing
add over ls = over
add (so_far n b room) ls =
    pick (ltb format.lines (n + length ls)) (λ _. over)
    (λ _. so_far (n + length ls) (b + length (lines_written Plain ls)) (sets room b (lines_written Plain ls)))

-- THE PROGRESS holds it: the number of lines, and where they end.
unfoldable pub standing : (progress : Progress) (room : List ℕ) → Standing
standing progress room = pick (ltb format.lines progress.lines) (λ _. over) (λ _. so_far progress.lines progress.end room)

-- More bytes than any line has: its plan has at most as many items as a plan may have, each no longer than a request.
abbrev pub most_line : ℕ
most_line = 2 ^ 25

-- What the progress holds fits its numbers.
pub record Underway (progress : Progress) : Type 0 where
  pub few : progress.lines ≤ format.lines + 1
  pub short : progress.end ≤ 2 + most_line * progress.lines
