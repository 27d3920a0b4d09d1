-- An action's lines in file order, as the notes lead from each to the next. One definition is for effects and for executability lines:
-- `lines` is where the slots of the section start.
use Rattle.std.specs.Prelude.{ℕ, ◌<◌, ◌≡◌, List, [], ◌∷◌}
use Rattle.reading.specs.Noted.{line_place, next_line, first_line, line_numbers}

-- Line j stands at p, and what comes after it is a line further on, or none.
pub record LineIn (t : List ℕ) (lines j p : ℕ) : Type 0 where
  pub some : 0 < j
  pub few : j < line_numbers
  pub stands : line_place t lines j ≡ p
  pub rises : 0 < next_line t lines j → j < next_line t lines j

-- The places of line j and of those after it; there is none where j is 0.
unfoldable pub Chain : (t : List ℕ) (lines j : ℕ) → List ℕ → Type 0
Chain t lines j [] = j ≡ 0
Chain t lines j (p ∷ ps) = LineIn t lines j p × Chain t lines (next_line t lines j) ps

-- The places of all lines of action a.
unfoldable pub InOrder : (t : List ℕ) (lines a : ℕ) → List ℕ → Type 0
InOrder t lines a ps = Chain t lines (first_line t lines a) ps
