-- An index in the terms of its code: the places of an action's lines as the notes lead to them, and notes into which an index is taken.
use Rattle.std.specs.Prelude.{ℕ, zero, suc, ◌+◌, ◌<◌, List, [], ◌∷◌, get_or, set, eqb}
use Rattle.meaning.specs.Tests.{pick, Has}
use Rattle.meaning.specs.Indexes.{counted_at, after_counted}
use Rattle.reading.specs.Noted.{effect_lines, run_lines, line_numbers, line_place, next_line, first_line}
use Rattle.reading.specs.Ordered.{InOrder}

-- THE PLACES of line j and of those after it, so many at the most; there is none where j is 0.
unfoldable pub noted_from : (t : List ℕ) (lines left j : ℕ) → List ℕ
noted_from t lines zero j = []
noted_from t lines (suc left) j = pick (eqb j 0) (λ _. []) (λ _. line_place t lines j ∷ noted_from t lines left (next_line t lines j))

-- Of all lines of an action.
unfoldable pub places_noted : (t : List ℕ) (lines action : ℕ) → List ℕ
places_noted t lines a = noted_from t lines line_numbers (first_line t lines a)

-- The notes lead to all of them in file order, and two bytes hold the place of each.
pub record LinesNoted (t : List ℕ) (lines action : ℕ) : Type 0 where
  pub order : InOrder t lines action (places_noted t lines action)
  pub near : (p : ℕ) → Has (places_noted t lines action) p → p < 65536

-- AN INDEX TAKEN. These places become lines, numbered from k + 1 on, and come after i: a line, or 256 and the number of an action.
unfoldable pub lines_taken : (lines i k : ℕ) (places : List ℕ) → List ℕ → List ℕ
lines_taken lines i k [] t = set t (lines + line_numbers + i) 0
lines_taken lines i k (p ∷ ps) t = lines_taken lines (k + 1) (k + 1) ps (set (set t (lines + (k + 1)) p) (lines + line_numbers + i) (k + 1))

-- So do those of so many actions from number a up, whose first count stands at q, behind so many effects and executability lines.
unfoldable pub index_taken : (index : List ℕ) (a left q effects runs : ℕ) → List ℕ → List ℕ
index_taken i a zero q effects runs t = t
index_taken i a (suc left) q effects runs t =
    index_taken i (a + 1) left (after_counted i (after_counted i q)) (effects + get_or i q 0) (runs + get_or i (after_counted i q) 0)
    (lines_taken run_lines (line_numbers + a) runs (counted_at i (after_counted i q))
    (lines_taken effect_lines (line_numbers + a) effects (counted_at i q) t))
