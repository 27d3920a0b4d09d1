-- Flags, one for each fluent, by which the open fluents of an action are gathered.
use Rattle.std.specs.Prelude.{ℕ, ◌+◌, ◌<◌, ◌≡◌, ◌⊎◌, List, [], ◌∷◌, get_or, set, eqb}
use Rattle.meaning.specs.Tests.{both, fails, pick, those_of}
use Rattle.meaning.specs.Limits
use Rattle.meaning.specs.Limits.{format}
use Rattle.meaning.specs.Literals.{fluent_of}
use Rattle.meaning.specs.Requests.{Table}
use Rattle.meaning.specs.States.{State, known_whether}
use Rattle.meaning.specs.ByCases.{upward, in_bodies}
use Rattle.meaning.specs.declared.Form.TheVariants.{Flags}
use Rattle.reading.specs.Noted.{effect_lines, run_lines}
use Rattle.reading.specs.Listed.{listed}
use Rattle.steps.specs.LinesFound.{effect_places, run_places}

-- The unknown fluents of these literals get a flag.
unfoldable pub flagged : State → List ℕ → List ℕ → List ℕ
flagged marks [] flags = flags
flagged marks (l ∷ ls) flags =
    flagged marks ls
    (pick (eqb (get_or marks (fluent_of l) Limits.unknown_mark) Limits.unknown_mark) (λ _. set flags (fluent_of l) 1) (λ _. flags))

-- Those of the bodies that stand so many bytes behind these places.
unfoldable pub flagged_at : List ℕ → State → (behind : ℕ) → List ℕ → List ℕ → List ℕ
flagged_at s marks behind [] flags = flags
flagged_at s marks behind (p ∷ ps) flags = flagged_at s marks behind ps (flagged marks (listed s (p + behind)) flags)

-- The two sections whose lines have bodies: the slots of the lines in the notes, and how many bytes a body stands behind its line's place.
abbrev pub HasBodies : (lines behind : ℕ) → Type 0
HasBodies lines behind = ((lines ≡ effect_lines) × (behind ≡ 2)) ⊎ ((lines ≡ run_lines) × (behind ≡ 1))

-- The places of an action's lines in such a section, in file order.
unfoldable pub places_of : (lines : ℕ) → List ℕ → (a : ℕ) → List ℕ
places_of lines s a = pick (eqb lines effect_lines) (λ _. effect_places Flags s a) (λ _. run_places Flags s a)

-- Each open fluent of the action has one, and no other (FORMAT 22.8).
pub record OpenFlags (t : Table) (a : ℕ) (marks : State) (flags : List ℕ) : Type 0 where
  pub flag : (f : ℕ) → f < format.fluents → get_or flags f 0 ≡ pick (both (in_bodies t a f) (fails (known_whether marks f))) (λ _. 1) (λ _. 0)

-- The fluents that have one, ascending.
unfoldable pub with_flag : List ℕ → List ℕ
with_flag flags = those_of (λ (f : ℕ). eqb (get_or flags f 0) 1) (upward 0 format.fluents)
