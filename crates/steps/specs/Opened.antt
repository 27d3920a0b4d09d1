-- The open fluents of an action, as the code holds them: their number, and then so many fluents.
use Rattle.std.specs.Prelude.{ℕ, ◌+◌, ◌≤◌, ◌<◌, ◌≡◌, false, List, length, get_or, take, drop}
use Rattle.meaning.specs.Limits.{format, most_open}
use Rattle.meaning.specs.States.{State, known_whether}
use Rattle.steps.specs.AtHand.{Marked}

-- The fluents that are held.
unfoldable pub open_in : List ℕ → List ℕ
open_in held = take (get_or held 0 0) (drop 1 held)

-- These fluents are held, unless there are more than the limit; then the number says so.
pub record Opened (fs held : List ℕ) : Type 0 where
  pub sized : length held ≡ 1 + most_open
  pub number : length fs ≤ most_open → get_or held 0 0 ≡ length fs
  pub fluents : length fs ≤ most_open → open_in held ≡ fs
  pub more : most_open < length fs → most_open < get_or held 0 0

-- A state in which the fluents that are held from number i up are still to be filled. As many are held as the number says, no more than the limit; they are
-- fluents, those from number i up are unknown in the state, and each stands there once.
pub record Filling (held : List ℕ) (i : ℕ) (marks : State) : Type 0 where
  pub marked : Marked marks
  pub few : get_or held 0 0 ≤ most_open
  pub number : length (open_in held) ≡ get_or held 0 0
  pub small : (j : ℕ) → j < length (open_in held) → get_or (open_in held) j 0 < format.fluents
  pub unknown : (j : ℕ) → i ≤ j → j < length (open_in held) → known_whether marks (get_or (open_in held) j 0) ≡ false
  pub once : (j k : ℕ) → j < k → k < length (open_in held) → get_or (open_in held) j 0 ≡ get_or (open_in held) k 0 → ⊥
