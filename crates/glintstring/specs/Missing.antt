-- What stands where a walk stopped.
use Rattle.std.specs.Prelude.{ℕ, ◌<◌, ◌≡◌, List, length, get_or}
use Rattle.meaning.specs.Limits
use Rattle.meaning.specs.Limits.{format}

-- An item's first byte: an action within the limit, or that of a branching (FORMAT 2.23, 2.24).
pub record ItemByte (s : List ℕ) (place : ℕ) : Type 0 where
  pub there : place < length s
  pub small : (get_or s place 0 ≡ Limits.branching_byte → ⊥) → get_or s place 0 < format.actions
