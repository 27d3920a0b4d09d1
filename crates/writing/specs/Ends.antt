-- Where an item of a plan ends.
use Rattle.std.specs.Prelude.{ℕ, ◌+◌, ◌≤◌, ◌≡◌, List, length, get_or, take, drop}
use Rattle.meaning.specs.Requests.{Sequence, item, Item}
use Rattle.meaning.specs.Layouts.{item_written}
use Rattle.reading.specs.Noted.{item_place}
use Rattle.steps.specs.Held.{plan_in}
use Rattle.steps.specs.Rests.{rest_at}
use Rattle.meaning.specs.declared.Form.TheVariants.{Flags}

-- The bytes of item i stand from its place up to this one.
pub record ItemEnds (s t : List ℕ) (i end : ℕ) : Type 0 where
  pub this : Item ℕ
  pub after : Sequence ℕ
  pub rest : rest_at (plan_in Flags s t) i ≡ item this after
  pub ends : end ≡ get_or t (item_place + i) 0 + length (item_written this)
  pub within : end ≤ length s
  pub bytes : take (length (item_written this)) (drop (get_or t (item_place + i) 0) s) ≡ item_written this
