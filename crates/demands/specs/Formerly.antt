-- 16 as it was before 7.31 asked for an executability line: every two effects that clash were refused. It stands here for what is proved of the
-- change.
use Rattle.std.specs.Prelude.{ℕ, ◌≤◌, ◌≡◌, List, []}
use Rattle.meaning.specs.Limits
use Rattle.meaning.specs.Limits.{Limits}
use Rattle.meaning.specs.Requests.{Table, Request}
use Rattle.meaning.specs.declared.Form.TheVariants.{Flags}
use Rattle.meaning.specs.Reading.{Got, got, fault, next, read_request}
use Rattle.meaning.specs.Refusals.{Found, clashing, first_against, mixed_in, overlap_in, refuse, settled}

-- The first effect that clashes with one before it.
unfoldable pub clash_in : Table → Found
clash_in t = first_against clashing [] t.effects

-- A request settled with that pass in the place of 16.
unfoldable pub settled_formerly : Limits → List ℕ → Got Request
settled_formerly lim s =
    next (read_request lim Flags s) λ r e.
    refuse Limits.contradictory_effects (clash_in r.table) λ _.
    refuse Limits.effect_and_knowledge (mixed_in r.table.effects r.table.knowledge) λ _.
    refuse Limits.not_exclusive (overlap_in r.plan) λ _.
    got r e

-- It refused by 16, and no later than 16 refuses now.
pub record RefusedFormerly (lim : Limits) (s : List ℕ) : Type 0 where
  pub place : ℕ
  pub formerly : settled_formerly lim s ≡ fault Limits.contradictory_effects place
  pub not_later : (p : ℕ) → settled lim s ≡ fault Limits.contradictory_effects p → place ≤ p
