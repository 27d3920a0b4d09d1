-- The bound on how deep a walk goes is met: with two fluents and four items, a branching, a look at one fluent, an action that forgets it, and a
-- look at both are three readings and four walks, one inside another. Computed. Assumes nothing.
use Prim.Native.Nat.{ℕ}
use mathlib.Core.Path.{◌≡◌, refl}
use mathlib.Core.List.{List, [], ◌∷◌}
use Rattle.meaning.specs.Limits.{Limits}
use Rattle.meaning.specs.Requests.{Request}
use Rattle.meaning.specs.Reading.{got}
use Rattle.meaning.specs.Refusals.{settled}
use Rattle.meaning.specs.States.{first_state}
use Rattle.meaning.specs.Walk.{table_step}
use Rattle.demands.specs.Depth.{forked, outcome_deep, step_deep, deep, depth, readings_deep, walks_deep}
use Rattle.meaning.proofs.Compute.{all_open}

abbrev pub small : Limits
small = record { fluents = 2; actions = 3; listed = 2; body = 1; branches = 1; nested = 1; items = 4; request = 64; derivation = 0; state = 2; lines = 0; citations = 0 }

-- Action 0 senses fluent 0, action 1 makes it false where fluent 1 is true, and action 2 senses both.
abbrev pub deepest : List ℕ
deepest =
    2 ∷ 3 ∷ 0
    ∷ 1 ∷ 1 ∷ 1 ∷ 1 ∷ 2
    ∷ 3 ∷ 0 ∷ 0 ∷ 1 ∷ 0 ∷ 2 ∷ 0
    ∷ 3 ∷ 0 ∷ 0 ∷ 2 ∷ 0 ∷ 2 ∷ 1
    ∷ 0 ∷ 4 ∷ 255 ∷ 1 ∷ 0 ∷ 0 ∷ 0 ∷ 0 ∷ 1 ∷ 2
    ∷ 0 ∷ 0 ∷ []

pub record Met (r : Request) : Type 0 where
  pub readings : readings_deep (table_step r.table) r.plan (first_state small r.table) ≡ 3
  pub walks : walks_deep (table_step r.table) r.plan (first_state small r.table) ≡ 4
  pub together : depth 10 1 (table_step r.table) r.plan (first_state small r.table) ≡ 34

pub bound_met : (r : Request) × (e : ℕ) × (settled small deepest ≡ got r e) × Met r
unfolding all_open forked outcome_deep step_deep deep depth
bound_met = (_, _, refl, record { readings = refl; walks = refl; together = refl })
