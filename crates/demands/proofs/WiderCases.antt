-- The format's limits are wider than those that it had before, and a request shows why the laws of wider limits leave 12 out: by computing. Assumes
-- nothing.
use Prim.Native.Nat.{ℕ, ◌+◌}
use native.Mathlib.Omega.{arith}
use mathlib.Core.Path.{◌≡◌, refl}
use mathlib.Core.List.{List, [], ◌∷◌}
use lib.ListN.{replicate}
use Rattle.meaning.specs.Limits
use Rattle.meaning.specs.Limits.{former, format}
use Rattle.meaning.specs.Judging.{number}
use Rattle.demands.specs.Wider.{Wider}
use Rattle.meaning.proofs.Compute.{all_open}

pub format_wider : Wider former format
format_wider = record {
  fluents = omega arith;
  actions = omega arith;
  listed = omega arith;
  state = omega arith;
  body = refl;
  branches = refl;
  nested = refl;
  items = refl;
  request = refl;
  derivation = refl;
  lines = refl;
  citations = refl;
  room = omega arith;
}

-- A request that begins with one fluent more than there could be before, and ends there.
abbrev one_more : List ℕ
one_more = (former.fluents + 1) ∷ []

pub twelve_left_out : (number former one_more (replicate former.state 0) 0 ≡ Limits.count_outside)
    × (number format one_more (replicate format.state 0) 0 ≡ Limits.ends_too_soon)
unfolding all_open
twelve_left_out = (refl, refl)
