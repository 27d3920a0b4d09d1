-- What answer 43 reports, by the list of paths and by what is true in a state, and the a-states that are met in the 0-approximation. The walk is not
-- called (FORMAT 21.6, 21.7, 21.10, 21.23, 21.24).
use Rattle.std.specs.Prelude.{ℕ, ◌≡◌, true, false, List, ◌⊎◌}
use Rattle.meaning.specs.Tests.{each_of}
use Rattle.meaning.specs.Limits
use Rattle.meaning.specs.Limits.{Limits}
use Rattle.meaning.specs.Requests.{Table, Sequence, done, item, Item, act, branching, Branches, none, branch, Entry, Request}
use Rattle.meaning.specs.States.{State, first_state}
use Rattle.meaning.specs.Walk.{in_state, guarded_step}
use Rattle.meaning.specs.Approximation.{Pair, true_in, state, Φ, Φ̂_item, Initial}
use Rattle.meaning.specs.Paths.{stops, Path, paths_met}
use Rattle.meaning.specs.Reported.{First, pair_of, Arrives}
use Rattle.meaning.specs.Guards.{GuardedRequest}

-- The paths of the plan from the first state, with the states that are met on them.
abbrev pub met_paths : Limits → GuardedRequest → List (Path State)
met_paths lim g = paths_met (guarded_step g.request.table g.guards) g.request.plan (first_state lim g.request.table)

-- The first path that stops, stops with this number, at the place and in the state.
abbrev pub FirstStop : List (Path State) → (number place : ℕ) → State → Type 0
FirstStop xs n p u = First Arrives (λ x. x.ending ≡ stops n p (in_state u)) xs

-- GUARD BROKEN. It stops in u, where every guard before the one at the place is true, and that one is not.
pub record BrokenAt (guards : List Entry) (xs : List (Path State)) (place : ℕ) (u : State) : Type 0 where
  pub path : FirstStop xs Limits.guard_broken place u
  pub guard : First (λ x. true_in (pair_of u) x.value ≡ true) (λ x. (true_in (pair_of u) x.value ≡ false) × (x.place ≡ place)) guards

-- MET. The a-states that a plan meets from σ: those to which an action leads, on the way that definition 2.3 goes. A branching meets none itself.
module _ (t : Table) where
  abbrev mutual
    pub MetIn : Sequence ℕ → (σ δ : Pair) → Type 0
    MetIn done σ δ = ⊥
    MetIn (item i rest) σ δ = MetAt i σ δ ⊎ ((τ : Pair) × Φ̂_item t i σ (state τ) × MetIn rest τ δ)

    pub MetAt : Item ℕ → (σ δ : Pair) → Type 0
    MetAt (act p a) σ δ = Φ t a σ (state δ)
    MetAt (branching p bs) σ δ = MetUnder bs σ δ

    pub MetUnder : Branches ℕ → (σ δ : Pair) → Type 0
    MetUnder none σ δ = ⊥
    MetUnder (branch c b bs) σ δ = ((each_of (true_in σ) c ≡ true) × MetIn b σ δ) ⊎ MetUnder bs σ δ

-- Every guard is true in every initial a-state and in every a-state that is met from one.
pub record GuardsTrue (r : Request) (guards : List ℕ) : Type 0 where
  pub first : (σ : Pair) → Initial r.table σ → each_of (true_in σ) guards ≡ true
  pub met : (σ : Pair) → Initial r.table σ → (δ : Pair) → MetIn r.table r.plan σ δ → each_of (true_in δ) guards ≡ true
