-- What answers 1, 2 and 44 of the call by cases report, by the list of paths of its step, and the states in which a path meets an item. The walk is not called
-- (FORMAT 22.9 to 22.11, 22.14, 22.19).
use Rattle.std.specs.Prelude.{ℕ, ◌≡◌, true, false, List, ◌⊎◌}
use Rattle.meaning.specs.Tests.{each_of, Has}
use Rattle.meaning.specs.Limits
use Rattle.meaning.specs.Limits.{Limits}
use Rattle.meaning.specs.Requests.{Table, Sequence, done, item, Item, act, branching, Branches, none, branch, Request}
use Rattle.meaning.specs.States.{State, first_state}
use Rattle.meaning.specs.Walk.{no_state, in_state, Steps}
use Rattle.meaning.specs.Approximation.{NoneTrue}
use Rattle.meaning.specs.Paths.{arrives, stops, Path, paths, paths_item}
use Rattle.meaning.specs.Reported.{First, pair_of, asked_at, met_in, asked_by, AllMet, Arrives, ItemIn, item_place}
use Rattle.meaning.specs.ByCases.{runs_by_cases, too_many, cases_step}

-- The paths of the plan from the first state.
abbrev pub case_paths : Limits → Request → List (Path State)
case_paths lim r = paths (cases_step r.table) r.plan (first_state lim r.table)

-- The first path that stops, stops with 44 at the place.
abbrev pub FirstTooMany : List (Path State) → (place : ℕ) → Type 0
FirstTooMany xs p = First Arrives (λ x. x.ending ≡ stops Limits.too_many_cases p no_state) xs

-- GOAL MISSED. Every path arrives. The first that misses an entry arrives in u, and the first entry not met there stands at the place.
pub record MissesAt (lim : Limits) (r : Request) (place : ℕ) (u : State) : Type 0 where
  pub all_arrive : (x : Path State) → Has (case_paths lim r) x → Arrives x
  pub path : First (λ x. (v : State) → x.ending ≡ arrives v → AllMet r (pair_of v)) (λ x. x.ending ≡ arrives u) (case_paths lim r)
  pub entry : First (λ e. met_in (pair_of u) e ≡ true) (λ e. (met_in (pair_of u) e ≡ false) × (asked_at e ≡ place)) (asked_by r)

-- NOT EXECUTABLE. The item can't be run in a state: an action not by cases, and a branching has no condition true.
abbrev pub NotByCases : Table → Item ℕ → State → Type 0
NotByCases t (act p a) u = runs_by_cases t a u ≡ false
NotByCases t (branching p bs) u = NoneTrue bs (pair_of u)

-- The first path that stops, stops in u, at the place of an item that can't be run in u.
pub record SticksAt (lim : Limits) (r : Request) (place : ℕ) (u : State) : Type 0 where
  pub path : First Arrives (λ x. x.ending ≡ stops Limits.not_executable place (in_state u)) (case_paths lim r)
  pub stop : Item ℕ
  pub in_plan : ItemIn r.plan stop
  pub stands : item_place stop ≡ place
  pub not_run : NotByCases r.table stop u

-- MET. From s a path meets the item i in the state u: it is the first item, or one behind it, or it is in the branch that is chosen.
module _ (step : Steps State ℕ) where
  abbrev mutual
    pub MeetsIn : Sequence ℕ → (s : State) → (i : Item ℕ) → (u : State) → Type 0
    MeetsIn done s i u = ⊥
    MeetsIn (item j rest) s i u = MeetsAt j s i u ⊎ ((x : Path State) × (v : State) × Has (paths_item step j s) x × (x.ending ≡ arrives v) × MeetsIn rest v i u)

    pub MeetsAt : Item ℕ → (s : State) → (i : Item ℕ) → (u : State) → Type 0
    MeetsAt (act p a) s i u = (i ≡ act p a) × (u ≡ s)
    MeetsAt (branching p bs) s i u = ((i ≡ branching p bs) × (u ≡ s)) ⊎ MeetsUnder bs s i u

    pub MeetsUnder : Branches ℕ → (s : State) → (i : Item ℕ) → (u : State) → Type 0
    MeetsUnder none s i u = ⊥
    MeetsUnder (branch c b bs) s i u = ((each_of (step.knows s) c ≡ true) × MeetsIn b s i u) ⊎ ((each_of (step.knows s) c ≡ false) × MeetsUnder bs s i u)

-- TOO MANY CASES. The first path that stops, stops at the place of an action that is met in a state in which it has too many.
pub record TooManyAt (lim : Limits) (r : Request) (place : ℕ) : Type 0 where
  pub path : FirstTooMany (case_paths lim r) place
  pub action : ℕ
  pub state : State
  pub met : MeetsIn (cases_step r.table) r.plan (first_state lim r.table) (act place action) state
  pub many : too_many r.table action state ≡ true
