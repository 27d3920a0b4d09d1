-- What the answers of the derive call stand for: which requests are past each of its tests, and what 37 reports, by the paths of the walk (FORMAT 24.13 to 24.19, 24.25).
use Rattle.std.specs.Prelude.{ℕ, ◌≤◌, ◌<◌, ◌≡◌, true, false, List, [], ◌∷◌, ◌++◌, ◌⊎◌, length, drop}
use Rattle.meaning.specs.Limits
use Rattle.meaning.specs.Limits.{Limits}
use Rattle.meaning.specs.Requests.{Item, act, Request}
use Rattle.meaning.specs.Lines.{sensing}
use Rattle.meaning.specs.Reading.{got}
use Rattle.meaning.specs.Refusals.{settled}
use Rattle.meaning.specs.States.{State, first_state, unknown_sensed}
use Rattle.meaning.specs.Walk.{no_state, Verified, table_step}
use Rattle.meaning.specs.Judging
use Rattle.meaning.specs.Paths.{stops, Path, paths}
use Rattle.meaning.specs.Reported.{First, Arrives, ItemIn}
use Rattle.meaning.specs.CaseReported.{MeetsIn}
use Rattle.meaning.specs.Schemes.{derivation_of, derivation_bytes, too_wide, narrow_step, derive}

-- PAST 10 TO 21 AND 30: the request is settled, and r has no whether entry (FORMAT 24.13, 24.14).
pub record AsksGoals (lim : Limits) (request : List ℕ) (r : Request) : Type 0 where
  pub end : ℕ
  pub settles : settled lim request ≡ got r end
  pub no_whether : r.whether ≡ []

-- 30: it has one (FORMAT 24.14).
pub record AsksWhether (lim : Limits) (request : List ℕ) (r : Request) : Type 0 where
  pub end : ℕ
  pub settles : settled lim request ≡ got r end
  pub some : r.whether ≡ [] → ⊥

-- The numbers of a walk that does not verify it.
unfoldable pub unverified : List ℕ
unverified = Limits.goal_missed ∷ Limits.not_executable ∷ Limits.budget_spent ∷ []

-- PAST 1, 2 AND 3: its walk verifies it within the budget (FORMAT 24.15).
pub record WalkVerifies (lim : Limits) (request : List ℕ) (budget : ℕ) (r : Request) : Type 0 where
  pub asks : AsksGoals lim request r
  pub fine : Verified (Judging.walk_of lim r)
  pub enough : Judging.count lim r ≤ budget

-- TOO WIDE. The walk meets an item in a state.
abbrev pub WalkMeets : Limits → Request → Item ℕ → State → Type 0
WalkMeets lim r = MeetsIn (table_step r.table) r.plan (first_state lim r.table)

-- No action that it meets is too wide there (FORMAT 24.4).
abbrev pub NoneWide : Limits → Request → Type 0
NoneWide lim r = (p a : ℕ) (u : State) → WalkMeets lim r (act p a) u → too_wide r.table a u ≡ false

-- The paths of the plan from the first state, each up to the first item on it that is too wide.
abbrev pub narrow_paths : Limits → Request → List (Path State)
narrow_paths lim r = paths (narrow_step r.table) r.plan (first_state lim r.table)

-- 37: the first of these paths that stops, stops so, at the place. There the plan has an action that senses, which the walk meets in a state in which more of its fluents are
-- unknown than rule 3 has citations for (FORMAT 24.4, 24.16).
pub record TooWideAt (lim : Limits) (r : Request) (place : ℕ) : Type 0 where
  pub path : First Arrives (λ x. x.ending ≡ stops Limits.sensing_too_wide place no_state) (narrow_paths lim r)
  pub action : ℕ
  pub state : State
  pub in_plan : ItemIn r.plan (act place action)
  pub met : WalkMeets lim r (act place action) state
  pub senses : sensing r.table action ≡ true
  pub wide : Limits.most_forked < length (unknown_sensed r.table action state)

-- PAST 37: the request has a derivation by the scheme.
pub record Derives (lim : Limits) (request : List ℕ) (budget : ℕ) (r : Request) : Type 0 where
  pub verifies : WalkVerifies lim request budget r
  pub narrow : NoneWide lim r

-- Its bytes (FORMAT 24.5 to 24.10).
abbrev pub bytes_of : Limits → Request → List ℕ
bytes_of lim r = derivation_bytes (derivation_of lim r)

-- PAST 38 AND 39: neither its lines nor its bytes are too many, and the room has its bytes (FORMAT 24.17, 24.18).
pub record SizesFit (lim : Limits) (room : List ℕ) (r : Request) : Type 0 where
  pub lines : length (derivation_of lim r) ≤ lim.lines
  pub bytes : length (bytes_of lim r) ≤ lim.derivation
  pub fits : length (bytes_of lim r) ≤ length room

-- 39: its lines are not too many, but its bytes are, or the room has not as many.
pub record BytesExceed (lim : Limits) (room : List ℕ) (r : Request) : Type 0 where
  pub lines : length (derivation_of lim r) ≤ lim.lines
  pub bytes : (lim.derivation < length (bytes_of lim r)) ⊎ (length room < length (bytes_of lim r))

-- 0: the count is the number of the bytes, and the room starts with these and goes on as lent (FORMAT 24.19, 24.25).
pub record DerivationWritten (lim : Limits) (request room : List ℕ) (budget : ℕ) (r : Request) : Type 0 where
  pub derives : Derives lim request budget r
  pub sizes : SizesFit lim room r
  pub counts : (derive lim request room budget).answer.count ≡ length (bytes_of lim r)
  pub leaves : (derive lim request room budget).room ≡ bytes_of lim r ++ drop (length (bytes_of lim r)) room
