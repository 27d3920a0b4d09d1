-- The paths of a values request by their list, and what its statements say of them (FORMAT 26.22, 26.33). The walk is not called.
use Rattle.std.specs.Prelude.{ℕ, ◌≡◌, List}
use Rattle.meaning.specs.Tests.{Has}
use Rattle.meaning.specs.Limits
use Rattle.meaning.specs.Limits.{Limits}
use Rattle.meaning.specs.Requests.{Request}
use Rattle.meaning.specs.Reading.{literals_in}
use Rattle.meaning.specs.Refusals.{Found, at}
use Rattle.meaning.specs.States.{State}
use Rattle.meaning.specs.Walk.{in_state}
use Rattle.meaning.specs.Paths.{arrives, stops, Path, paths}
use Rattle.meaning.specs.ValueStates.{first_state, table_step}

-- The paths of the plan from the first state.
abbrev pub value_paths : Limits → (request : List ℕ) → Request → List (Path State)
value_paths lim s r = paths (table_step (literals_in s) r.table) r.plan (first_state (literals_in s) lim r.table)

-- Some path stops at an item that can't be run.
pub record SomeStops (xs : List (Path State)) : Type 0 where
  pub path : Path State
  pub one : Has xs path
  pub place : ℕ
  pub state : State
  pub stop : path.ending ≡ stops Limits.not_executable place (in_state state)

-- Some end state misses an entry.
pub record SomeMisses (miss : State → Found) (xs : List (Path State)) : Type 0 where
  pub path : Path State
  pub one : Has xs path
  pub state : State
  pub end : path.ending ≡ arrives state
  pub place : ℕ
  pub entry : miss state ≡ at place
