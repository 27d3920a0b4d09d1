-- The paths of a plan as a list in the order of the walk, and what that list says of the walk (FORMAT 8.9 to 8.20). The walk is not called.
use Rattle.std.specs.Prelude.{ℕ, suc, ◌+◌, List, [], ◌∷◌, ◌++◌, length}
use Rattle.meaning.specs.Tests.{pick, each_of}
use Rattle.meaning.specs.Limits
use Rattle.meaning.specs.Requests.{Sequence, done, item, Item, act, branching, Branches, none, branch}
use Rattle.meaning.specs.Refusals.{Found, nowhere, at}
use Rattle.meaning.specs.States.{Outcome, single, fork}
use Rattle.meaning.specs.Walk.{Concerned, in_state, End, fine, missed, stopped, Walked, Step, leads_to, refuses, Steps}

-- A path arrives in an end state, or stops, at an item that is refused or in a state that lacks a guard: with an answer's number, the place and
-- the state concerned.
pub data Ending (S : Type 0) : Type 0 where
  arrives : S → Ending S
  stops : (number place : ℕ) → Concerned S → Ending S

-- The actions run on a path, those aside that were run on a path before it already, and its ending.
pub record Path (S : Type 0) : Type 0 where
  pub ran : List ℕ
  pub ending : Ending S

module _ {S : Type 0} where
  -- The first of the paths has run these actions before its own.
  unfoldable pub first_ran : List ℕ → List (Path S) → List (Path S)
  first_ran before [] = []
  first_ran before (x ∷ xs) = record { ran = before ++ x.ran; ending = x.ending } ∷ xs

  -- Each path that arrives goes on.
  unfoldable pub goes_on : List ℕ → Ending S → (S → List (Path S)) → List (Path S)
  goes_on ran (arrives s) more = first_ran ran (more s)
  goes_on ran (stops n p u) more = record { ran = ran; ending = stops n p u } ∷ []

  unfoldable pub go_on : List (Path S) → (S → List (Path S)) → List (Path S)
  go_on [] more = []
  go_on (x ∷ xs) more = goes_on x.ran x.ending more ++ go_on xs more

  -- A state that is met: the path stops there where it lacks a guard (FORMAT 21.9, 21.10).
  abbrev pub met_ending : Found → S → Ending S
  met_ending nowhere s = arrives s
  met_ending (at p) s = stops Limits.guard_broken p (in_state s)

  unfoldable pub meetings : (S → Found) → Outcome S → List (Path S)
  meetings lacks (single s) = record { ran = []; ending = met_ending (lacks s) s } ∷ []
  meetings lacks (fork o p) = meetings lacks o ++ meetings lacks (p tt)

  -- Without guards each arrives.
  abbrev pub arrivals : Outcome S → List (Path S)
  arrivals = meetings (λ _. nowhere)

  -- The paths of an action at a place, by what it does.
  unfoldable pub paths_step : (S → Found) → (place action : ℕ) → Step S → List (Path S)
  paths_step lacks p a (leads_to o) = first_ran (a ∷ []) (meetings lacks o)
  paths_step lacks p a (refuses n u) = record { ran = []; ending = stops n p u } ∷ []

module _ {S L : Type 0} (step : Steps S L) where
  unfoldable mutual
    pub paths : Sequence L → S → List (Path S)
    paths done s = record { ran = []; ending = arrives s } ∷ []
    paths (item i rest) s = go_on (paths_item i s) (paths rest)

    pub paths_item : Item L → S → List (Path S)
    paths_item (act p a) s = paths_step step.lacks p a (step.does a s)
    paths_item (branching p bs) s = paths_branch bs p s

    pub paths_branch : Branches L → ℕ → S → List (Path S)
    paths_branch none p s = record { ran = []; ending = stops Limits.not_executable p (in_state s) } ∷ []
    paths_branch (branch c b bs) p s = pick (each_of (step.knows s) c) (λ _. paths b s) (λ _. paths_branch bs p s)

  -- From a state that is met (FORMAT 21.6).
  unfoldable pub paths_met : Sequence L → S → List (Path S)
  paths_met p s = go_on (meetings step.lacks (single s)) (paths p)

module _ {S : Type 0} where
  -- The count: the actions run and the end states met, up to the first path that stops.
  unfoldable pub count_of : List ℕ → Ending S → ℕ → ℕ
  count_of ran (arrives s) later = suc (length ran) + later
  count_of ran (stops n p u) later = length ran

  unfoldable pub count_in : List (Path S) → ℕ
  count_in [] = 0
  count_in (x ∷ xs) = count_of x.ran x.ending (count_in xs)

  -- The first path that stops, if any does.
  unfoldable pub stop_of : Ending S → End S → End S
  stop_of (arrives s) later = later
  stop_of (stops n p u) later = stopped n p u

  unfoldable pub first_stop : List (Path S) → End S
  first_stop [] = fine
  first_stop (x ∷ xs) = stop_of x.ending (first_stop xs)

  -- The first end state that misses an entry, if any does.
  unfoldable pub miss_of : (S → Found) → Ending S → End S → End S
  miss_of miss (arrives s) later = miss_at (miss s)
    where
      miss_at : Found → End S
      miss_at nowhere = later
      miss_at (at p) = missed p s
  miss_of miss (stops n p u) later = later

  unfoldable pub first_miss : (S → Found) → List (Path S) → End S
  first_miss miss [] = fine
  first_miss miss (x ∷ xs) = miss_of miss x.ending (first_miss miss xs)

  -- What stops goes before what misses.
  unfoldable pub stop_or_miss : End S → End S → End S
  stop_or_miss fine miss = miss
  stop_or_miss (missed p s) miss = missed p s
  stop_or_miss (stopped n p u) miss = stopped n p u

  -- What the list of paths says of the walk.
  unfoldable pub walked_along : (S → Found) → List (Path S) → Walked S
  walked_along miss xs = record { count = count_in xs; end = stop_or_miss (first_stop xs) (first_miss miss xs) }
