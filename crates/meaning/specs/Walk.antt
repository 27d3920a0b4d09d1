-- The walk of a plan over states: what it counted and how it ended (FORMAT section 8). There is no budget here.
use Rattle.std.specs.Prelude.{ℕ, ◌+◌, ◌≡◌, Bool, List, [], ◌∷◌}
use Rattle.meaning.specs.Tests.{pick, each_of}
use Rattle.meaning.specs.Limits
use Rattle.meaning.specs.Requests.{Table, Sequence, done, item, Item, act, branching, Branches, none, branch, EntryOver, Request}
use Rattle.meaning.specs.Refusals.{Found, nowhere, at, or_else}
use Rattle.meaning.specs.States.{State, known, known_whether, can_be_run, Outcome, single, fork, outcome}

-- The state concerned, where there is one.
pub data Concerned (S : Type 0) : Type 0 where
  no_state : Concerned S
  in_state : S → Concerned S

-- How a walk ends: nothing is missed; or the first entry missed, with the end state; or what stopped it, with the answer's number, the place
-- and the state concerned (FORMAT 8.16, 21.10). Only a stop keeps a walk from going on, and it goes before any miss; a miss stops nothing.
pub data End (S : Type 0) : Type 0 where
  fine : End S
  missed : (place : ℕ) → S → End S
  stopped : (number place : ℕ) → Concerned S → End S

pub record Walked (S : Type 0) : Type 0 where
  pub count : ℕ
  pub end : End S

module _ {S : Type 0} where
  -- Nothing is missed, and no path stops.
  abbrev pub Verified : Walked S → Type 0
  Verified w = w.end ≡ fine

  -- An item that stops the walk isn't counted (FORMAT 8.12).
  unfoldable pub stopped_at : (number place : ℕ) → Concerned S → Walked S
  stopped_at n p u = record { count = 0; end = stopped n p u }

  -- An item that can't be run.
  abbrev pub stuck_at : ℕ → S → Walked S
  stuck_at p s = stopped_at Limits.not_executable p (in_state s)

  unfoldable pub counted : ℕ → Walked S → Walked S
  counted c w = record { count = c + w.count; end = w.end }

  -- The first miss is kept, unless a later path stops (FORMAT 8.19, 8.20).
  unfoldable pub keep_miss : ℕ → S → End S → End S
  keep_miss p s fine = missed p s
  keep_miss p s (missed q t) = missed p s
  keep_miss p s (stopped n q u) = stopped n q u

  unfoldable pub after_miss : ℕ → S → Walked S → Walked S
  after_miss p s w = record { count = w.count; end = keep_miss p s w.end }

  unfoldable pub after_end : End S → ℕ → (Unit {0} → Walked S) → Walked S
  after_end fine c more = counted c (more tt)
  after_end (missed p s) c more = counted c (after_miss p s (more tt))
  after_end (stopped n p u) c more = record { count = c; end = stopped n p u }

  -- One walk after another: the walk goes on after a miss, and not after a stop (FORMAT 8.8, 8.12).
  unfoldable pub and_then : Walked S → (Unit {0} → Walked S) → Walked S
  and_then w more = after_end w.end w.count more

  -- What follows an action, walked for each reading in order (FORMAT 8.2).
  unfoldable pub each_reading : Outcome S → (S → Walked S) → Walked S
  each_reading (single s) k = k s
  each_reading (fork o p) k = and_then (each_reading o k) (λ _. each_reading (p tt) k)

-- What an action does in a state: it leads to an outcome, or is refused with an answer's number.
pub data Step (S : Type 0) : Type 0 where
  leads_to : Outcome S → Step S
  refuses : (number : ℕ) → Concerned S → Step S

-- What the walk asks at each step, of states S and literals L.
pub record Steps (S L : Type 0) : Type 0 where
  pub does : ℕ → S → Step S
  pub knows : S → L → Bool
  -- the first guard that a state lacks (FORMAT 21.7)
  pub lacks : S → Found

-- A step at a place, and what follows it (FORMAT 8.9, 8.10).
unfoldable pub after_step : {S : Type 0} → (place : ℕ) → Step S → (S → Walked S) → Walked S
after_step p (leads_to o) k = counted 1 (each_reading o k)
after_step p (refuses n u) k = stopped_at n p u

-- A state in which a guard is found broken stops the walk (FORMAT 21.9, 21.10).
abbrev pub unless_broken : {S : Type 0} → Found → S → Walked S → Walked S
unless_broken nowhere s w = w
unless_broken (at p) s w = stopped_at Limits.guard_broken p (in_state s)

module _ {S L : Type 0} (step : Steps S L) where
  -- A state is met, and k walks on from it (FORMAT 21.6, 21.8).
  abbrev pub meet : (S → Walked S) → S → Walked S
  meet k s = unless_broken (step.lacks s) s (k s)

  unfoldable pub run_action : (place action : ℕ) → (S → Walked S) → S → Walked S
  run_action p a k s = after_step p (step.does a s) (meet k)

  -- k walks what follows.
  unfoldable mutual
    pub walk : Sequence L → (S → Walked S) → S → Walked S
    walk done k s = k s
    walk (item i rest) k s = walk_item i (walk rest k) s

    pub walk_item : Item L → (S → Walked S) → S → Walked S
    walk_item (act p a) k s = run_action p a k s
    walk_item (branching p bs) k s = walk_branch bs p k s

    -- The branch whose condition is known true, and then what follows the branching (FORMAT 7.25, 7.26, 8.4, 8.11).
    pub walk_branch : Branches L → ℕ → (S → Walked S) → S → Walked S
    walk_branch none p k s = stuck_at p s
    walk_branch (branch c b bs) p k s = pick (each_of (step.knows s) c) (λ _. walk b k s) (λ _. walk_branch bs p k s)

-- The step of a table over partial states. An action that can't be run is refused (FORMAT 7.8, 8.12).
unfoldable pub table_does : Table → ℕ → State → Step State
table_does t a s = pick (can_be_run t a s) (λ _. leads_to (outcome t a s)) (λ _. refuses Limits.not_executable (in_state s))

unfoldable pub table_step : Table → Steps State ℕ
table_step t = record { does = table_does t; knows = known; lacks = λ _. nowhere }

-- The first entry that fails the test (FORMAT 4.36).
unfoldable pub first_missed : {A : Type 0} → (A → Bool) → List (EntryOver A) → Found
first_missed test [] = nowhere
first_missed test (e ∷ es) = pick (test e.value) (λ _. first_missed test es) (λ _. at e.place)

-- An end state is judged: goals in order, then whether entries in order (FORMAT 4.36, 8.6, 8.7).
unfoldable pub missed_in : Request → State → Found
missed_in r s = or_else (first_missed (known s) r.goals) (λ _. first_missed (known_whether s) r.whether)

unfoldable pub end_of : Found → State → End State
end_of nowhere s = fine
end_of (at p) s = missed p s

-- FORMAT 8.5, 8.9.
unfoldable pub judged : Request → State → Walked State
judged r s = record { count = 1; end = end_of (missed_in r s) s }

-- The whole walk of a request's plan from a state.
unfoldable pub walked : Request → State → Walked State
walked r = walk (table_step r.table) r.plan (judged r)

-- WITH GUARDS, each of which is to be known true in every state met, the first among them (FORMAT 21.6, 21.7).
unfoldable pub guarded_step : Table → List (EntryOver ℕ) → Steps State ℕ
guarded_step t gs = record { does = table_does t; knows = known; lacks = λ s. first_missed (known s) gs }

unfoldable pub walked_guarded : Request → List (EntryOver ℕ) → State → Walked State
walked_guarded r gs = meet (guarded_step r.table gs) (walk (guarded_step r.table gs) r.plan (judged r))
