-- Partial states of fluents with any number of values, 0 or v + 1 for each fluent; when an action can be run in one, what comes after it, and the
-- walk (FORMAT sections 7 and 8). What States and Walk say of flags is said here of values, under the same names.
use Rattle.std.specs.Prelude.{ℕ, ◌+◌, Bool, true, List, [], ◌∷◌, map, length, get_or, set, eqb}
use Rattle.meaning.specs.Tests.{both, either, fails, pick, some_of, those_of}
use Rattle.meaning.specs.Limits
use Rattle.meaning.specs.Limits.{Limits}
use Rattle.meaning.specs.Requests.{EffectOver, TableOver, EntryOver, RequestOver}
use Rattle.meaning.specs.Refusals.{Found, nowhere, or_else}
use Rattle.meaning.specs.Lines.{effects_of, executability_of, knowledge_of, allowed, sensing, senses}
use Rattle.meaning.specs.States.{State, Outcome, single, fork}
use Rattle.meaning.specs.Walk.{in_state, Walked, Step, leads_to, refuses, Steps, meet, walk, first_missed, end_of}
use Rattle.meaning.specs.Values.{Literals, numbers, first_such, values_of, set_by, fits}

-- The value is the one known of the fluent (FORMAT 7.1).
unfoldable pub is_known : State → (fluent value : ℕ) → Bool
is_known s f v = eqb (get_or s f Limits.unknown_mark) (v + 1)

-- The state with the value known of the fluent.
unfoldable pub told : (fluent value : ℕ) → State → State
told f v s = set s f (v + 1)

-- The mark of a fluent that is left these values: known where there is one.
unfoldable pub mark_left : List ℕ → ℕ
mark_left [] = Limits.unknown_mark
mark_left (v ∷ []) = v + 1
mark_left (v ∷ u ∷ vs) = Limits.unknown_mark

-- One outcome for each value, in their order; the others wait.
unfoldable pub each_value : List ℕ → (ℕ → Outcome State) → State → Outcome State
each_value [] k s = single s
each_value (v ∷ []) k s = k v
each_value (v ∷ u ∷ vs) k s = fork (k v) (λ _. each_value (u ∷ vs) k s)

module _ {L : Type 0} (ls : Literals L) where
  -- Some value of the fluent is known, and passes the test.
  unfoldable pub known_as : State → (fluent : ℕ) → (ℕ → Bool) → Bool
  known_as s f test = some_of (λ (v : ℕ). both (is_known s f v) (test v)) (values_of ls f)

  -- The literal is known true (FORMAT 7.2).
  unfoldable pub known : State → L → Bool
  known s l = known_as s (ls.fluent l) (ls.satisfied l)

  -- The literal is not known false (FORMAT 7.3, 7.4).
  unfoldable pub possible : State → L → Bool
  possible s l = fails (known_as s (ls.fluent l) (λ v. fails (ls.satisfied l v)))

  -- Some value of the fluent is known.
  unfoldable pub known_whether : State → ℕ → Bool
  known_whether s f = known_as s f (λ v. true)

  -- In the first state a fluent is known where the initial facts leave it one value (FORMAT 7.7).
  unfoldable pub first_state : Limits → TableOver L → State
  first_state lim t = map (λ (f : ℕ). mark_left (those_of (fits ls t.facts f) (values_of ls f))) (numbers 0 lim.state)

  -- Some executability line of the action has a body known true (FORMAT 7.8, 7.9).
  unfoldable pub can_be_run : TableOver L → ℕ → State → Bool
  can_be_run t a s = allowed (known s) (executability_of t a)

  -- The value is known afterwards: it was, or is set by a body known true, and no possible body sets another (FORMAT 7.17 to 7.21).
  unfoldable pub known_after : List (EffectOver L) → State → (fluent value : ℕ) → Bool
  known_after es s f v = both (either (is_known s f v) (set_by ls (known s) (eqb v) es f)) (fails (set_by ls (possible s) (λ u. fails (eqb v u)) es f))

  -- The mark of a fluent afterwards, and with it the state (FORMAT 7.20 to 7.22).
  unfoldable pub mark_after : List (EffectOver L) → State → ℕ → ℕ
  mark_after es s f = first_such (known_after es s f) (λ v. v + 1) (values_of ls f) Limits.unknown_mark

  unfoldable pub state_after : TableOver L → ℕ → State → State
  state_after t a s = map (mark_after (effects_of t a) s) (numbers 0 (length s))

  -- The sensed fluents that are unknown, ascending (FORMAT 7.12, 7.13).
  unfoldable pub unknown_sensed : TableOver L → ℕ → State → List ℕ
  unknown_sensed t a s = those_of (λ (f : ℕ). both (senses (knowledge_of t a) f) (fails (known_whether s f))) (numbers 0 (length s))

  -- Each of the fluents is read, its values in ascending order (FORMAT 7.12, 7.15, 8.3).
  unfoldable pub readings : List ℕ → State → Outcome State
  readings [] s = single s
  readings (f ∷ fs) s = each_value (values_of ls f) (λ v. readings fs (told f v s)) s

  -- A sensing action leads to readings, and any other to one state (FORMAT 7.10 to 7.24).
  unfoldable pub outcome : TableOver L → ℕ → State → Outcome State
  outcome t a s = pick (sensing t a) (λ _. readings (unknown_sensed t a s) s) (λ _. single (state_after t a s))

  -- The step of a table. An action that can't be run is refused (FORMAT 7.8, 8.12).
  unfoldable pub table_does : TableOver L → ℕ → State → Step State
  table_does t a s = pick (can_be_run t a s) (λ _. leads_to (outcome t a s)) (λ _. refuses Limits.not_executable (in_state s))

  unfoldable pub table_step : TableOver L → Steps State L
  table_step t = record { does = table_does t; knows = known; lacks = λ _. nowhere }

  -- An end state is judged: goals in order, then whether entries in order (FORMAT 4.36, 8.6, 8.7).
  unfoldable pub missed_in : RequestOver L → State → Found
  missed_in r s = or_else (first_missed (known s) r.goals) (λ _. first_missed (known_whether s) r.whether)

  -- FORMAT 8.5, 8.9.
  unfoldable pub judged : RequestOver L → State → Walked State
  judged r s = record { count = 1; end = end_of (missed_in r s) s }

  -- The whole walk of a request's plan from a state.
  unfoldable pub walked : RequestOver L → State → Walked State
  walked r = walk (table_step r.table) r.plan (judged r)

  -- With guards, each of which is to be known true in every state met, the first among them (FORMAT 21.6, 21.7).
  unfoldable pub guarded_step : TableOver L → List (EntryOver L) → Steps State L
  guarded_step t gs = record { does = table_does t; knows = known; lacks = λ s. first_missed (known s) gs }

  unfoldable pub walked_guarded : RequestOver L → List (EntryOver L) → State → Walked State
  walked_guarded r gs = meet (guarded_step r.table gs) (walk (guarded_step r.table gs) r.plan (judged r))
