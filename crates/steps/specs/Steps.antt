-- What the steps of the walk answer, in the terms of the definitions.
use Rattle.std.specs.Prelude.{Option, None, Some}
use Rattle.std.specs.Prelude.{ℕ, ◌+◌, ◌-◌, ◌<◌, ◌≡◌, List, [], ◌∷◌, Bool, true, false, ◌⊎◌, length, get_or, drop, eqb, ltb}
use Rattle.meaning.specs.Tests.{both, fails, pick, each_of, those_of}
use Rattle.meaning.specs.Limits
use Rattle.meaning.specs.Limits.{format, all_literals}
use Rattle.meaning.specs.Requests.{Table, Sequence, item, branching, Branches, none, branch}
use Rattle.meaning.specs.Derivations.{join}
use Rattle.meaning.specs.declared.Form.{Form}
use Rattle.meaning.specs.declared.Form.TheVariants.{Flags, Valued}
use Rattle.meaning.specs.Reading.{values_in, literals_in}
use Rattle.meaning.specs.Refusals.{Found, nowhere}
use Rattle.meaning.specs.Lines.{knowledge_of, sensing, senses}
use Rattle.meaning.specs.Values.{numbers}
use Rattle.meaning.specs.ValueStates as Value
use Rattle.meaning.specs.States.{State, Outcome, single, known, first_state, state_after, unknown_from, unknown_sensed, readings, outcome_to}
use Rattle.meaning.specs.Walk.{no_state, in_state, Walked, stuck_at, Step, leads_to, refuses, Steps, meet, walk, table_does, first_missed, missed_in, end_of}
use Rattle.meaning.specs.ByCases.{after_cases, cases_does}
use Rattle.meaning.specs.Schemes.{narrow_does}
use Rattle.reading.specs.Noted.{item_place, mode_slot}
use Rattle.finding.specs.Branches.{sequence_place, no_item}
use Rattle.steps.specs.declared.goals.Asked.{Asked}
use Rattle.steps.specs.declared.goals.Asked.TheVariants.{Goal, Whether}
use Rattle.steps.specs.declared.trying.Mode.{Mode}
use Rattle.steps.specs.declared.trying.Mode.TheVariants.{ByKnown, Narrow, Values, ByCases}
use Rattle.steps.specs.declared.cases.Tried.{Tried}
use Rattle.steps.specs.declared.cases.Tried.TheVariants.{Runs, Stuck, Many}
use Rattle.steps.specs.Held.{table_in, plan_in, guards_in, request_in}
use Rattle.steps.specs.Rests.{rest_at, after_first, Position}

-- The sensed fluents from f up that are unknown.
unfoldable pub unknown_above : Table → ℕ → State → (f : ℕ) → List ℕ
unknown_above t a marks f = unknown_from (knowledge_of t a) marks f (drop f marks)

-- The same as the form has it, and all of them.
abbrev pub unknown_as : Form → List ℕ → ℕ → State → (f : ℕ) → List ℕ
unknown_as Flags s a marks f = unknown_above (table_in Flags s) a marks f
unknown_as Valued s a marks f = those_of (λ (g : ℕ). both (senses (knowledge_of (table_in Valued s) a) g) (fails (Value.known_whether (literals_in s) marks g))) (numbers f (length marks - f))

abbrev pub all_unknown : Form → List ℕ → ℕ → State → List ℕ
all_unknown Flags s a marks = unknown_sensed (table_in Flags s) a marks
all_unknown Valued s a marks = Value.unknown_sensed (literals_in s) (table_in Valued s) a marks

-- How many values a fluent has, and the readings of these fluents.
abbrev pub values_as : Form → List ℕ → (f : ℕ) → ℕ
values_as Flags s f = 2
values_as Valued s f = values_in s f

abbrev pub readings_as : Form → List ℕ → List ℕ → State → Outcome State
readings_as Flags s = readings
readings_as Valued s = Value.readings (literals_in s)

-- The first of them, or the limit of fluents.
unfoldable pub first_of : List ℕ → ℕ
first_of [] = format.fluents
first_of (f ∷ fs) = f

-- What a literal is below, and a fluent.
unfoldable pub bound_as : Asked → ℕ
bound_as asked = elim asked [ Goal ↦ all_literals | Whether ↦ format.fluents ]

-- A goal is known, and of a whether entry there is a mark.
unfoldable pub has_mark : State → ℕ → Bool
has_mark marks f = ltb 0 (get_or marks f 0)

unfoldable pub met_as : Asked → State → ℕ → Bool
met_as asked = elim asked [ Goal ↦ known | Whether ↦ has_mark ]

-- THE MODE of the walk: 0 goes by what is known, 2 does so too but refuses a sensing action that is too wide (FORMAT 24.4), and of a request of flags every other number goes by cases (FORMAT 22.1). With 3 the request has values (FORMAT 26.1), and `does_as` does not ask the mode.
abbrev pub narrow_mode : ℕ
narrow_mode = 2

abbrev pub values_mode : ℕ
values_mode = 3

-- What a number does as a mode.
unfoldable pub mode_named : ℕ → Mode
mode_named m =
    pick (eqb m 0) (λ _. ByKnown) λ _.
    pick (eqb m narrow_mode) (λ _. Narrow) λ _.
    pick (eqb m values_mode) (λ _. Values) λ _.
    ByCases

unfoldable pub mode_in : List ℕ → ℕ
mode_in t = get_or t mode_slot 0

-- What an action does.
unfoldable pub does_in : (mode : ℕ) → Table → ℕ → State → Step State
does_in mode t a s =
    pick (eqb mode 0) (λ _. table_does t a s) λ _.
    pick (eqb mode narrow_mode) (λ _. narrow_does t a s) λ _.
    cases_does t a s

-- The state after one that does not sense.
unfoldable pub after_in : (mode : ℕ) → Table → ℕ → State → State
after_in mode t a s =
    pick (eqb mode 0) (λ _. state_after t a s) λ _.
    pick (eqb mode narrow_mode) (λ _. state_after t a s) λ _.
    after_cases t a s

-- The number with which too many readings are refused, or too many cases.
unfoldable pub refused_in : (mode : ℕ) → ℕ
refused_in mode = pick (eqb mode narrow_mode) (λ _. Limits.sensing_too_wide) (λ _. Limits.too_many_cases)

-- What trying it stands for.
unfoldable pub tried_as : (mode : ℕ) → Table → ℕ → State → Tried → Step State
tried_as mode t a s r =
    elim r [
      | Runs ↦ leads_to (outcome_to t a s (after_in mode t a s))
      | Stuck ↦ refuses Limits.not_executable (in_state s)
      | Many ↦ refuses (refused_in mode) no_state
    ]

-- AS THE FORM HAS IT. A literal is known true.
abbrev pub knows_as : Form → List ℕ → State → ℕ → Bool
knows_as Flags s = known
knows_as Valued s = Value.known (literals_in s)

-- What an action does, the state after one that does not sense, and what it leads to.
abbrev pub does_as : Form → (s t : List ℕ) → ℕ → State → Step State
does_as Flags s t = does_in (mode_in t) (table_in Flags s)
does_as Valued s t = Value.table_does (literals_in s) (table_in Valued s)

abbrev pub after_as : Form → (s t : List ℕ) → ℕ → State → State
after_as Flags s t = after_in (mode_in t) (table_in Flags s)
after_as Valued s t = Value.state_after (literals_in s) (table_in Valued s)

unfoldable pub outcome_as : Form → (s t : List ℕ) → ℕ → State → Outcome State
outcome_as form s t a marks = pick (sensing (table_in form s) a) (λ _. readings_as form s (all_unknown form s a marks) marks) (λ _. single (after_as form s t a marks))

-- What trying it stands for.
unfoldable pub tries_as : Form → (s t : List ℕ) → ℕ → State → Tried → Step State
tries_as form s t a marks r =
    elim r [
      | Runs ↦ leads_to (outcome_as form s t a marks)
      | Stuck ↦ refuses Limits.not_executable (in_state marks)
      | Many ↦ refuses (refused_in (mode_in t)) no_state
    ]

-- The step: in its mode, and with guards where there are any.
abbrev pub lacks_as : Form → (s t : List ℕ) → State → Found
lacks_as Flags s t = λ marks. first_missed (known marks) (guards_in s t)
lacks_as Valued s t = λ _. nowhere

unfoldable pub step_in : Form → (s t : List ℕ) → Steps State ℕ
step_in form s t = record { does = does_as form s t; knows = knows_as form s; lacks = lacks_as form s t }

-- What an end state misses, and that state judged.
abbrev pub missed_as : Form → (s t : List ℕ) → State → Found
missed_as Flags s t = missed_in (request_in Flags s t)
missed_as Valued s t = Value.missed_in (literals_in s) (request_in Valued s t)

unfoldable pub judged_in : Form → (s t : List ℕ) → State → Walked State
judged_in form s t marks = record { count = 1; end = end_of (missed_as form s t marks) marks }

-- The first state (FORMAT 7.7, 26.17).
abbrev pub first_in : Form → List ℕ → State
first_in Flags s = first_state format (table_in Flags s)
first_in Valued s = Value.first_state (literals_in s) format (table_in Valued s)

-- The walk from a position of the plan on.
unfoldable pub walk_from : Form → (s t : List ℕ) → (at : ℕ) → State → Walked State
walk_from form s t at = walk (step_in form s t) (rest_at (plan_in form s t) at) (judged_in form s t)

-- What follows item i.
unfoldable pub walk_after : Form → (s t : List ℕ) → (i : ℕ) → State → Walked State
walk_after form s t i = walk (step_in form s t) (after_first (rest_at (plan_in form s t) i)) (judged_in form s t)

-- The same from a state that is met there.
abbrev pub met_from : Form → (s t : List ℕ) → (at : ℕ) → State → Walked State
met_from form s t at = meet (step_in form s t) (walk_from form s t at)

-- The whole walk of the request that is held, from its first state.
unfoldable pub walk_held : Form → (s t : List ℕ) → Walked State
walk_held form s t = meet (step_in form s t) (walk (step_in form s t) (plan_in form s t) (judged_in form s t)) (first_in form s)

-- The position after item i.
pub record Followed (form : Form) (s t : List ℕ) (i r : ℕ) : Type 0 where
  pub later : i < r
  pub at : Position (plan_in form s t) r
  pub rest : rest_at (plan_in form s t) r ≡ after_first (rest_at (plan_in form s t) i)

-- Where a branch begins, whose condition stands at p, with `item` items before it: there, or with no item of its own after item i.
pub record Into (form : Form) (s t : List ℕ) (i p item r : ℕ) : Type 0 where
  pub empty : no_item s (sequence_place form s p) ≡ true → Followed form s t i r
  pub other : no_item s (sequence_place form s p) ≡ false → r ≡ item

-- The position where the walk goes on from the branching that is item i, or none.
unfoldable pub going_on : Form → (s t : List ℕ) → (place : ℕ) → State → Option ℕ → Walked State
going_on form s t p marks r = elim r [ None ↦ stuck_at p marks | Some at ↦ walk_from form s t at marks ]

-- The branch that is chosen in a state: the first whose condition is known true (FORMAT 7.25).
unfoldable pub Takes : (knows : State → ℕ → Bool) → State → Branches ℕ → Sequence ℕ → Type 0
Takes knows s none b = ⊥
Takes knows s (branch c d bs) b = ((each_of (knows s) c ≡ true) × (b ≡ d)) ⊎ ((each_of (knows s) c ≡ false) × Takes knows s bs b)

-- What is left is a branching and what follows it, and then it is the chosen branch joined with that.
pub record Taken (knows : State → ℕ → Bool) (s : State) (c d : Sequence ℕ) : Type 0 where
  pub place : ℕ
  pub branches : Branches ℕ
  pub after : Sequence ℕ
  pub chosen : Sequence ℕ
  pub is : c ≡ item (branching place branches) after
  pub takes : Takes knows s branches chosen
  pub rest : d ≡ join chosen after

-- No condition is known true, so none is chosen.
unfoldable pub TakesNone : (knows : State → ℕ → Bool) → State → Branches ℕ → Type 0
TakesNone knows s none = Unit {0}
TakesNone knows s (branch c d bs) = (each_of (knows s) c ≡ false) × TakesNone knows s bs

pub record Untaken (knows : State → ℕ → Bool) (s : State) (c : Sequence ℕ) : Type 0 where
  pub place : ℕ
  pub branches : Branches ℕ
  pub after : Sequence ℕ
  pub is : c ≡ item (branching place branches) after
  pub none : TakesNone knows s branches

pub record Chosen (form : Form) (s t : List ℕ) (i : ℕ) (marks : State) (r : Option ℕ) : Type 0 where
  pub goes : walk_from form s t i marks ≡ going_on form s t (get_or t (item_place + i) 0) marks r
  pub takes : (at : ℕ) → r ≡ Some at → Taken (knows_as form s) marks (rest_at (plan_in form s t) i) (rest_at (plan_in form s t) at)
  pub stays : r ≡ None → Untaken (knows_as form s) marks (rest_at (plan_in form s t) i)
  pub later : (at : ℕ) → r ≡ Some at → i < at
  pub at : (at : ℕ) → r ≡ Some at → Position (plan_in form s t) at
