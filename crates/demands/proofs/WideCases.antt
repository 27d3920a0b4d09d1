-- The cases of the call by cases in which an action is run with 12 or more unknown fluents (FORMAT 22.36, 22.39, 22.44 to 22.47). Their thousands of fillings are
-- not computed: an action that can be run as known is run by cases, and the state after it is asked nothing, or is that of the open fluents' fillings alone.
-- Assumes nothing.
use Prim.Native.Nat.{ℕ, zero, suc, ◌+◌}
use mathlib.Core.Path.{◌≡◌, refl, sym, ◌∙◌, ap, ap₂}
use mathlib.Core.Bool.{Bool, true, false}
use mathlib.Core.List.{List, [], ◌∷◌, ◌++◌, map}
use lib.ListN.{length, length-replicate}
use lib.Dec.{ltb, eqb}
use borrow.Author.Tests.{ltb-false, eqb-true, eqb-false}
use Rattle.meaning.specs.Tests.{both, fails, pick, each_of}
use Rattle.meaning.specs.Limits
use Rattle.meaning.specs.Limits.{format}
use Rattle.meaning.specs.Literals.{says_true, says_false}
use Rattle.meaning.specs.Requests.{Table, Sequence, done, item, act, Request}
use Rattle.meaning.specs.Reading.{got}
use Rattle.meaning.specs.Refusals.{or_else, settled}
use Rattle.meaning.specs.Lines.{sensing}
use Rattle.meaning.specs.States.{State, told, first_state, can_be_run, unknown_sensed, Outcome, readings, outcome_to}
use Rattle.meaning.specs.Walk.{no_state, fine, missed, stopped, Walked, stopped_at, counted, keep_miss, after_miss, after_end, and_then, each_reading, Step, leads_to, after_step, run_action, walk, first_missed, missed_in, end_of, judged}
use Rattle.meaning.specs.Judging.{Judgement, written_over, reported, count_told, ended, within}
use Rattle.meaning.specs.ByCases.{fillings, after_each, after_cases, open_fluents, too_many, cases_does, cases_step, walked_by_cases, walk_of, judge_by_cases, line_by_cases}
use Rattle.meaning.proofs.TestLaws.{both_left, both_right, fails_true, pick_true, pick_false, each_has, map_same, same_map}
use Rattle.meaning.proofs.Compute.{all_open}
use Rattle.meaning.proofs.Cases.{lent_room, usual}
use Rattle.meaning.proofs.LineCases.{LineCase}
use Rattle.meaning.proofs.CaseRows.{verified, spent, many_within, many, wide, one_wide, one_action}
use Rattle.meaning.proofs.FillLaws.{known_runs, fills_after}
use Rattle.demands.proofs.CaseReports.{cases_by_walk}
use Rattle.demands.proofs.CaseLine.{cases_no_line}

-- THE STEP, of an action that can be run as known.
does_known : (t : Table) (a : ℕ) (s : State) → too_many t a s ≡ false → can_be_run t a s ≡ true → cases_does t a s ≡ leads_to (outcome_to t a s (after_cases t a s))
unfolding cases_does
does_known t a s few can = pick_false _ _ _ few ∙ pick_true _ _ _ (known_runs t a s can)

-- A REQUEST whose plan begins with such an action, as it is read from bytes.
record Begins (b : List ℕ) : Type 0 where
  r : Request
  end : ℕ
  past : settled format b ≡ got r end
  place : ℕ
  action : ℕ
  rest : Sequence ℕ
  plan : r.plan ≡ item (act place action) rest
  few : too_many r.table action (first_state format r.table) ≡ false
  can : can_be_run r.table action (first_state format r.table) ≡ true

module _ (b : List ℕ) (begins : Begins b) where
  abbrev t : Table
  t = begins.r.table

  abbrev first : State
  first = first_state format t

  abbrev senses : Bool
  senses = sensing t begins.action

  abbrev then : State → Walked State
  then = walk (cases_step t) begins.rest (judged begins.r)

  abbrev after : Outcome State → Walked State
  after o = after_step begins.place (leads_to o) then

  leads : walk_of format begins.r ≡ after (outcome_to t begins.action first (after_cases t begins.action first))
  unfolding walked_by_cases walk run_action cases_step
  leads =
      ap (λ (c : Sequence ℕ). walk (cases_step t) c (judged begins.r) first) begins.plan
      ∙ ap (λ (x : Step State). after_step begins.place x then) (does_known t begins.action first begins.few begins.can)

  -- What the call gives, where its walk is this one.
  gives : (w : Walked State) → walk_of format begins.r ≡ w → (budget : ℕ) → judge_by_cases format b lent_room budget ≡ within lent_room budget w
  gives w walks budget = cases_by_walk format b lent_room budget begins.r begins.end (length-replicate {A = ℕ} format.state 9) begins.past ∙ ap (within lent_room budget) walks

-- ALONE. It senses nothing, no item follows, and nothing is asked.
record Alone (b : List ℕ) : Type 0 where
  begins : Begins b
  plain : senses b begins ≡ false
  last : begins.rest ≡ done
  goals : begins.r.goals ≡ []
  whether : begins.r.whether ≡ []

nothing_asked : (r : Request) (s : State) → r.goals ≡ [] → r.whether ≡ [] → judged r s ≡ record { count = 1; end = fine }
unfolding judged missed_in first_missed or_else end_of
nothing_asked r s goals whether = rw (goals, whether)

alone : (b : List ℕ) → Alone b → (budget : ℕ) → judge_by_cases format b lent_room budget ≡ within lent_room budget (record { count = 2; end = fine })
unfolding walk after_step counted each_reading
alone b reads =
    let begins = reads.begins in
    let met : State = after_cases (t b begins) begins.action (first b begins) in
    gives b begins _ (
    leads b begins
    ∙ ap (after b begins) (pick_false _ _ _ reads.plain)
    ∙ ap (λ (c : Sequence ℕ). counted 1 (walk (cases_step (t b begins)) c (judged begins.r) met)) reads.last
    ∙ ap (counted 1) (nothing_asked begins.r met reads.goals reads.whether)
    )

-- FOLLOWED. It senses nothing, and in the state after it, which is found by its open fluents alone, the walk stops with 44.
record Followed (b : List ℕ) (q : ℕ) : Type 0 where
  begins : Begins b
  plain : senses b begins ≡ false
  fits : ltb (length (first b begins)) (t b begins).fluents ≡ false
  stops : then b begins (after_each (t b begins) begins.action (fillings (open_fluents (t b begins) begins.action (first b begins)) (first b begins)) (first b begins)) ≡ stopped_at Limits.too_many_cases q no_state

followed : (b : List ℕ) (q : ℕ) → Followed b q → (budget : ℕ) → judge_by_cases format b lent_room budget ≡ within lent_room budget (record { count = 1; end = stopped Limits.too_many_cases q no_state })
unfolding after_step counted each_reading stopped_at
followed b q reads =
    let begins = reads.begins in
    gives b begins _ (
    leads b begins
    ∙ ap (after b begins) (pick_false _ _ _ reads.plain)
    ∙ ap (λ (u : State). counted 1 (then b begins u)) (fills_after (t b begins) begins.action (first b begins) (ltb-false _ _ reads.fits))
    ∙ ap (counted 1) reads.stops
    )

-- READ. It senses one unknown fluent. In the first reading a goal is missed, and in the second the walk stops with 44.
record Read (b : List ℕ) (q : ℕ) : Type 0 where
  begins : Begins b
  sensed : senses b begins ≡ true
  fluent : ℕ
  one : unknown_sensed (t b begins) begins.action (first b begins) ≡ fluent ∷ []
  goal : ℕ
  state : State
  misses : then b begins (told (says_true fluent) (first b begins)) ≡ record { count = 1; end = missed goal state }
  stops : then b begins (told (says_false fluent) (first b begins)) ≡ stopped_at Limits.too_many_cases q no_state

read : (b : List ℕ) (q : ℕ) → Read b q → (budget : ℕ) → judge_by_cases format b lent_room budget ≡ within lent_room budget (record { count = 2; end = stopped Limits.too_many_cases q no_state })
unfolding after_step counted each_reading readings stopped_at and_then after_end after_miss keep_miss
read b q reads =
    let begins = reads.begins in
    gives b begins _ (
    leads b begins
    ∙ ap (after b begins) (pick_true _ _ _ reads.sensed ∙ ap (λ (fs : List ℕ). readings fs (first b begins)) reads.one)
    ∙ ap₂ {C = Walked State} (λ v w. counted 1 (and_then v (λ _. w))) reads.misses reads.stops
    )

-- THE REQUESTS. The effects of action 0 that set one fluent after another where fluent 0 is true, so many from this literal on.
each_set : (left literal : ℕ) → List ℕ
each_set zero literal = []
each_set (suc left) literal = 0 ∷ literal ∷ 1 ∷ 0 ∷ each_set left (literal + 2)

-- 12 open fluents; 13 of which one is known; and 13 that effects set.
twelve : List ℕ
twelve = 13 ∷ 1 ∷ 0 ∷ 1 ∷ 0 ∷ 0 ∷ 12 ∷ 2 ∷ 4 ∷ 6 ∷ 8 ∷ 10 ∷ 12 ∷ 14 ∷ 16 ∷ 18 ∷ 20 ∷ 22 ∷ 24 ∷ 1 ∷ 0 ∷ 0 ∷ one_action

one_known : List ℕ
one_known = 13 ∷ 1 ∷ 1 ∷ 0 ∷ 1 ∷ 0 ∷ 0 ∷ wide ++ (1 ∷ 0 ∷ 0 ∷ []) ++ one_action

all_set : List ℕ
all_set = 14 ∷ 1 ∷ 0 ∷ 13 ∷ each_set 13 2 ++ (1 ∷ 0 ∷ 0 ∷ []) ++ one_action

-- An action with 13 open fluents behind one that has none.
second_wide : List ℕ
second_wide = 13 ∷ 2 ∷ one_wide ++ (2 ∷ 0 ∷ 0 ∷ 1 ∷ 0 ∷ 0 ∷ 0 ∷ 2 ∷ 1 ∷ 0 ∷ 0 ∷ 0 ∷ [])

-- Such an action in the second reading, and a goal missed in the first.
second_reading : List ℕ
second_reading = 14 ∷ 2 ∷ one_wide ++ (2 ∷ 0 ∷ 0 ∷ 1 ∷ 0 ∷ 1 ∷ 1 ∷ 13 ∷ 0 ∷ 2 ∷ 1 ∷ 255 ∷ 2 ∷ 1 ∷ 26 ∷ 0 ∷ 0 ∷ 1 ∷ 27 ∷ 0 ∷ 1 ∷ 0 ∷ 1 ∷ 0 ∷ 0 ∷ [])

twelve_alone : Alone twelve
unfolding all_open twelve one_action
twelve_alone = record { begins = record { r = _; end = _; place = _; action = _; rest = _; past = refl; plan = refl; few = refl; can = refl }; plain = refl; last = refl; goals = refl; whether = refl }

one_known_alone : Alone one_known
unfolding all_open one_known wide one_action
one_known_alone = record { begins = record { r = _; end = _; place = _; action = _; rest = _; past = refl; plan = refl; few = refl; can = refl }; plain = refl; last = refl; goals = refl; whether = refl }

all_set_alone : Alone all_set
unfolding all_open all_set each_set one_action
all_set_alone = record { begins = record { r = _; end = _; place = _; action = _; rest = _; past = refl; plan = refl; few = refl; can = refl }; plain = refl; last = refl; goals = refl; whether = refl }

wide_followed : Followed second_wide 29
unfolding all_open second_wide one_wide wide
wide_followed = record { begins = record { r = _; end = _; place = _; action = _; rest = _; past = refl; plan = refl; few = refl; can = refl }; plain = refl; fits = refl; stops = refl }

reading_read : Read second_reading 41
unfolding all_open second_reading one_wide wide
reading_read = record { begins = record { r = _; end = _; place = _; action = _; rest = _; past = refl; plan = refl; few = refl; can = refl }; sensed = refl; fluent = _; one = refl; goal = _; state = _; misses = refl; stops = refl }

pub wide_cases : List LineCase
wide_cases =
    -- 12 open fluents: one is counted; one of 13 is known; fluents that effects set are not counted.
    verified twelve 2 ∷
    verified one_known 2 ∷
    verified all_set 2 ∷
    -- An action is counted before: 44 has count 0; with no budget it is 3.
    many_within second_wide 1 29 ∷
    spent second_wide 0 ∷
    -- A goal missed in the first reading, and 44 in the second: the miss is forgotten.
    many second_reading 41 ∷
    []

-- Every case is judged as its row says, and its answer carries the row's line.
abbrev judges : LineCase → Judgement
judges c = judge_by_cases format c.request c.lent c.budget

abbrev carries : LineCase → ℕ
carries c = line_by_cases format c.request c.lent c.budget

pub wide_cases_hold : map judges wide_cases ≡ map (λ (c : LineCase). c.gives) wide_cases
unfolding wide_cases pick within ended reported count_told written_over
wide_cases_hold =
    one (alone twelve twelve_alone usual)
    (one (alone one_known one_known_alone usual)
    (one (alone all_set all_set_alone usual)
    (one (followed second_wide 29 wide_followed 1)
    (one (followed second_wide 29 wide_followed 0)
    (one (read second_reading 41 reading_read usual) refl)))))
  where
    one : {j k : Judgement} {js ks : List Judgement} → j ≡ k → js ≡ ks → j ∷ js ≡ k ∷ ks
    one same more = ap₂ {C = List Judgement} (λ x xs. x ∷ xs) same more

-- None of the answers is 2, and so none carries a line.
quiet : LineCase → Bool
quiet c = both (fails (eqb c.gives.answer.number Limits.not_executable)) (eqb c.carries 0)

all_quiet : each_of quiet wide_cases ≡ true
unfolding quiet wide_cases each_of both fails
all_quiet = refl

pub wide_lines_hold : map carries wide_cases ≡ map (λ (c : LineCase). c.carries) wide_cases
unfolding quiet
wide_lines_hold = same_map carries (λ (c : LineCase). c.carries) wide_cases λ c has.
    let is = each_has quiet wide_cases c all_quiet has in
    let other = eqb-false _ _ (fails_true _ (both_left _ _ is)) in
    let same = map_same judges (λ (c : LineCase). c.gives) wide_cases c wide_cases_hold has in
    cases_no_line format c.request c.lent c.budget (λ q. other (ap (λ (j : Judgement). j.answer.number) (sym same) ∙ q))
    ∙ sym (eqb-true _ _ (both_right _ _ is))
