-- What the values call promises: each theorem is of an answer and of lent bytes that meet the call's own contract. Assumes nothing.
use Prim.Native.Nat.{ℕ, ◌≤◌, ◌<◌}
use mathlib.Core.Path.{◌≡◌, sym, ◌∙◌, ap}
use mathlib.Core.Bool.{true, false}
use mathlib.Core.List.{List}
use mathlib.Core.Logic.{◌↔◌}
use lib.ListN.{length, get_or}
use contract.Lifetimes.{Lfts}
use borrow.Fn.Kinds.{Dens, ended_of}
use denote.Triple.Clauses.{AtExit}
use Rattle.meaning.specs.declared.Answer.{Answer}
use Rattle.meaning.specs.declared.Form.TheVariants.{Flags, Valued}
use Rattle.meaning.specs.Limits
use Rattle.meaning.specs.Limits.{format}
use Rattle.meaning.specs.Literals.{among}
use Rattle.meaning.specs.Requests.{Request}
use Rattle.meaning.specs.Reading.{got, values_in, literals_in, read_request}
use Rattle.meaning.specs.Refusals.{nowhere}
use Rattle.meaning.specs.States.{State}
use Rattle.meaning.specs.Judging.{Judgement, within, judge}
use Rattle.meaning.specs.ValueStates.{missed_in}
use Rattle.meaning.specs.ValueWorlds.{World, Facts, CarriedOut}
use Rattle.meaning.specs.Valued.{settled_values, judge_values, count}
use Rattle.meaning.specs.Paths.{arrives, Path, walked_along}
use Rattle.meaning.specs.Reported.{Arrives}
use Rattle.meaning.specs.Answers.{values_answers}
use Rattle.meaning.specs.AnswerParts.{WalkInput, ValuesCount, ValuesState, stated, Placed}
use Rattle.meaning.specs.Tests.{Has}
use Rattle.demands.specs.ValuesReported.{value_paths, SomeStops, SomeMisses}
use Rattle.demands.specs.Matching.{Matches, plain_request, placeless}
use Rattle.demands.proofs.ProvedCases.{valuing, judged, Row, proved_cases}
use Rattle.valuing.specs.Valuing.{ValuedMarks}
use Rattle.promises.proofs.ValuesJudgePromises
use Rattle.glintstring.proofs.judging.judge_values.Kinds.{ps, r}
use Rattle.glintstring.proofs.judging.judge_values.Reads.{Pre, Post}

-- WHAT THE CALL IS GIVEN, by the values of its three parameters.
module _ (κs : Lfts 2) (given : Dens κs ps) where
  abbrev pub request : List ℕ
  request = given.0.now

  abbrev pub lent : List ℕ
  lent = given.1.0.now

  abbrev pub budget : ℕ
  budget = given.1.1.0

  -- What it leaves in the lent bytes.
  abbrev pub left : AtExit (ended_of 2 ps r) κs → List ℕ
  left exit = exit.1.0.now

  -- THE CONTRACT, as the source has it.
  pub as_written : (answer : Answer) (exit : AtExit (ended_of 2 ps r) κs) → Post κs given answer exit → record { answer = answer; state = left exit } ≡ judge_values format request lent budget
  as_written answer exit meets = meets

  -- Two results that meet the contract on the same input are equal: it says everything (FORMAT 26.31).
  pub determined : (answer answer' : Answer) (exit exit' : AtExit (ended_of 2 ps r) κs) → Post κs given answer exit → Post κs given answer' exit' → (answer ≡ answer') × (left exit ≡ left exit')
  determined answer answer' exit exit' meets meets' =
      let same : ◌≡◌ {A = Judgement} (record { answer = answer; state = left exit }) (record { answer = answer'; state = left exit' }) = meets ∙ sym meets' in
      (ap (λ (j : Judgement). j.answer) same, ap (λ (j : Judgement). j.state) same)

  -- It may be called with anything.
  pub asks_nothing : Pre κs given
  asks_nothing = tt

  -- A RESULT that meets the contract.
  module _ (answer : Answer) (exit : AtExit (ended_of 2 ps r) κs) (meets : Post κs given answer exit) where
    -- Demand 1 (FORMAT 26.32): it is one of the numbered answers of the values call.
    pub numbered : among answer.number values_answers ≡ true
    numbered = ValuesJudgePromises.numbered request lent budget answer (left exit) meets

    -- The proved cases (FORMAT 15.12): given a row's inputs, it answers what the row says.
    pub answers_the_cases : (row : Row) → Has proved_cases row → row.call ≡ valuing request lent budget → row.gives ≡ judged (record { answer = answer; state = left exit })
    answers_the_cases = ValuesJudgePromises.answers_the_cases request lent budget answer (left exit) meets

    -- The lent bytes are written by answers 1 and 2 and by no other, so not by 46 (FORMAT 4.45, 4.49).
    pub kept : among answer.number stated ≡ false → left exit ≡ lent
    kept = ValuesJudgePromises.kept request lent budget answer (left exit) meets

    -- Those two are of a settled request, whose first byte is its number of fluents n. They leave marks that are at most the numbers of values, and 0 in every
    -- byte from n up (FORMAT 26.15, 26.30).
    pub written : among answer.number stated ≡ true
        → (x : Request) × (e : ℕ) × (settled_values format request ≡ got x e) × (get_or request 0 0 ≡ x.table.fluents) × ValuedMarks request (left exit)
        × ((f : ℕ) → x.table.fluents ≤ f → get_or (left exit) f 0 ≡ 0)
    written = ValuesJudgePromises.written request lent budget answer (left exit) meets

    -- Demand 3 (FORMAT 26.34): a verified plan is carried out in every world that gives each fluent one of its values and has the initial facts, at any budget; and there is such a
    -- world.
    pub sound : answer.number ≡ Limits.verified
        → (x : Request) × (e : ℕ) × (settled_values format request ≡ got x e) × CarriedOut (literals_in request) x × ((w : World) × Facts (literals_in request) x.table w)
    sound = ValuesJudgePromises.sound request lent budget answer (left exit) meets

    -- Where each fluent has two values: a request that matches this one is answered by the walk call with the same number, input and count, and the same lent bytes are left
    -- (FORMAT 26.28); and there is a match (FORMAT 26.27).
    module _ (x : Request) (e : ℕ) (reads : read_request format Valued request ≡ got x e) (two : (f : ℕ) → values_in request f ≡ 2) where
      pub matched_alike : (plain : List ℕ) (y : Request) (i : ℕ) → read_request format Flags plain ≡ got y i → Matches x y
          → placeless (record { answer = answer; state = left exit }) ≡ placeless (judge format plain lent budget)
      matched_alike = ValuesJudgePromises.matched_alike request lent budget answer (left exit) meets x e reads two

      pub match_there : Matches x (plain_request x)
      match_there = ValuesJudgePromises.match_there request lent budget answer (left exit) meets x e reads two

    -- Demand 2 (FORMAT 26.33), of a settled request with as many lent bytes as a state has.
    module _ (x : Request) (e : ℕ) (lent_length : length lent ≡ format.state) (past : settled_values format request ≡ got x e) where
      -- The answer and the lent bytes are what the list of paths says, in its order.
      pub in_order : record { answer = answer; state = left exit } ≡ within lent budget (walked_along (missed_in (literals_in request) x) (value_paths format request x))
      in_order = ValuesJudgePromises.in_order request lent budget answer (left exit) meets x e lent_length past

      -- The budget is spent exactly where the walk counts more.
      pub spent_exactly : (answer.number ≡ Limits.budget_spent) ↔ (budget < count format request x)
      spent_exactly = ValuesJudgePromises.spent_exactly request lent budget answer (left exit) meets x e lent_length past

      module _ (enough : count format request x ≤ budget) where
        -- Not executable, exactly where some path stops at an item that can't be run.
        pub stuck_exactly : (answer.number ≡ Limits.not_executable) ↔ SomeStops (value_paths format request x)
        stuck_exactly = ValuesJudgePromises.stuck_exactly request lent budget answer (left exit) meets x e lent_length past enough

        -- Verified, exactly where each path arrives, and misses nothing.
        pub verified_exactly : (answer.number ≡ Limits.verified)
            ↔ ((p : Path State) → Has (value_paths format request x) p → (u : State) × (p.ending ≡ arrives u) × (missed_in (literals_in request) x u ≡ nowhere))
        verified_exactly = ValuesJudgePromises.verified_exactly request lent budget answer (left exit) meets x e lent_length past enough

        -- A goal is missed, exactly where each path arrives and one misses an entry.
        pub missed_exactly : (answer.number ≡ Limits.goal_missed)
            ↔ (((p : Path State) → Has (value_paths format request x) p → Arrives p) × SomeMisses (missed_in (literals_in request) x) (value_paths format request x))
        missed_exactly = ValuesJudgePromises.missed_exactly request lent budget answer (left exit) meets x e lent_length past enough

        -- So it is wherever the answer is neither.
        pub missed_otherwise : (answer.number ≡ Limits.not_executable → ⊥) → (answer.number ≡ Limits.verified → ⊥) → answer.number ≡ Limits.goal_missed
        missed_otherwise = ValuesJudgePromises.missed_otherwise request lent budget answer (left exit) meets x e lent_length past enough

    -- Input, count, place and state are what the number says (FORMAT 26.14): neither input exactly with 0, 3 and 9.
    pub input_exactly : WalkInput answer
    input_exactly = ValuesJudgePromises.input_exactly request lent budget answer (left exit) meets

    -- The walk's count with 0, 1 and 2, the budget with 3, and else 0, so with 46.
    pub count_exactly : ValuesCount format request budget answer
    count_exactly = ValuesJudgePromises.count_exactly request lent budget answer (left exit) meets

    -- Place 0 with 0, 3, 9 and 10, the request's length with 11, and else that of a byte, so with 46.
    pub place_within : Placed (length request) answer.number answer.place
    place_within = ValuesJudgePromises.place_within request lent budget answer (left exit) meets

    -- The state that the walk's end concerns with 1 and 2, and else the lent bytes.
    pub state_exactly : ValuesState format request lent (record { answer = answer; state = left exit })
    state_exactly = ValuesJudgePromises.state_exactly request lent budget answer (left exit) meets
