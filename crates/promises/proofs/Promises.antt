-- What the walk call promises: each theorem is of an answer, of the line beside it and of lent bytes that meet the call's own contract. Read this
-- file first in this crate. Assumes nothing.
use Prim.Native.Nat.{ℕ, ◌-◌, ◌≤◌, ◌<◌}
use mathlib.Core.Path.{◌≡◌, sym, ◌∙◌, ap, ap₂}
use mathlib.Core.Bool.{true}
use mathlib.Core.List.{List, []}
use mathlib.Core.Logic.{◌↔◌, ◌⊎◌}
use lib.ListN.{length, get_or}
use contract.Lifetimes.{Lfts}
use borrow.Fn.Kinds.{Dens, ended_of}
use denote.Triple.Clauses.{AtExit}
use Rattle.meaning.specs.declared.Answer.{Answer}
use Rattle.meaning.specs.Limits
use Rattle.meaning.specs.Limits.{former, format}
use Rattle.meaning.specs.Literals.{among}
use Rattle.meaning.specs.Requests.{Item, act, Request}
use Rattle.meaning.specs.Reading.{got}
use Rattle.meaning.specs.Refusals.{settled}
use Rattle.meaning.specs.States.{first_state}
use Rattle.meaning.specs.Walk.{table_step, missed_in}
use Rattle.meaning.specs.Lines.{executability_of}
use Rattle.meaning.specs.Judging.{Judgement, within, judge, count}
use Rattle.meaning.specs.Asking.{line}
use Rattle.meaning.specs.Approximation.{failed, Φ̂, least, Entailed}
use Rattle.meaning.specs.Paths.{paths, walked_along}
use Rattle.meaning.specs.Reported.{Misses, all_paths, MissedAt, ItemIn, item_place, StoppedAt, Nearest, item_line}
use Rattle.meaning.specs.Worlds.{CarriedOut}
use Rattle.meaning.specs.Answers.{answers}
use Rattle.meaning.specs.AnswerParts.{WalkInput, WalkCount, Placed}
use Rattle.demands.specs.Wider.{SameJudgement}
use Rattle.meaning.specs.Tests.{Has}
use Rattle.demands.proofs.ProvedCases.{judging, judging_line, judged, judged_line, Row, proved_cases}
use Rattle.steps.specs.AtHand.{Marked}
use Rattle.glintstring.specs.declared.judging.Judged.{Judged}
use Rattle.promises.proofs.JudgePromises
use Rattle.glintstring.proofs.judging.judge.Kinds.{ps, r}
use Rattle.glintstring.proofs.judging.judge.Reads.{Pre, Post}

-- WHAT THE CALL IS GIVEN, by the values of its three parameters.
module _ (κs : Lfts 2) (given : Dens κs ps) where
  abbrev pub request : List ℕ
  request = given.0.now

  abbrev pub lent : List ℕ
  lent = given.1.0.now

  abbrev pub budget : ℕ
  budget = given.1.1.0

  -- What it leaves in the lent bytes.
  abbrev pub left : AtExit (ended_of 2 ps r) κs → List ℕ
  left exit = exit.1.0.now

  -- THE CONTRACT, as the source has it.
  pub as_written : (result : Judged) (exit : AtExit (ended_of 2 ps r) κs) → Post κs given result exit
      → (record { answer = result.answer; state = left exit } ≡ judge format request lent budget) × (result.line ≡ line format request lent budget)
  as_written result exit meets = meets

  -- Two results that meet the contract on the same input are equal: it says everything.
  pub determined : (result result' : Judged) (exit exit' : AtExit (ended_of 2 ps r) κs) → Post κs given result exit → Post κs given result' exit' → (result ≡ result') × (left exit ≡ left exit')
  determined result result' exit exit' meets meets' =
      let same : ◌≡◌ {A = Judgement} (record { answer = result.answer; state = left exit }) (record { answer = result'.answer; state = left exit' }) = meets.0 ∙ sym meets'.0 in
      (ap₂ {C = Judged} (λ a l. record { answer = a; line = l }) (ap (λ (j : Judgement). j.answer) same) (meets.1 ∙ sym meets'.1), ap (λ (j : Judgement). j.state) same)

  -- It may be called with anything.
  pub asks_nothing : Pre κs given
  asks_nothing = tt

  -- A RESULT that meets the contract.
  module _ (result : Judged) (exit : AtExit (ended_of 2 ps r) κs) (meets : Post κs given result exit) where
    abbrev pub answer : Answer
    answer = result.answer

    -- Demand 1 (FORMAT 11.1): it is one of the numbered answers.
    pub numbered : among answer.number answers ≡ true
    numbered = JudgePromises.numbered request lent budget answer (left exit) meets.0

    -- The proved cases (FORMAT 15.12): given a row's inputs, it answers what the row says.
    pub answers_the_cases : (row : Row) → Has proved_cases row → row.call ≡ judging request lent budget → row.gives ≡ judged (record { answer = answer; state = left exit })
    answers_the_cases = JudgePromises.answers_the_cases request lent budget answer (left exit) meets.0

    -- The lent bytes are written by answers 1 and 2 and by no other (FORMAT 4.45, 4.49).
    pub kept : (answer.number ≡ Limits.goal_missed → ⊥) → (answer.number ≡ Limits.not_executable → ⊥) → left exit ≡ lent
    kept = JudgePromises.kept request lent budget answer (left exit) meets.0

    -- Those two are of a settled request, whose first byte is its number of fluents n. They leave marks 0, 1 and 2, and 0 in every
    -- byte from n up (FORMAT 4.47, 4.48).
    pub written : (answer.number ≡ Limits.goal_missed) ⊎ (answer.number ≡ Limits.not_executable)
        → (x : Request) × (e : ℕ) × (settled format request ≡ got x e) × (get_or request 0 0 ≡ x.table.fluents) × Marked (left exit) × ((f : ℕ) → x.table.fluents ≤ f → get_or (left exit) f 0 ≡ 0)
    written = JudgePromises.written request lent budget answer (left exit) meets.0

    -- Demand 3 (FORMAT 11.7 to 11.12): a verified plan is carried out in every world with the initial facts, at any budget.
    pub sound : answer.number ≡ Limits.verified → (x : Request) × (e : ℕ) × (settled format request ≡ got x e) × CarriedOut x
    sound = JudgePromises.sound request lent budget answer (left exit) meets.0

    -- Equal answers (FORMAT 3.19 to 3.21): whatever the former limits, lent a state of their length, answer with another number than 12.
    pub as_before : (small : List ℕ) → length small ≡ former.state → length lent ≡ format.state → ((judge former request small budget).answer.number ≡ Limits.count_outside → ⊥)
        → SameJudgement (format.state - former.state) small lent (judge former request small budget) (record { answer = answer; state = left exit })
    as_before = JudgePromises.as_before request lent budget answer (left exit) meets.0

    -- Demand 2 (FORMAT 11.5), of a settled request with as many lent bytes as a state has.
    module _ (x : Request) (e : ℕ) (lent_length : length lent ≡ format.state) (past : settled format request ≡ got x e) where
      -- The answer and the lent bytes are what the list of paths says, in its order.
      pub in_order : record { answer = answer; state = left exit } ≡ within lent budget (walked_along (missed_in x) (paths (table_step x.table) x.plan (first_state format x.table)))
      in_order = JudgePromises.in_order request lent budget answer (left exit) meets.0 x e lent_length past

      -- The budget is spent exactly where the walk counts more.
      pub spent_exactly : (answer.number ≡ Limits.budget_spent) ↔ (budget < count format x)
      spent_exactly = JudgePromises.spent_exactly request lent budget answer (left exit) meets.0 x e lent_length past

      -- Answer 1 is about the first end state that misses an entry, and is placed at the first entry that is not met there (FORMAT 11.14, 11.15).
      pub missed_there : answer.number ≡ Limits.goal_missed → MissedAt x (all_paths format x) answer.place (left exit)
      missed_there = JudgePromises.missed_there request lent budget answer (left exit) meets.0 x e lent_length past

      -- Answer 2 is about the first path that stops, and is placed at the item that can't be run there (FORMAT 11.16).
      pub stopped_there : answer.number ≡ Limits.not_executable → StoppedAt x (all_paths format x) answer.place (left exit)
      stopped_there = JudgePromises.stopped_there request lent budget answer (left exit) meets.0 x e lent_length past

      module _ (enough : count format x ≤ budget) where
        -- Not executable, exactly where the plan fails from the least initial a-state.
        pub stuck_exactly : (answer.number ≡ Limits.not_executable) ↔ Φ̂ x.table x.plan (least x.table) failed
        stuck_exactly = JudgePromises.stuck_exactly request lent budget answer (left exit) meets.0 x e lent_length past enough

        -- Verified, exactly where the goals and the whether fluents are entailed.
        pub verified_exactly : (answer.number ≡ Limits.verified) ↔ Entailed x
        verified_exactly = JudgePromises.verified_exactly request lent budget answer (left exit) meets.0 x e lent_length past enough

        -- A goal is missed, exactly where neither is so.
        pub missed_exactly : (answer.number ≡ Limits.goal_missed) ↔ ((Φ̂ x.table x.plan (least x.table) failed → ⊥) × (Entailed x → ⊥))
        missed_exactly = JudgePromises.missed_exactly request lent budget answer (left exit) meets.0 x e lent_length past enough

        -- That is where every path can be run and an entry is not met in some end state (FORMAT 11.13).
        pub missed_in_an_end_state : (answer.number ≡ Limits.goal_missed) ↔ Misses x
        missed_in_an_end_state = JudgePromises.missed_in_an_end_state request lent budget answer (left exit) meets.0 x e lent_length past enough

    -- Input, count and place are what the number says (FORMAT 4.26 to 4.44): neither input exactly with 0, 3 and 9.
    pub input_exactly : WalkInput answer
    input_exactly = JudgePromises.input_exactly request lent budget answer (left exit) meets.0

    -- The walk's count with 0, 1 and 2, the budget with 3, and else 0.
    pub count_exactly : WalkCount format request budget answer
    count_exactly = JudgePromises.count_exactly request lent budget answer (left exit) meets.0

    -- Place 0 with 0, 3, 9 and 10, the request's length with 11, and else that of a byte.
    pub place_within : Placed (length request) answer.number answer.place
    place_within = JudgePromises.place_within request lent budget answer (left exit) meets.0

    -- THE LINE (FORMAT 18.10 to 18.12, 18.20, 18.21). In every answer but 2 it is 0.
    pub no_line : (answer.number ≡ Limits.not_executable → ⊥) → result.line ≡ 0
    no_line = JudgePromises.no_line request lent budget answer (left exit) meets.0 result.line meets.1

    -- The proved cases of the line.
    pub answers_the_line_cases : (row : Row) → Has proved_cases row → row.call ≡ judging_line request lent budget → row.gives ≡ judged_line (record { answer = answer; state = left exit }) result.line
    answers_the_line_cases = JudgePromises.answers_the_line_cases request lent budget answer (left exit) meets.0 result.line meets.1

    module _ (x : Request) (e : ℕ) (past : settled format request ≡ got x e) where
      -- In answer 2 it is that of the item of the plan at the place, in the state left: what asking names of an action, and 0 of a branching.
      pub line_there : answer.number ≡ Limits.not_executable → (i : Item ℕ) → ItemIn x.plan i → item_place i ≡ answer.place → result.line ≡ item_line x.table i (left exit)
      line_there = JudgePromises.line_there request lent budget answer (left exit) meets.0 result.line meets.1 x e past

      -- At an action it is 0 where that has no executability line; else it is the place of one of its lines, none of which is short by fewer
      -- literals, and none before it by as few.
      pub line_missing : length lent ≡ format.state → answer.number ≡ Limits.not_executable → (a : ℕ) → ItemIn x.plan (act answer.place a)
          → ((executability_of x.table a ≡ []) × (result.line ≡ 0)) ⊎ Nearest (left exit) (executability_of x.table a) result.line
      line_missing = JudgePromises.line_missing request lent budget answer (left exit) meets.0 result.line meets.1 x e past
