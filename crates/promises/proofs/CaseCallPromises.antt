-- What the call by cases promises: each theorem is of an answer, of the line beside it and of lent bytes that meet the call's own contract. Assumes
-- nothing.
use Prim.Native.Nat.{ℕ, ◌≤◌, ◌<◌}
use mathlib.Core.Path.{◌≡◌, sym, ◌∙◌, ap, ap₂}
use mathlib.Core.Bool.{true, false}
use mathlib.Core.List.{List, []}
use mathlib.Core.Logic.{◌⊎◌, ◌↔◌}
use lib.ListN.{length, get_or}
use contract.Lifetimes.{Lfts}
use borrow.Fn.Kinds.{Dens, ended_of}
use denote.Triple.Clauses.{AtExit}
use Rattle.meaning.specs.declared.Answer.{Answer}
use Rattle.meaning.specs.Limits
use Rattle.meaning.specs.Limits.{format}
use Rattle.meaning.specs.Literals.{among}
use Rattle.meaning.specs.Requests.{Item, act, Request}
use Rattle.meaning.specs.Reading.{got}
use Rattle.meaning.specs.Refusals.{settled}
use Rattle.meaning.specs.Walk.{missed_in}
use Rattle.meaning.specs.Lines.{executability_of}
use Rattle.meaning.specs.Judging
use Rattle.meaning.specs.Judging.{Judgement, within, judge}
use Rattle.meaning.specs.ByCases.{judge_by_cases, line_by_cases, count}
use Rattle.meaning.specs.Approximation.{failed, least}
use Rattle.meaning.specs.CaseApproximation.{Φ̂₁, Entailed₁}
use Rattle.meaning.specs.Paths.{walked_along}
use Rattle.meaning.specs.Reported.{ItemIn, item_place, Nearest, item_line}
use Rattle.meaning.specs.CaseReported.{case_paths, FirstTooMany, MissesAt, SticksAt, TooManyAt}
use Rattle.meaning.specs.Worlds.{CarriedOut}
use Rattle.meaning.specs.Answers.{cases_answers}
use Rattle.meaning.specs.AnswerParts.{WalkInput, CasesCount, CasesState, stated, Placed}
use Rattle.meaning.specs.Tests.{Has}
use Rattle.demands.proofs.ProvedCases.{by_cases_line, judged_line, Row, proved_cases}
use Rattle.steps.specs.AtHand.{Marked}
use Rattle.glintstring.specs.declared.judging.Judged.{Judged}
use Rattle.promises.proofs.CaseJudgePromises
use Rattle.glintstring.proofs.judging.judge_by_cases.Kinds.{ps, r}
use Rattle.glintstring.proofs.judging.judge_by_cases.Reads.{Pre, Post}

-- WHAT THE CALL IS GIVEN, by the values of its three parameters.
module _ (κs : Lfts 2) (given : Dens κs ps) where
  abbrev pub request : List ℕ
  request = given.0.now

  abbrev pub lent : List ℕ
  lent = given.1.0.now

  abbrev pub budget : ℕ
  budget = given.1.1.0

  -- What it leaves in the lent bytes.
  abbrev pub left : AtExit (ended_of 2 ps r) κs → List ℕ
  left exit = exit.1.0.now

  -- THE CONTRACT, as the source has it.
  pub as_written : (result : Judged) (exit : AtExit (ended_of 2 ps r) κs) → Post κs given result exit
      → (record { answer = result.answer; state = left exit } ≡ judge_by_cases format request lent budget) × (result.line ≡ line_by_cases format request lent budget)
  as_written result exit meets = meets

  -- Two results that meet the contract on the same input are equal: it says everything (FORMAT 22.17).
  pub determined : (result result' : Judged) (exit exit' : AtExit (ended_of 2 ps r) κs) → Post κs given result exit → Post κs given result' exit' → (result ≡ result') × (left exit ≡ left exit')
  determined result result' exit exit' meets meets' =
      let same : ◌≡◌ {A = Judgement} (record { answer = result.answer; state = left exit }) (record { answer = result'.answer; state = left exit' }) = meets.0 ∙ sym meets'.0 in
      (ap₂ {C = Judged} (λ a l. record { answer = a; line = l }) (ap (λ (j : Judgement). j.answer) same) (meets.1 ∙ sym meets'.1), ap (λ (j : Judgement). j.state) same)

  -- It may be called with anything.
  pub asks_nothing : Pre κs given
  asks_nothing = tt

  -- A RESULT that meets the contract.
  module _ (result : Judged) (exit : AtExit (ended_of 2 ps r) κs) (meets : Post κs given result exit) where
    abbrev pub answer : Answer
    answer = result.answer

    -- Demand 1 (FORMAT 22.17): it is one of the numbered answers of the call by cases.
    pub numbered : among answer.number cases_answers ≡ true
    numbered = CaseJudgePromises.numbered request lent budget answer (left exit) meets.0

    -- The proved cases (FORMAT 15.12): given a row's inputs, it answers what the row says, with the row's line.
    pub answers_the_cases : (row : Row) → Has proved_cases row → row.call ≡ by_cases_line request lent budget → row.gives ≡ judged_line (record { answer = answer; state = left exit }) result.line
    answers_the_cases = CaseJudgePromises.answers_the_line_cases request lent budget answer (left exit) meets.0 result.line meets.1

    -- The lent bytes are written by answers 1 and 2 and by no other, so not by 44 (FORMAT 4.45, 4.49, 22.11).
    pub kept : among answer.number stated ≡ false → left exit ≡ lent
    kept = CaseJudgePromises.kept request lent budget answer (left exit) meets.0

    -- Those two are of a settled request, whose first byte is its number of fluents n. They leave marks 0, 1 and 2, and 0 in every
    -- byte from n up (FORMAT 4.47, 4.48).
    pub written : among answer.number stated ≡ true
        → (x : Request) × (e : ℕ) × (settled format request ≡ got x e) × (get_or request 0 0 ≡ x.table.fluents) × Marked (left exit) × ((f : ℕ) → x.table.fluents ≤ f → get_or (left exit) f 0 ≡ 0)
    written = CaseJudgePromises.written request lent budget answer (left exit) meets.0

    -- Demand 3 (FORMAT 22.20): a verified plan is carried out in every world with the initial facts, at any budget.
    pub sound : answer.number ≡ Limits.verified → (x : Request) × (e : ℕ) × (settled format request ≡ got x e) × CarriedOut x
    sound = CaseJudgePromises.sound request lent budget answer (left exit) meets.0

    -- More is verified (FORMAT 22.21): where the walk call's definition gives 0, it gives 0 with a count no larger, or 44, with the same budget.
    pub verifies_more : Judging.number format request lent budget ≡ Limits.verified
        → ((answer.number ≡ Limits.verified) × (answer.count ≤ (judge format request lent budget).answer.count)) ⊎ (answer.number ≡ Limits.too_many_cases)
    verifies_more = CaseJudgePromises.verifies_more request lent budget answer (left exit) meets.0

    -- Demand 2 (FORMAT 22.18, 22.19), of a settled request with as many lent bytes as a state has.
    module _ (x : Request) (e : ℕ) (lent_length : length lent ≡ format.state) (past : settled format request ≡ got x e) where
      -- The answer and the lent bytes are what the list of paths says, in its order.
      pub in_order : record { answer = answer; state = left exit } ≡ within lent budget (walked_along (missed_in x) (case_paths format x))
      in_order = CaseJudgePromises.in_order request lent budget answer (left exit) meets.0 x e lent_length past

      -- The budget is spent exactly where the walk counts more.
      pub spent_exactly : (answer.number ≡ Limits.budget_spent) ↔ (budget < count format x)
      spent_exactly = CaseJudgePromises.spent_exactly request lent budget answer (left exit) meets.0 x e lent_length past

      -- Too many cases, exactly where the count is within the budget and the first path that stops, stops so (FORMAT 22.12, 22.19).
      pub many_exactly : (answer.number ≡ Limits.too_many_cases) ↔ ((count format x ≤ budget) × ((p : ℕ) × FirstTooMany (case_paths format x) p))
      many_exactly = CaseJudgePromises.many_exactly request lent budget answer (left exit) meets.0 x e lent_length past

      -- Answer 44 is placed at an action that is met in a state in which it has more than 12 open fluents, and leaves the lent bytes (FORMAT 22.9, 22.11).
      pub many_there : answer.number ≡ Limits.too_many_cases → TooManyAt format x answer.place × (left exit ≡ lent)
      many_there = CaseJudgePromises.many_there request lent budget answer (left exit) meets.0 x e lent_length past

      -- Answer 1 is about the first end state that misses an entry, and is placed at the first entry that is not met there (FORMAT 11.14, 11.15, 22.14).
      pub missed_there : answer.number ≡ Limits.goal_missed → MissesAt format x answer.place (left exit)
      missed_there = CaseJudgePromises.missed_there request lent budget answer (left exit) meets.0 x e lent_length past

      -- Answer 2 is about the first path that stops, and is placed at the item that can't be run there: an action can't by cases (FORMAT 22.3, 22.14).
      pub stopped_there : answer.number ≡ Limits.not_executable → SticksAt format x answer.place (left exit)
      stopped_there = CaseJudgePromises.stopped_there request lent budget answer (left exit) meets.0 x e lent_length past

      -- Within the budget, where it is not 44.
      module _ (enough : count format x ≤ budget) (few : answer.number ≡ Limits.too_many_cases → ⊥) where
        -- Not executable, exactly where the extended 1-transition function leads from the least initial a-state to failure.
        pub stuck_exactly : (answer.number ≡ Limits.not_executable) ↔ Φ̂₁ x.table x.plan (least x.table) failed
        stuck_exactly = CaseJudgePromises.stuck_exactly request lent budget answer (left exit) meets.0 x e lent_length past enough few

        -- Verified, exactly where the 1-approximation entails the goals and the whether entries.
        pub verified_exactly : (answer.number ≡ Limits.verified) ↔ Entailed₁ x
        verified_exactly = CaseJudgePromises.verified_exactly request lent budget answer (left exit) meets.0 x e lent_length past enough few

        -- A goal is missed, exactly where neither is so.
        pub missed_exactly : (answer.number ≡ Limits.goal_missed) ↔ ((Φ̂₁ x.table x.plan (least x.table) failed → ⊥) × (Entailed₁ x → ⊥))
        missed_exactly = CaseJudgePromises.missed_exactly request lent budget answer (left exit) meets.0 x e lent_length past enough few

    -- Input, count, place and state are what the number says (FORMAT 22.11, 22.14): neither input exactly with 0, 3 and 9.
    pub input_exactly : WalkInput answer
    input_exactly = CaseJudgePromises.input_exactly request lent budget answer (left exit) meets.0

    -- The walk's count with 0, 1 and 2, the budget with 3, and else 0, so with 44.
    pub count_exactly : CasesCount format request budget answer
    count_exactly = CaseJudgePromises.count_exactly request lent budget answer (left exit) meets.0

    -- Place 0 with 0, 3, 9 and 10, the request's length with 11, and else that of a byte.
    pub place_within : Placed (length request) answer.number answer.place
    place_within = CaseJudgePromises.place_within request lent budget answer (left exit) meets.0

    -- The state that the walk's end concerns with 1 and 2, and else the lent bytes.
    pub state_exactly : CasesState format request lent (record { answer = answer; state = left exit })
    state_exactly = CaseJudgePromises.state_exactly request lent budget answer (left exit) meets.0

    -- THE LINE (FORMAT 18.10 to 18.12, 22.14). In every answer but 2 it is 0.
    pub no_line : (answer.number ≡ Limits.not_executable → ⊥) → result.line ≡ 0
    no_line = CaseJudgePromises.no_line request lent budget answer (left exit) meets.0 result.line meets.1

    -- So it is in 44.
    pub no_line_many : answer.number ≡ Limits.too_many_cases → result.line ≡ 0
    no_line_many = CaseJudgePromises.no_line_many request lent budget answer (left exit) meets.0 result.line meets.1

    module _ (x : Request) (e : ℕ) (past : settled format request ≡ got x e) where
      -- In answer 2 it is that of the item of the plan at the place, in the state left: what asking names of an action, and 0 of a branching.
      pub line_there : answer.number ≡ Limits.not_executable → (i : Item ℕ) → ItemIn x.plan i → item_place i ≡ answer.place → result.line ≡ item_line x.table i (left exit)
      line_there = CaseJudgePromises.line_there request lent budget answer (left exit) meets.0 result.line meets.1 x e past

      -- At an action it is 0 where that has no executability line; else it is the place of one of its lines, none of which is short by fewer
      -- literals, and none before it by as few.
      pub line_missing : length lent ≡ format.state → answer.number ≡ Limits.not_executable → (a : ℕ) → ItemIn x.plan (act answer.place a)
          → ((executability_of x.table a ≡ []) × (result.line ≡ 0)) ⊎ Nearest (left exit) (executability_of x.table a) result.line
      line_missing = CaseJudgePromises.line_missing request lent budget answer (left exit) meets.0 result.line meets.1 x e past
