-- What the indexed call promises: each theorem is of an answer, of the line beside it and of lent bytes that meet the call's own contract. Assumes
-- nothing.
use Prim.Native.Nat.{ℕ, ◌≤◌, ◌<◌}
use mathlib.Core.Path.{◌≡◌, sym, ◌∙◌, ap, ap₂, subst}
use mathlib.Core.Bool.{true}
use mathlib.Core.List.{List, []}
use mathlib.Core.Logic.{◌⊎◌, ◌↔◌}
use lib.ListN.{length, get_or, take}
use contract.Lifetimes.{Lfts}
use borrow.Fn.Kinds.{Dens, ended_of}
use denote.Triple.Clauses.{AtExit}
use Rattle.meaning.specs.declared.Answer.{Answer}
use Rattle.meaning.specs.Limits
use Rattle.meaning.specs.Limits.{format, most_index}
use Rattle.meaning.specs.Literals.{among}
use Rattle.meaning.specs.Requests.{Item, act, Request}
use Rattle.meaning.specs.Reading.{got, fault}
use Rattle.meaning.specs.Refusals.{settled}
use Rattle.meaning.specs.States.{first_state}
use Rattle.meaning.specs.Walk.{table_step, missed_in}
use Rattle.meaning.specs.Lines.{executability_of}
use Rattle.meaning.specs.Judging.{Judgement, within, judge, count}
use Rattle.meaning.specs.Asking.{line}
use Rattle.meaning.specs.Indexes.{index_of, judge_indexed, line_indexed, Differs, AsWalked}
use Rattle.meaning.specs.Approximation.{failed, Φ̂, least, Entailed}
use Rattle.meaning.specs.Paths.{paths, walked_along}
use Rattle.meaning.specs.Reported.{Misses, all_paths, MissedAt, ItemIn, item_place, StoppedAt, Nearest, item_line}
use Rattle.meaning.specs.Worlds.{CarriedOut}
use Rattle.meaning.specs.Layouts.{Bytes}
use Rattle.meaning.specs.Answers.{indexed_answers}
use Rattle.meaning.specs.AnswerParts.{WalkCount, IndexedInput, IndexedPlaced, IndexedState}
use Rattle.meaning.specs.Tests.{Has}
use Rattle.meaning.proofs.IndexAnswers.{right_index}
use Rattle.demands.proofs.Demands
use Rattle.demands.proofs.ProvedCases.{indexed_line, judged_line, Row, proved_cases}
use Rattle.steps.specs.AtHand.{Marked}
use Rattle.glintstring.specs.declared.judging.Judged.{Judged}
use Rattle.promises.proofs.IndexPromises
use Rattle.promises.proofs.IndexedJudgePromises
use Rattle.glintstring.proofs.indexes.index.Kinds as index-kinds
use Rattle.glintstring.proofs.indexes.index.Reads as index_Reads
use Rattle.glintstring.proofs.judging.judge_indexed.Kinds.{ps, r}
use Rattle.glintstring.proofs.judging.judge_indexed.Reads.{Pre, Post}

-- WHAT THE CALL IS GIVEN, by the values of its four parameters.
module _ (κs : Lfts 3) (given : Dens κs ps) where
  abbrev pub request : List ℕ
  request = given.0.now

  abbrev pub index : List ℕ
  index = given.1.0.now

  abbrev pub lent : List ℕ
  lent = given.1.1.0.now

  abbrev pub budget : ℕ
  budget = given.1.1.1.0

  -- What it leaves in the lent bytes.
  abbrev pub left : AtExit (ended_of 3 ps r) κs → List ℕ
  left exit = exit.1.1.0.now

  -- THE CONTRACT, as the source has it.
  pub as_written : (result : Judged) (exit : AtExit (ended_of 3 ps r) κs) → Post κs given result exit
      → (record { answer = result.answer; state = left exit } ≡ judge_indexed format request index lent budget) × (result.line ≡ line_indexed format request index lent budget)
  as_written result exit meets = meets

  -- Two results that meet the contract on the same input are equal: it says everything (FORMAT 23.21).
  pub determined : (result result' : Judged) (exit exit' : AtExit (ended_of 3 ps r) κs) → Post κs given result exit → Post κs given result' exit' → (result ≡ result') × (left exit ≡ left exit')
  determined result result' exit exit' meets meets' =
      let same : ◌≡◌ {A = Judgement} (record { answer = result.answer; state = left exit }) (record { answer = result'.answer; state = left exit' }) = meets.0 ∙ sym meets'.0 in
      (ap₂ {C = Judged} (λ a l. record { answer = a; line = l }) (ap (λ (j : Judgement). j.answer) same) (meets.1 ∙ sym meets'.1), ap (λ (j : Judgement). j.state) same)

  -- It may be called with anything.
  pub asks_nothing : Pre κs given
  asks_nothing = tt

  -- A RESULT that meets the contract.
  module _ (result : Judged) (exit : AtExit (ended_of 3 ps r) κs) (meets : Post κs given result exit) where
    abbrev pub answer : Answer
    answer = result.answer

    -- What the walk call gives: its answer, its lent bytes and its line.
    abbrev pub Walks : Type 0
    Walks = (record { answer = answer; state = left exit } ≡ judge format request lent budget) × (result.line ≡ line format request lent budget)

    walks : AsWalked format request index lent budget → Walks
    walks same = (meets.0 ∙ same.judges, meets.1 ∙ same.tells)

    -- Demand 1 (FORMAT 23.22): it is one of the numbered answers of the indexed call.
    pub numbered : among answer.number indexed_answers ≡ true
    numbered = IndexedJudgePromises.numbered request index lent budget answer (left exit) meets.0

    -- The proved cases (FORMAT 15.12): given a row's inputs, it answers what the row says, with the row's line.
    pub answers_the_cases : (row : Row) → Has proved_cases row → row.call ≡ indexed_line request index lent budget → row.gives ≡ judged_line (record { answer = answer; state = left exit }) result.line
    answers_the_cases = IndexedJudgePromises.answers_the_line_cases request index lent budget answer (left exit) meets.0 result.line meets.1

    -- 45 exactly where the lent state has 128 bytes, the request is settled, and the index is another than that of the request (FORMAT 23.25).
    pub differs_exactly : (answer.number ≡ Limits.index_differs) ↔ ((length lent ≡ format.state) × ((x : Request) × (e : ℕ) × (settled format request ≡ got x e) × (index_of x.table ≡ index → ⊥)))
    differs_exactly = IndexedJudgePromises.differs_exactly request index lent budget answer (left exit) meets.0

    -- It is then placed where the two first differ, names the index, and has count 0, and the lent bytes are as they were (FORMAT 23.14, 23.15).
    pub differs_there : answer.number ≡ Limits.index_differs
        → (length lent ≡ format.state) × ((x : Request) × (e : ℕ) × (settled format request ≡ got x e) × Differs (index_of x.table) index answer.place)
        × (answer.input ≡ Limits.the_index) × (answer.count ≡ 0) × (left exit ≡ lent)
    differs_there = IndexedJudgePromises.differs_there request index lent budget answer (left exit) meets.0

    -- The place is at most 1,276 where the request is of bytes (FORMAT 23.5, 23.20).
    pub differs_limited : Bytes request → answer.number ≡ Limits.index_differs → answer.place ≤ most_index
    differs_limited = IndexedJudgePromises.differs_limited request index lent budget answer (left exit) meets.0

    -- With every other number it is what the walk call gives (FORMAT 23.26).
    pub as_walked : (answer.number ≡ Limits.index_differs → ⊥) → Walks
    as_walked other = walks (IndexedJudgePromises.otherwise request index lent budget answer (left exit) meets.0 other)

    -- So it is with the index of the request, and with any index where the request is refused (FORMAT 23.11, 23.13),
    pub right_index_walks : (x : Request) (e : ℕ) → settled format request ≡ got x e → index_of x.table ≡ index → Walks
    right_index_walks x e past right = walks (right_index format request index lent budget x e past right)

    pub refused_walks : (k p : ℕ) → settled format request ≡ fault k p → Walks
    refused_walks k p past = walks (Demands.refused_as_walked format request k p past index lent budget)

    -- and with what the index call wrote of the same request, where a result of that call meets its contract (FORMAT 23.24).
    pub built_then_judged : (κs' : Lfts 2) (given' : Dens κs' index-kinds.ps) (answer' : Answer) (exit' : AtExit (ended_of 2 index-kinds.ps index-kinds.r) κs') → index_Reads.Post κs' given' answer' exit'
        → IndexPromises.request κs' given' ≡ request → answer'.number ≡ Limits.verified → index ≡ take answer'.count (IndexPromises.left κs' given' exit') → Walks
    built_then_judged κs' given' answer' exit' meets' same zero is =
        walks (subst (λ (s : List ℕ). AsWalked format s index lent budget) same
        (IndexedJudgePromises.built_index (IndexPromises.request κs' given') index (IndexPromises.room κs' given') lent budget answer' (IndexPromises.left κs' given' exit') meets' zero is))

    -- The lent bytes are written by answers 1 and 2 and by no other, so not by 45 (FORMAT 4.45, 4.49, 23.15).
    pub kept : (answer.number ≡ Limits.goal_missed → ⊥) → (answer.number ≡ Limits.not_executable → ⊥) → left exit ≡ lent
    kept = IndexedJudgePromises.kept request index lent budget answer (left exit) meets.0

    -- Those two are of a settled request, whose first byte is its number of fluents n. They leave marks 0, 1 and 2, and 0 in every
    -- byte from n up (FORMAT 4.47, 4.48).
    pub written : (answer.number ≡ Limits.goal_missed) ⊎ (answer.number ≡ Limits.not_executable)
        → (x : Request) × (e : ℕ) × (settled format request ≡ got x e) × (get_or request 0 0 ≡ x.table.fluents) × Marked (left exit) × ((f : ℕ) → x.table.fluents ≤ f → get_or (left exit) f 0 ≡ 0)
    written = IndexedJudgePromises.written request index lent budget answer (left exit) meets.0

    -- Demand 3 (FORMAT 23.26): a verified plan is carried out in every world with the initial facts, at any budget.
    pub sound : answer.number ≡ Limits.verified → (x : Request) × (e : ℕ) × (settled format request ≡ got x e) × CarriedOut x
    sound = IndexedJudgePromises.sound request index lent budget answer (left exit) meets.0

    -- Demand 2 (FORMAT 23.26), of a settled request with as many lent bytes as a state has.
    module _ (x : Request) (e : ℕ) (lent_length : length lent ≡ format.state) (past : settled format request ≡ got x e) where
      -- Answer 1 is about the first end state that misses an entry, and is placed at the first entry that is not met there (FORMAT 11.14, 11.15).
      pub missed_there : answer.number ≡ Limits.goal_missed → MissedAt x (all_paths format x) answer.place (left exit)
      missed_there = IndexedJudgePromises.missed_there request index lent budget answer (left exit) meets.0 x e lent_length past

      -- Answer 2 is about the first path that stops, and is placed at the item that can't be run there (FORMAT 11.16).
      pub stopped_there : answer.number ≡ Limits.not_executable → StoppedAt x (all_paths format x) answer.place (left exit)
      stopped_there = IndexedJudgePromises.stopped_there request index lent budget answer (left exit) meets.0 x e lent_length past

      -- Where it is not 45.
      module _ (other : answer.number ≡ Limits.index_differs → ⊥) where
        -- The answer and the lent bytes are what the list of paths says, in its order.
        pub in_order : record { answer = answer; state = left exit } ≡ within lent budget (walked_along (missed_in x) (paths (table_step x.table) x.plan (first_state format x.table)))
        in_order = IndexedJudgePromises.in_order request index lent budget answer (left exit) meets.0 x e lent_length past other

        -- The budget is spent exactly where the walk counts more.
        pub spent_exactly : (answer.number ≡ Limits.budget_spent) ↔ (budget < count format x)
        spent_exactly = IndexedJudgePromises.spent_exactly request index lent budget answer (left exit) meets.0 x e lent_length past other

        module _ (enough : count format x ≤ budget) where
          -- Not executable, exactly where the plan fails from the least initial a-state.
          pub stuck_exactly : (answer.number ≡ Limits.not_executable) ↔ Φ̂ x.table x.plan (least x.table) failed
          stuck_exactly = IndexedJudgePromises.stuck_exactly request index lent budget answer (left exit) meets.0 x e lent_length past other enough

          -- Verified, exactly where the goals and the whether fluents are entailed.
          pub verified_exactly : (answer.number ≡ Limits.verified) ↔ Entailed x
          verified_exactly = IndexedJudgePromises.verified_exactly request index lent budget answer (left exit) meets.0 x e lent_length past other enough

          -- A goal is missed, exactly where neither is so.
          pub missed_exactly : (answer.number ≡ Limits.goal_missed) ↔ ((Φ̂ x.table x.plan (least x.table) failed → ⊥) × (Entailed x → ⊥))
          missed_exactly = IndexedJudgePromises.missed_exactly request index lent budget answer (left exit) meets.0 x e lent_length past other enough

          -- That is where every path can be run and an entry is not met in some end state (FORMAT 11.13).
          pub missed_in_an_end_state : (answer.number ≡ Limits.goal_missed) ↔ Misses x
          missed_in_an_end_state = IndexedJudgePromises.missed_in_an_end_state request index lent budget answer (left exit) meets.0 x e lent_length past other enough

    -- Input, count, place and state are what the number says (FORMAT 23.15, 23.16): the index exactly with 45, and else what the walk call names.
    pub input_exactly : IndexedInput answer
    input_exactly = IndexedJudgePromises.input_exactly request index lent budget answer (left exit) meets.0

    -- The walk's count with 0, 1 and 2, the budget with 3, and else 0, so with 45.
    pub count_exactly : WalkCount format request budget answer
    count_exactly = IndexedJudgePromises.count_exactly request index lent budget answer (left exit) meets.0

    -- A place within the index, or its length, with 45, and else that of the walk call.
    pub place_within : IndexedPlaced (length request) (length index) answer.number answer.place
    place_within = IndexedJudgePromises.place_within request index lent budget answer (left exit) meets.0

    -- The state that the walk's end concerns with 1 and 2, and else the lent bytes.
    pub state_exactly : IndexedState format request lent (record { answer = answer; state = left exit })
    state_exactly = IndexedJudgePromises.state_exactly request index lent budget answer (left exit) meets.0

    -- THE LINE (FORMAT 18.10 to 18.12, 23.13, 23.15). In every answer but 2 it is 0, so in 45.
    pub no_line : (answer.number ≡ Limits.not_executable → ⊥) → result.line ≡ 0
    no_line = IndexedJudgePromises.no_line request index lent budget answer (left exit) meets.0 result.line meets.1

    module _ (x : Request) (e : ℕ) (past : settled format request ≡ got x e) (two : answer.number ≡ Limits.not_executable) where
      -- In answer 2 it is that of the item of the plan at the place, in the state left: what asking names of an action, and 0 of a branching.
      pub line_there : (i : Item ℕ) → ItemIn x.plan i → item_place i ≡ answer.place → result.line ≡ item_line x.table i (left exit)
      line_there = IndexedJudgePromises.line_there request index lent budget answer (left exit) meets.0 result.line meets.1 x e past two

      -- At an action it is 0 where that has no executability line; else it is the place of one of its lines, none of which is short by fewer
      -- literals, and none before it by as few.
      pub line_missing : length lent ≡ format.state → (a : ℕ) → ItemIn x.plan (act answer.place a)
          → ((executability_of x.table a ≡ []) × (result.line ≡ 0)) ⊎ Nearest (left exit) (executability_of x.table a) result.line
      line_missing = IndexedJudgePromises.line_missing request index lent budget answer (left exit) meets.0 result.line meets.1 x e past two
