-- What the exported indexed call promises: each theorem is of a number and of lent bytes that meet the call's own contract, for a request of bytes, as every lent one is.
-- Assumes nothing.
use Prim.Native.Nat.{ℕ, ◌/◌, ◌%◌, ◌≤◌, ◌<◌}
use mathlib.Core.Path.{◌≡◌, sym, ◌∙◌, ap₂, subst}
use mathlib.Core.Bool.{true}
use mathlib.Core.List.{List}
use mathlib.Core.Logic.{◌⊎◌, ◌↔◌}
use lib.ListN.{length, get_or, take}
use contract.Lifetimes.{Lfts}
use borrow.Fn.Kinds.{Dens, ended_of}
use denote.Triple.Clauses.{AtExit}
use Rattle.meaning.specs.declared.Answer.{Answer}
use Rattle.meaning.specs.Limits
use Rattle.meaning.specs.Limits.{format, most_index}
use Rattle.meaning.specs.Literals.{among}
use Rattle.meaning.specs.Requests.{Request}
use Rattle.meaning.specs.Reading.{got, fault}
use Rattle.meaning.specs.Refusals.{settled}
use Rattle.meaning.specs.States.{first_state}
use Rattle.meaning.specs.Walk.{table_step, missed_in}
use Rattle.meaning.specs.Judging.{Judgement, within, judge, count}
use Rattle.meaning.specs.Indexes.{index_of, judge_indexed, line_indexed, Differs, AsWalked}
use Rattle.meaning.specs.Approximation.{failed, Φ̂, least, Entailed}
use Rattle.meaning.specs.Paths.{paths, walked_along}
use Rattle.meaning.specs.Reported.{Misses, all_paths, MissedAt, StoppedAt}
use Rattle.meaning.specs.Worlds.{CarriedOut}
use Rattle.meaning.specs.Layouts.{Bytes}
use Rattle.meaning.specs.Answers.{indexed_answers}
use Rattle.meaning.specs.AnswerParts.{WalkCount, IndexedInput, IndexedPlaced, IndexedState}
use Rattle.meaning.specs.Tests.{Has}
use Rattle.meaning.proofs.IndexAnswers.{right_index}
use Rattle.demands.proofs.Demands
use Rattle.demands.proofs.ProvedCases.{indexed_line, judged_line, Row, proved_cases}
use Rattle.steps.specs.AtHand.{Marked}
use Rattle.glintstring.specs.Packing.{packed, unpacked}
use Rattle.promises.proofs.UnpackingLaws.{number_back, input_back, place_back, count_back, unpacks, indexed_answer_small}
use Rattle.promises.proofs.ExportedIndexPromises
use Rattle.promises.proofs.IndexedJudgePromises
use Rattle.glintstring.proofs.exports.glintstring_index.Kinds as index-kinds
use Rattle.glintstring.proofs.exports.glintstring_index.Reads as index_Reads
use Rattle.glintstring.proofs.exports.glintstring_judge_indexed.Kinds.{ps, r}
use Rattle.glintstring.proofs.exports.glintstring_judge_indexed.Reads.{Pre, Post}

-- WHAT THE CALL IS GIVEN, by the values of its four parameters.
module _ (κs : Lfts 3) (given : Dens κs ps) where
  abbrev pub request : List ℕ
  request = given.0.now

  abbrev pub index : List ℕ
  index = given.1.0.now

  abbrev pub lent : List ℕ
  lent = given.1.1.0.now

  abbrev pub budget : ℕ
  budget = given.1.1.1.0

  -- What it leaves in the lent bytes.
  abbrev pub left : AtExit (ended_of 3 ps r) κs → List ℕ
  left exit = exit.1.1.0.now

  -- The definition's answer.
  abbrev pub answer : Answer
  answer = (judge_indexed format request index lent budget).answer

  -- THE CONTRACT, as the source has it.
  pub as_written : (n : ℕ) (exit : AtExit (ended_of 3 ps r) κs) → Post κs given n exit → (n ≡ packed answer) × (left exit ≡ (judge_indexed format request index lent budget).state)
  as_written n exit meets = meets

  -- Two results that meet the contract on the same input are equal: it says everything (FORMAT 23.21).
  pub determined : (n n' : ℕ) (exit exit' : AtExit (ended_of 3 ps r) κs) → Post κs given n exit → Post κs given n' exit' → (n ≡ n') × (left exit ≡ left exit')
  determined n n' exit exit' meets meets' = (meets.0 ∙ sym meets'.0, meets.1 ∙ sym meets'.1)

  -- It may be called with anything.
  pub asks_nothing : Pre κs given
  asks_nothing = tt

  -- The definition's number, input, place and count are had from a result that meets the contract.
  module _ (n : ℕ) (exit : AtExit (ended_of 3 ps r) κs) (meets : Post κs given n exit) (bytes : Bytes request) where
    pub number_is : n % 256 ≡ answer.number
    number_is = number_back answer (indexed_answer_small request bytes index lent budget) n meets.0

    pub input_is : n / 256 % 256 ≡ answer.input
    input_is = input_back answer (indexed_answer_small request bytes index lent budget) n meets.0

    pub place_is : n / 65536 % 65536 ≡ answer.place
    place_is = place_back answer (indexed_answer_small request bytes index lent budget) n meets.0

    pub count_is : n / 4294967296 ≡ answer.count
    count_is = count_back answer (indexed_answer_small request bytes index lent budget) n meets.0

    -- So the exported showing call, given the result, shows what the definition's answer names.
    pub unpacked_is : unpacked n ≡ answer
    unpacked_is = unpacks answer (indexed_answer_small request bytes index lent budget) n meets.0

    judges : record { answer = unpacked n; state = left exit } ≡ judge_indexed format request index lent budget
    judges = ap₂ {C = Judgement} (λ a s. record { answer = a; state = s }) unpacked_is meets.1

    -- What the walk call gives: its answer and its lent bytes.
    abbrev pub Walks : Type 0
    Walks = record { answer = unpacked n; state = left exit } ≡ judge format request lent budget

    walks : AsWalked format request index lent budget → Walks
    walks same = judges ∙ same.judges

    -- Demand 1 (FORMAT 23.22): it is one of the numbered answers of the indexed call.
    pub numbered : among (n % 256) indexed_answers ≡ true
    unfolding unpacked
    numbered = IndexedJudgePromises.numbered request index lent budget (unpacked n) (left exit) judges

    -- The proved cases (FORMAT 15.12): given a row's inputs, it answers what the row says, and the definition's line is the row's.
    pub answers_the_cases : (row : Row) → Has proved_cases row → row.call ≡ indexed_line request index lent budget
        → row.gives ≡ judged_line (record { answer = unpacked n; state = left exit }) (line_indexed format request index lent budget)
    answers_the_cases = IndexedJudgePromises.answers_the_cases request index lent budget (unpacked n) (left exit) judges

    -- 45 exactly where the lent state has 128 bytes, the request is settled, and the index is another than that of the request (FORMAT 23.25).
    pub differs_exactly : (n % 256 ≡ Limits.index_differs) ↔ ((length lent ≡ format.state) × ((x : Request) × (e : ℕ) × (settled format request ≡ got x e) × (index_of x.table ≡ index → ⊥)))
    unfolding unpacked
    differs_exactly = IndexedJudgePromises.differs_exactly request index lent budget (unpacked n) (left exit) judges

    -- It is then placed where the two first differ, names the index, and has count 0, and the lent bytes are as they were (FORMAT 23.14, 23.15).
    pub differs_there : n % 256 ≡ Limits.index_differs
        → (length lent ≡ format.state) × ((x : Request) × (e : ℕ) × (settled format request ≡ got x e) × Differs (index_of x.table) index (n / 65536 % 65536))
        × (n / 256 % 256 ≡ Limits.the_index) × (n / 4294967296 ≡ 0) × (left exit ≡ lent)
    unfolding unpacked
    differs_there = IndexedJudgePromises.differs_there request index lent budget (unpacked n) (left exit) judges

    -- The place is at most 1,276 (FORMAT 23.5, 23.20).
    pub differs_limited : n % 256 ≡ Limits.index_differs → n / 65536 % 65536 ≤ most_index
    unfolding unpacked
    differs_limited = IndexedJudgePromises.differs_limited request index lent budget (unpacked n) (left exit) judges bytes

    -- With every other number it is what the walk call gives (FORMAT 23.26).
    pub as_walked : (n % 256 ≡ Limits.index_differs → ⊥) → Walks
    unfolding unpacked
    as_walked other = walks (IndexedJudgePromises.otherwise request index lent budget (unpacked n) (left exit) judges other)

    -- So it is with the index of the request, and with any index where the request is refused (FORMAT 23.11, 23.13),
    pub right_index_walks : (x : Request) (e : ℕ) → settled format request ≡ got x e → index_of x.table ≡ index → Walks
    right_index_walks x e past right = walks (right_index format request index lent budget x e past right)

    pub refused_walks : (k p : ℕ) → settled format request ≡ fault k p → Walks
    refused_walks k p past = walks (Demands.refused_as_walked format request k p past index lent budget)

    -- and with what the index call wrote of the same request, where a result of that call meets its contract (FORMAT 23.24).
    pub built_then_judged : (κs' : Lfts 2) (given' : Dens κs' index-kinds.ps) (n' : ℕ) (exit' : AtExit (ended_of 2 index-kinds.ps index-kinds.r) κs') → index_Reads.Post κs' given' n' exit'
        → ExportedIndexPromises.request κs' given' ≡ request → n' % 256 ≡ Limits.verified → index ≡ take (n' / 4294967296) (ExportedIndexPromises.left κs' given' exit') → Walks
    unfolding unpacked
    built_then_judged κs' given' n' exit' meets' same zero is =
        walks (subst (λ (s : List ℕ). AsWalked format s index lent budget) same
        (IndexedJudgePromises.built_index (ExportedIndexPromises.request κs' given') index (ExportedIndexPromises.room κs' given') lent budget (unpacked n') (ExportedIndexPromises.left κs' given' exit')
        (ExportedIndexPromises.builds κs' given' n' exit' meets') zero is))

    -- The lent bytes are written by answers 1 and 2 and by no other, so not by 45 (FORMAT 4.45, 4.49, 23.15).
    pub kept : (n % 256 ≡ Limits.goal_missed → ⊥) → (n % 256 ≡ Limits.not_executable → ⊥) → left exit ≡ lent
    unfolding unpacked
    kept = IndexedJudgePromises.kept request index lent budget (unpacked n) (left exit) judges

    -- Those two are of a settled request, whose first byte is its number of fluents n. They leave marks 0, 1 and 2, and 0 in every
    -- byte from n up (FORMAT 4.47, 4.48).
    pub written : (n % 256 ≡ Limits.goal_missed) ⊎ (n % 256 ≡ Limits.not_executable)
        → (x : Request) × (e : ℕ) × (settled format request ≡ got x e) × (get_or request 0 0 ≡ x.table.fluents) × Marked (left exit) × ((f : ℕ) → x.table.fluents ≤ f → get_or (left exit) f 0 ≡ 0)
    unfolding unpacked
    written = IndexedJudgePromises.written request index lent budget (unpacked n) (left exit) judges

    -- Demand 3 (FORMAT 23.26): a verified plan is carried out in every world with the initial facts, at any budget.
    pub sound : n % 256 ≡ Limits.verified → (x : Request) × (e : ℕ) × (settled format request ≡ got x e) × CarriedOut x
    unfolding unpacked
    sound = IndexedJudgePromises.sound request index lent budget (unpacked n) (left exit) judges

    -- Demand 2 (FORMAT 23.26), of a settled request with as many lent bytes as a state has.
    module _ (x : Request) (e : ℕ) (lent_length : length lent ≡ format.state) (past : settled format request ≡ got x e) where
      -- Answer 1 is about the first end state that misses an entry, and is placed at the first entry that is not met there (FORMAT 11.14, 11.15).
      pub missed_there : n % 256 ≡ Limits.goal_missed → MissedAt x (all_paths format x) (n / 65536 % 65536) (left exit)
      unfolding unpacked
      missed_there = IndexedJudgePromises.missed_there request index lent budget (unpacked n) (left exit) judges x e lent_length past

      -- Answer 2 is about the first path that stops, and is placed at the item that can't be run there (FORMAT 11.16).
      pub stopped_there : n % 256 ≡ Limits.not_executable → StoppedAt x (all_paths format x) (n / 65536 % 65536) (left exit)
      unfolding unpacked
      stopped_there = IndexedJudgePromises.stopped_there request index lent budget (unpacked n) (left exit) judges x e lent_length past

      -- Where it is not 45.
      module _ (other : n % 256 ≡ Limits.index_differs → ⊥) where
        -- The answer and the lent bytes are what the list of paths says, in its order.
        pub in_order : record { answer = unpacked n; state = left exit } ≡ within lent budget (walked_along (missed_in x) (paths (table_step x.table) x.plan (first_state format x.table)))
        unfolding unpacked
        in_order = IndexedJudgePromises.in_order request index lent budget (unpacked n) (left exit) judges x e lent_length past other

        -- The budget is spent exactly where the walk counts more.
        pub spent_exactly : (n % 256 ≡ Limits.budget_spent) ↔ (budget < count format x)
        unfolding unpacked
        spent_exactly = IndexedJudgePromises.spent_exactly request index lent budget (unpacked n) (left exit) judges x e lent_length past other

        module _ (enough : count format x ≤ budget) where
          -- Not executable, exactly where the plan fails from the least initial a-state.
          pub stuck_exactly : (n % 256 ≡ Limits.not_executable) ↔ Φ̂ x.table x.plan (least x.table) failed
          unfolding unpacked
          stuck_exactly = IndexedJudgePromises.stuck_exactly request index lent budget (unpacked n) (left exit) judges x e lent_length past other enough

          -- Verified, exactly where the goals and the whether fluents are entailed.
          pub verified_exactly : (n % 256 ≡ Limits.verified) ↔ Entailed x
          unfolding unpacked
          verified_exactly = IndexedJudgePromises.verified_exactly request index lent budget (unpacked n) (left exit) judges x e lent_length past other enough

          -- A goal is missed, exactly where neither is so.
          pub missed_exactly : (n % 256 ≡ Limits.goal_missed) ↔ ((Φ̂ x.table x.plan (least x.table) failed → ⊥) × (Entailed x → ⊥))
          unfolding unpacked
          missed_exactly = IndexedJudgePromises.missed_exactly request index lent budget (unpacked n) (left exit) judges x e lent_length past other enough

          -- That is where every path can be run and an entry is not met in some end state (FORMAT 11.13).
          pub missed_in_an_end_state : (n % 256 ≡ Limits.goal_missed) ↔ Misses x
          unfolding unpacked
          missed_in_an_end_state = IndexedJudgePromises.missed_in_an_end_state request index lent budget (unpacked n) (left exit) judges x e lent_length past other enough

    -- Input, count, place and state are what the number says (FORMAT 23.15, 23.16): the index exactly with 45, and else what the walk call names.
    pub input_exactly : IndexedInput (unpacked n)
    input_exactly = IndexedJudgePromises.input_exactly request index lent budget (unpacked n) (left exit) judges

    -- The walk's count with 0, 1 and 2, the budget with 3, and else 0, so with 45.
    pub count_exactly : WalkCount format request budget (unpacked n)
    count_exactly = IndexedJudgePromises.count_exactly request index lent budget (unpacked n) (left exit) judges

    -- A place within the index, or its length, with 45, and else that of the walk call.
    pub place_within : IndexedPlaced (length request) (length index) (n % 256) (n / 65536 % 65536)
    unfolding unpacked
    place_within = IndexedJudgePromises.place_within request index lent budget (unpacked n) (left exit) judges

    -- The state that the walk's end concerns with 1 and 2, and else the lent bytes.
    pub state_exactly : IndexedState format request lent (record { answer = unpacked n; state = left exit })
    state_exactly = IndexedJudgePromises.state_exactly request index lent budget (unpacked n) (left exit) judges
