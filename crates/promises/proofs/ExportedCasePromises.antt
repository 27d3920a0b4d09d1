-- What the exported call by cases promises: each theorem is of a number and of lent bytes that meet the call's own contract. Assumes nothing.
use Prim.Native.Nat.{ℕ, ◌/◌, ◌%◌, ◌≤◌, ◌<◌}
use mathlib.Core.Path.{◌≡◌, sym, ◌∙◌, ap₂}
use mathlib.Core.Bool.{true, false}
use mathlib.Core.List.{List}
use mathlib.Core.Logic.{◌⊎◌, ◌↔◌}
use lib.ListN.{length, get_or}
use contract.Lifetimes.{Lfts}
use borrow.Fn.Kinds.{Dens, ended_of}
use denote.Triple.Clauses.{AtExit}
use Rattle.meaning.specs.declared.Answer.{Answer}
use Rattle.meaning.specs.Limits
use Rattle.meaning.specs.Limits.{format}
use Rattle.meaning.specs.Literals.{among}
use Rattle.meaning.specs.Requests.{Request}
use Rattle.meaning.specs.Reading.{got}
use Rattle.meaning.specs.Refusals.{settled}
use Rattle.meaning.specs.Walk.{missed_in}
use Rattle.meaning.specs.Judging
use Rattle.meaning.specs.Judging.{Judgement, within, judge}
use Rattle.meaning.specs.ByCases.{judge_by_cases, line_by_cases, count}
use Rattle.meaning.specs.Approximation.{failed, least}
use Rattle.meaning.specs.CaseApproximation.{Φ̂₁, Entailed₁}
use Rattle.meaning.specs.Paths.{walked_along}
use Rattle.meaning.specs.CaseReported.{case_paths, FirstTooMany, MissesAt, SticksAt, TooManyAt}
use Rattle.meaning.specs.Worlds.{CarriedOut}
use Rattle.meaning.specs.Answers.{cases_answers}
use Rattle.meaning.specs.AnswerParts.{WalkInput, CasesCount, CasesState, stated, Placed}
use Rattle.meaning.specs.Tests.{Has}
use Rattle.demands.proofs.ProvedCases.{by_cases_line, judged_line, Row, proved_cases}
use Rattle.steps.specs.AtHand.{Marked}
use Rattle.glintstring.specs.Packing.{packed, unpacked}
use Rattle.promises.proofs.UnpackingLaws.{number_back, input_back, place_back, count_back, unpacks, cases_answer_small}
use Rattle.promises.proofs.CaseJudgePromises
use Rattle.glintstring.proofs.exports.glintstring_judge_by_cases.Kinds.{ps, r}
use Rattle.glintstring.proofs.exports.glintstring_judge_by_cases.Reads.{Pre, Post}

-- WHAT THE CALL IS GIVEN, by the values of its three parameters.
module _ (κs : Lfts 2) (given : Dens κs ps) where
  abbrev pub request : List ℕ
  request = given.0.now

  abbrev pub lent : List ℕ
  lent = given.1.0.now

  abbrev pub budget : ℕ
  budget = given.1.1.0

  -- What it leaves in the lent bytes.
  abbrev pub left : AtExit (ended_of 2 ps r) κs → List ℕ
  left exit = exit.1.0.now

  -- The definition's answer.
  abbrev pub answer : Answer
  answer = (judge_by_cases format request lent budget).answer

  -- THE CONTRACT, as the source has it.
  pub as_written : (n : ℕ) (exit : AtExit (ended_of 2 ps r) κs) → Post κs given n exit → (n ≡ packed answer) × (left exit ≡ (judge_by_cases format request lent budget).state)
  as_written n exit meets = meets

  -- Two results that meet the contract on the same input are equal: it says everything (FORMAT 22.17).
  pub determined : (n n' : ℕ) (exit exit' : AtExit (ended_of 2 ps r) κs) → Post κs given n exit → Post κs given n' exit' → (n ≡ n') × (left exit ≡ left exit')
  determined n n' exit exit' meets meets' = (meets.0 ∙ sym meets'.0, meets.1 ∙ sym meets'.1)

  -- It may be called with anything.
  pub asks_nothing : Pre κs given
  asks_nothing = tt

  -- The definition's number, input, place and count are had from a result that meets the contract.
  module _ (n : ℕ) (exit : AtExit (ended_of 2 ps r) κs) (meets : Post κs given n exit) where
    pub number_is : n % 256 ≡ answer.number
    number_is = number_back answer (cases_answer_small request lent budget) n meets.0

    pub input_is : n / 256 % 256 ≡ answer.input
    input_is = input_back answer (cases_answer_small request lent budget) n meets.0

    pub place_is : n / 65536 % 65536 ≡ answer.place
    place_is = place_back answer (cases_answer_small request lent budget) n meets.0

    pub count_is : n / 4294967296 ≡ answer.count
    count_is = count_back answer (cases_answer_small request lent budget) n meets.0

    -- So the exported showing call, given the result, shows what the definition's answer names.
    pub unpacked_is : unpacked n ≡ answer
    unpacked_is = unpacks answer (cases_answer_small request lent budget) n meets.0

    judges : record { answer = unpacked n; state = left exit } ≡ judge_by_cases format request lent budget
    judges = ap₂ {C = Judgement} (λ a s. record { answer = a; state = s }) unpacked_is meets.1

    -- Demand 1 (FORMAT 22.17): it is one of the numbered answers of the call by cases.
    pub numbered : among (n % 256) cases_answers ≡ true
    unfolding unpacked
    numbered = CaseJudgePromises.numbered request lent budget (unpacked n) (left exit) judges

    -- The proved cases (FORMAT 15.12): given a row's inputs, it answers what the row says, and the definition's line is the row's.
    pub answers_the_cases : (row : Row) → Has proved_cases row → row.call ≡ by_cases_line request lent budget → row.gives ≡ judged_line (record { answer = unpacked n; state = left exit }) (line_by_cases format request lent budget)
    answers_the_cases = CaseJudgePromises.answers_the_cases request lent budget (unpacked n) (left exit) judges

    -- The lent bytes are written by answers 1 and 2 and by no other, so not by 44 (FORMAT 4.45, 4.49, 22.11).
    pub kept : among (n % 256) stated ≡ false → left exit ≡ lent
    unfolding unpacked
    kept = CaseJudgePromises.kept request lent budget (unpacked n) (left exit) judges

    -- Those two are of a settled request, whose first byte is its number of fluents n. They leave marks 0, 1 and 2, and 0 in every
    -- byte from n up (FORMAT 4.47, 4.48).
    pub written : among (n % 256) stated ≡ true
        → (x : Request) × (e : ℕ) × (settled format request ≡ got x e) × (get_or request 0 0 ≡ x.table.fluents) × Marked (left exit) × ((f : ℕ) → x.table.fluents ≤ f → get_or (left exit) f 0 ≡ 0)
    unfolding unpacked
    written = CaseJudgePromises.written request lent budget (unpacked n) (left exit) judges

    -- Demand 3 (FORMAT 22.20): a verified plan is carried out in every world with the initial facts, at any budget.
    pub sound : n % 256 ≡ Limits.verified → (x : Request) × (e : ℕ) × (settled format request ≡ got x e) × CarriedOut x
    unfolding unpacked
    sound = CaseJudgePromises.sound request lent budget (unpacked n) (left exit) judges

    -- More is verified (FORMAT 22.21): where the walk call's definition gives 0, it gives 0 with a count no larger, or 44, with the same budget.
    pub verifies_more : Judging.number format request lent budget ≡ Limits.verified
        → ((n % 256 ≡ Limits.verified) × (n / 4294967296 ≤ (judge format request lent budget).answer.count)) ⊎ (n % 256 ≡ Limits.too_many_cases)
    unfolding unpacked
    verifies_more = CaseJudgePromises.verifies_more request lent budget (unpacked n) (left exit) judges

    -- Demand 2 (FORMAT 22.18, 22.19), of a settled request with as many lent bytes as a state has.
    module _ (x : Request) (e : ℕ) (lent_length : length lent ≡ format.state) (past : settled format request ≡ got x e) where
      -- The answer and the lent bytes are what the list of paths says, in its order.
      pub in_order : record { answer = unpacked n; state = left exit } ≡ within lent budget (walked_along (missed_in x) (case_paths format x))
      in_order = CaseJudgePromises.in_order request lent budget (unpacked n) (left exit) judges x e lent_length past

      -- The budget is spent exactly where the walk counts more.
      pub spent_exactly : (n % 256 ≡ Limits.budget_spent) ↔ (budget < count format x)
      unfolding unpacked
      spent_exactly = CaseJudgePromises.spent_exactly request lent budget (unpacked n) (left exit) judges x e lent_length past

      -- Too many cases, exactly where the count is within the budget and the first path that stops, stops so (FORMAT 22.12, 22.19).
      pub many_exactly : (n % 256 ≡ Limits.too_many_cases) ↔ ((count format x ≤ budget) × ((p : ℕ) × FirstTooMany (case_paths format x) p))
      unfolding unpacked
      many_exactly = CaseJudgePromises.many_exactly request lent budget (unpacked n) (left exit) judges x e lent_length past

      -- Answer 44 is placed at an action that is met in a state in which it has more than 12 open fluents, and leaves the lent bytes (FORMAT 22.9, 22.11).
      pub many_there : n % 256 ≡ Limits.too_many_cases → TooManyAt format x (n / 65536 % 65536) × (left exit ≡ lent)
      unfolding unpacked
      many_there = CaseJudgePromises.many_there request lent budget (unpacked n) (left exit) judges x e lent_length past

      -- Answer 1 is about the first end state that misses an entry, and is placed at the first entry that is not met there (FORMAT 11.14, 11.15, 22.14).
      pub missed_there : n % 256 ≡ Limits.goal_missed → MissesAt format x (n / 65536 % 65536) (left exit)
      unfolding unpacked
      missed_there = CaseJudgePromises.missed_there request lent budget (unpacked n) (left exit) judges x e lent_length past

      -- Answer 2 is about the first path that stops, and is placed at the item that can't be run there: an action can't by cases (FORMAT 22.3, 22.14).
      pub stopped_there : n % 256 ≡ Limits.not_executable → SticksAt format x (n / 65536 % 65536) (left exit)
      unfolding unpacked
      stopped_there = CaseJudgePromises.stopped_there request lent budget (unpacked n) (left exit) judges x e lent_length past

      -- Within the budget, where it is not 44.
      module _ (enough : count format x ≤ budget) (few : n % 256 ≡ Limits.too_many_cases → ⊥) where
        -- Not executable, exactly where the extended 1-transition function leads from the least initial a-state to failure.
        pub stuck_exactly : (n % 256 ≡ Limits.not_executable) ↔ Φ̂₁ x.table x.plan (least x.table) failed
        unfolding unpacked
        stuck_exactly = CaseJudgePromises.stuck_exactly request lent budget (unpacked n) (left exit) judges x e lent_length past enough few

        -- Verified, exactly where the 1-approximation entails the goals and the whether entries.
        pub verified_exactly : (n % 256 ≡ Limits.verified) ↔ Entailed₁ x
        unfolding unpacked
        verified_exactly = CaseJudgePromises.verified_exactly request lent budget (unpacked n) (left exit) judges x e lent_length past enough few

        -- A goal is missed, exactly where neither is so.
        pub missed_exactly : (n % 256 ≡ Limits.goal_missed) ↔ ((Φ̂₁ x.table x.plan (least x.table) failed → ⊥) × (Entailed₁ x → ⊥))
        unfolding unpacked
        missed_exactly = CaseJudgePromises.missed_exactly request lent budget (unpacked n) (left exit) judges x e lent_length past enough few

    -- Input, count, place and state are what the number says (FORMAT 22.11, 22.14): neither input exactly with 0, 3 and 9.
    pub input_exactly : WalkInput (unpacked n)
    input_exactly = CaseJudgePromises.input_exactly request lent budget (unpacked n) (left exit) judges

    -- The walk's count with 0, 1 and 2, the budget with 3, and else 0, so with 44.
    pub count_exactly : CasesCount format request budget (unpacked n)
    count_exactly = CaseJudgePromises.count_exactly request lent budget (unpacked n) (left exit) judges

    -- Place 0 with 0, 3, 9 and 10, the request's length with 11, and else that of a byte.
    pub place_within : Placed (length request) (n % 256) (n / 65536 % 65536)
    unfolding unpacked
    place_within = CaseJudgePromises.place_within request lent budget (unpacked n) (left exit) judges

    -- The state that the walk's end concerns with 1 and 2, and else the lent bytes.
    pub state_exactly : CasesState format request lent (record { answer = unpacked n; state = left exit })
    state_exactly = CaseJudgePromises.state_exactly request lent budget (unpacked n) (left exit) judges
