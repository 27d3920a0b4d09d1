-- What the exported walk call promises: each theorem is of a number and of lent bytes that meet the call's own contract. Assumes nothing.
use Prim.Native.Nat.{ℕ, ◌-◌, ◌/◌, ◌%◌, ◌≤◌, ◌<◌}
use mathlib.Core.Path.{◌≡◌, sym, ◌∙◌, ap₂}
use mathlib.Core.Bool.{true}
use mathlib.Core.List.{List}
use mathlib.Core.Logic.{◌↔◌, ◌⊎◌}
use lib.ListN.{length, get_or}
use contract.Lifetimes.{Lfts}
use borrow.Fn.Kinds.{Dens, ended_of}
use denote.Triple.Clauses.{AtExit}
use Rattle.meaning.specs.declared.Answer.{Answer}
use Rattle.meaning.specs.Limits
use Rattle.meaning.specs.Limits.{former, format}
use Rattle.meaning.specs.Literals.{among}
use Rattle.meaning.specs.Requests.{Request}
use Rattle.meaning.specs.Reading.{got}
use Rattle.meaning.specs.Refusals.{settled}
use Rattle.meaning.specs.States.{first_state}
use Rattle.meaning.specs.Walk.{table_step, missed_in}
use Rattle.meaning.specs.Judging.{Judgement, within, judge, count}
use Rattle.meaning.specs.Approximation.{failed, Φ̂, least, Entailed}
use Rattle.meaning.specs.Paths.{paths, walked_along}
use Rattle.meaning.specs.Reported.{Misses, all_paths, MissedAt, StoppedAt}
use Rattle.meaning.specs.Worlds.{CarriedOut}
use Rattle.meaning.specs.Answers.{answers}
use Rattle.meaning.specs.AnswerParts.{WalkInput, WalkCount, Placed}
use Rattle.demands.specs.Wider.{SameJudgement}
use Rattle.meaning.specs.Tests.{Has}
use Rattle.demands.proofs.ProvedCases.{judging, judged, Row, proved_cases}
use Rattle.steps.specs.AtHand.{Marked}
use Rattle.glintstring.specs.Packing.{packed, unpacked}
use Rattle.promises.proofs.UnpackingLaws.{number_back, input_back, place_back, count_back, unpacks, answer_small}
use Rattle.promises.proofs.JudgePromises
use Rattle.glintstring.proofs.exports.glintstring_judge.Kinds.{ps, r}
use Rattle.glintstring.proofs.exports.glintstring_judge.Reads.{Pre, Post}

-- WHAT THE CALL IS GIVEN, by the values of its three parameters.
module _ (κs : Lfts 2) (given : Dens κs ps) where
  abbrev pub request : List ℕ
  request = given.0.now

  abbrev pub lent : List ℕ
  lent = given.1.0.now

  abbrev pub budget : ℕ
  budget = given.1.1.0

  -- What it leaves in the lent bytes.
  abbrev pub left : AtExit (ended_of 2 ps r) κs → List ℕ
  left exit = exit.1.0.now

  -- The definition's answer.
  abbrev pub answer : Answer
  answer = (judge format request lent budget).answer

  -- THE CONTRACT, as the source has it.
  pub as_written : (n : ℕ) (exit : AtExit (ended_of 2 ps r) κs) → Post κs given n exit → (n ≡ packed answer) × (left exit ≡ (judge format request lent budget).state)
  as_written n exit meets = meets

  -- Two results that meet the contract on the same input are equal: it says everything.
  pub determined : (n n' : ℕ) (exit exit' : AtExit (ended_of 2 ps r) κs) → Post κs given n exit → Post κs given n' exit' → (n ≡ n') × (left exit ≡ left exit')
  determined n n' exit exit' meets meets' = (meets.0 ∙ sym meets'.0, meets.1 ∙ sym meets'.1)

  -- It may be called with anything.
  pub asks_nothing : Pre κs given
  asks_nothing = tt

  -- The definition's number, input, place and count are had from a result that meets the contract.
  module _ (n : ℕ) (exit : AtExit (ended_of 2 ps r) κs) (meets : Post κs given n exit) where
    pub number_is : n % 256 ≡ answer.number
    number_is = number_back answer (answer_small request lent budget) n meets.0

    pub input_is : n / 256 % 256 ≡ answer.input
    input_is = input_back answer (answer_small request lent budget) n meets.0

    pub place_is : n / 65536 % 65536 ≡ answer.place
    place_is = place_back answer (answer_small request lent budget) n meets.0

    pub count_is : n / 4294967296 ≡ answer.count
    count_is = count_back answer (answer_small request lent budget) n meets.0

    -- So the exported showing call, given the result, shows what the definition's answer names.
    pub unpacked_is : unpacked n ≡ answer
    unpacked_is = unpacks answer (answer_small request lent budget) n meets.0

    judges : record { answer = unpacked n; state = left exit } ≡ judge format request lent budget
    judges = ap₂ {C = Judgement} (λ a s. record { answer = a; state = s }) unpacked_is meets.1

    -- Demand 1 (FORMAT 11.1): it is one of the numbered answers.
    pub numbered : among (n % 256) answers ≡ true
    unfolding unpacked
    numbered = JudgePromises.numbered request lent budget (unpacked n) (left exit) judges

    -- The proved cases (FORMAT 15.12): given a row's inputs, it answers what the row says.
    pub answers_the_cases : (row : Row) → Has proved_cases row → row.call ≡ judging request lent budget → row.gives ≡ judged (record { answer = unpacked n; state = left exit })
    answers_the_cases = JudgePromises.answers_the_cases request lent budget (unpacked n) (left exit) judges

    -- The lent bytes are written by answers 1 and 2 and by no other (FORMAT 4.45, 4.49).
    pub kept : (n % 256 ≡ Limits.goal_missed → ⊥) → (n % 256 ≡ Limits.not_executable → ⊥) → left exit ≡ lent
    unfolding unpacked
    kept = JudgePromises.kept request lent budget (unpacked n) (left exit) judges

    -- Those two are of a settled request, whose first byte is its number of fluents. They leave marks 0, 1 and 2, and 0 in every
    -- byte from that number up (FORMAT 4.47, 4.48).
    pub written : (n % 256 ≡ Limits.goal_missed) ⊎ (n % 256 ≡ Limits.not_executable)
        → (x : Request) × (e : ℕ) × (settled format request ≡ got x e) × (get_or request 0 0 ≡ x.table.fluents) × Marked (left exit) × ((f : ℕ) → x.table.fluents ≤ f → get_or (left exit) f 0 ≡ 0)
    unfolding unpacked
    written = JudgePromises.written request lent budget (unpacked n) (left exit) judges

    -- Demand 3 (FORMAT 11.7 to 11.12): a verified plan is carried out in every world with the initial facts, at any budget.
    pub sound : n % 256 ≡ Limits.verified → (x : Request) × (e : ℕ) × (settled format request ≡ got x e) × CarriedOut x
    unfolding unpacked
    sound = JudgePromises.sound request lent budget (unpacked n) (left exit) judges

    -- Equal answers (FORMAT 3.19 to 3.21): whatever the former limits, lent a state of their length, answer with another number than 12.
    pub as_before : (small : List ℕ) → length small ≡ former.state → length lent ≡ format.state → ((judge former request small budget).answer.number ≡ Limits.count_outside → ⊥)
        → SameJudgement (format.state - former.state) small lent (judge former request small budget) (record { answer = unpacked n; state = left exit })
    as_before = JudgePromises.as_before request lent budget (unpacked n) (left exit) judges

    -- Demand 2 (FORMAT 11.5), of a settled request with as many lent bytes as a state has.
    module _ (x : Request) (e : ℕ) (lent_length : length lent ≡ format.state) (past : settled format request ≡ got x e) where
      -- The answer and the lent bytes are what the list of paths says, in its order.
      pub in_order : record { answer = unpacked n; state = left exit } ≡ within lent budget (walked_along (missed_in x) (paths (table_step x.table) x.plan (first_state format x.table)))
      in_order = JudgePromises.in_order request lent budget (unpacked n) (left exit) judges x e lent_length past

      -- The budget is spent exactly where the walk counts more.
      pub spent_exactly : (n % 256 ≡ Limits.budget_spent) ↔ (budget < count format x)
      unfolding unpacked
      spent_exactly = JudgePromises.spent_exactly request lent budget (unpacked n) (left exit) judges x e lent_length past

      -- Answer 1 is about the first end state that misses an entry, and is placed at the first entry that is not met there (FORMAT 11.14, 11.15).
      pub missed_there : n % 256 ≡ Limits.goal_missed → MissedAt x (all_paths format x) (n / 65536 % 65536) (left exit)
      unfolding unpacked
      missed_there = JudgePromises.missed_there request lent budget (unpacked n) (left exit) judges x e lent_length past

      -- Answer 2 is about the first path that stops, and is placed at the item that can't be run there (FORMAT 11.16).
      pub stopped_there : n % 256 ≡ Limits.not_executable → StoppedAt x (all_paths format x) (n / 65536 % 65536) (left exit)
      unfolding unpacked
      stopped_there = JudgePromises.stopped_there request lent budget (unpacked n) (left exit) judges x e lent_length past

      module _ (enough : count format x ≤ budget) where
        -- Not executable, exactly where the plan fails from the least initial a-state.
        pub stuck_exactly : (n % 256 ≡ Limits.not_executable) ↔ Φ̂ x.table x.plan (least x.table) failed
        unfolding unpacked
        stuck_exactly = JudgePromises.stuck_exactly request lent budget (unpacked n) (left exit) judges x e lent_length past enough

        -- Verified, exactly where the goals and the whether fluents are entailed.
        pub verified_exactly : (n % 256 ≡ Limits.verified) ↔ Entailed x
        unfolding unpacked
        verified_exactly = JudgePromises.verified_exactly request lent budget (unpacked n) (left exit) judges x e lent_length past enough

        -- A goal is missed, exactly where neither is so.
        pub missed_exactly : (n % 256 ≡ Limits.goal_missed) ↔ ((Φ̂ x.table x.plan (least x.table) failed → ⊥) × (Entailed x → ⊥))
        unfolding unpacked
        missed_exactly = JudgePromises.missed_exactly request lent budget (unpacked n) (left exit) judges x e lent_length past enough

        -- That is where every path can be run and an entry is not met in some end state (FORMAT 11.13).
        pub missed_in_an_end_state : (n % 256 ≡ Limits.goal_missed) ↔ Misses x
        unfolding unpacked
        missed_in_an_end_state = JudgePromises.missed_in_an_end_state request lent budget (unpacked n) (left exit) judges x e lent_length past enough

    -- Input, count and place are what the number says (FORMAT 4.26 to 4.44): neither input exactly with 0, 3 and 9.
    pub input_exactly : WalkInput (unpacked n)
    input_exactly = JudgePromises.input_exactly request lent budget (unpacked n) (left exit) judges

    -- The walk's count with 0, 1 and 2, the budget with 3, and else 0.
    pub count_exactly : WalkCount format request budget (unpacked n)
    count_exactly = JudgePromises.count_exactly request lent budget (unpacked n) (left exit) judges

    -- Place 0 with 0, 3, 9 and 10, the request's length with 11, and else that of a byte.
    pub place_within : Placed (length request) (n % 256) (n / 65536 % 65536)
    unfolding unpacked
    place_within = JudgePromises.place_within request lent budget (unpacked n) (left exit) judges
