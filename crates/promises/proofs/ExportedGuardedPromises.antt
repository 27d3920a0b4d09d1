-- What the exported guarded call promises: each theorem is of a number and of lent bytes that meet the call's own contract. Assumes nothing.
use Prim.Native.Nat.{ℕ, ◌/◌, ◌%◌, ◌≤◌, ◌<◌}
use mathlib.Core.Path.{◌≡◌, sym, ◌∙◌, ap₂}
use mathlib.Core.Bool.{true, false}
use mathlib.Core.List.{List, [], ◌∷◌, ◌++◌}
use mathlib.Core.Logic.{◌⊎◌, ◌↔◌}
use lib.ListN.{length, get_or}
use contract.Lifetimes.{Lfts}
use borrow.Fn.Kinds.{Dens, ended_of}
use denote.Triple.Clauses.{AtExit}
use Rattle.meaning.specs.declared.Answer.{Answer}
use Rattle.meaning.specs.Limits
use Rattle.meaning.specs.Limits.{format}
use Rattle.meaning.specs.Literals.{among}
use Rattle.meaning.specs.Requests.{values}
use Rattle.meaning.specs.Reading.{got}
use Rattle.meaning.specs.Refusals.{nowhere, at}
use Rattle.meaning.specs.States.{State, first_state}
use Rattle.meaning.specs.Walk.{missed_in}
use Rattle.meaning.specs.Judging
use Rattle.meaning.specs.Judging.{Judgement, within, judge}
use Rattle.meaning.specs.Guards.{GuardedRequest, settled_guarded, judge_guarded, line_guarded, count}
use Rattle.meaning.specs.Approximation.{least, Entailed}
use Rattle.meaning.specs.Paths.{arrives, Path, walked_along}
use Rattle.meaning.specs.Reported.{pair_of, Arrives, MissedAt, StoppedAt}
use Rattle.meaning.specs.GuardedReported.{met_paths, FirstStop, BrokenAt, MetIn, GuardsTrue}
use Rattle.meaning.specs.Worlds.{CarriedOutUnder}
use Rattle.meaning.specs.Answers.{guarded_answers}
use Rattle.meaning.specs.AnswerParts.{WalkInput, GuardedCount, GuardedState, with_state, Placed}
use Rattle.meaning.specs.Tests.{Has}
use Rattle.demands.proofs.ProvedCases.{guarding_line, judged_line, Row, proved_cases}
use Rattle.steps.specs.AtHand.{Marked}
use Rattle.glintstring.specs.Packing.{packed, unpacked}
use Rattle.promises.proofs.UnpackingLaws.{number_back, input_back, place_back, count_back, unpacks, guarded_answer_small}
use Rattle.promises.proofs.GuardedJudgePromises
use Rattle.glintstring.proofs.exports.glintstring_judge_guarded.Kinds.{ps, r}
use Rattle.glintstring.proofs.exports.glintstring_judge_guarded.Reads.{Pre, Post}

-- WHAT THE CALL IS GIVEN, by the values of its three parameters.
module _ (κs : Lfts 2) (given : Dens κs ps) where
  abbrev pub request : List ℕ
  request = given.0.now

  abbrev pub lent : List ℕ
  lent = given.1.0.now

  abbrev pub budget : ℕ
  budget = given.1.1.0

  -- What it leaves in the lent bytes.
  abbrev pub left : AtExit (ended_of 2 ps r) κs → List ℕ
  left exit = exit.1.0.now

  -- The definition's answer.
  abbrev pub answer : Answer
  answer = (judge_guarded format request lent budget).answer

  -- THE CONTRACT, as the source has it.
  pub as_written : (n : ℕ) (exit : AtExit (ended_of 2 ps r) κs) → Post κs given n exit → (n ≡ packed answer) × (left exit ≡ (judge_guarded format request lent budget).state)
  as_written n exit meets = meets

  -- Two results that meet the contract on the same input are equal: it says everything (FORMAT 21.21).
  pub determined : (n n' : ℕ) (exit exit' : AtExit (ended_of 2 ps r) κs) → Post κs given n exit → Post κs given n' exit' → (n ≡ n') × (left exit ≡ left exit')
  determined n n' exit exit' meets meets' = (meets.0 ∙ sym meets'.0, meets.1 ∙ sym meets'.1)

  -- It may be called with anything.
  pub asks_nothing : Pre κs given
  asks_nothing = tt

  -- The definition's number, input, place and count are had from a result that meets the contract.
  module _ (n : ℕ) (exit : AtExit (ended_of 2 ps r) κs) (meets : Post κs given n exit) where
    pub number_is : n % 256 ≡ answer.number
    number_is = number_back answer (guarded_answer_small request lent budget) n meets.0

    pub input_is : n / 256 % 256 ≡ answer.input
    input_is = input_back answer (guarded_answer_small request lent budget) n meets.0

    pub place_is : n / 65536 % 65536 ≡ answer.place
    place_is = place_back answer (guarded_answer_small request lent budget) n meets.0

    pub count_is : n / 4294967296 ≡ answer.count
    count_is = count_back answer (guarded_answer_small request lent budget) n meets.0

    -- So the exported showing call, given the result, shows what the definition's answer names.
    pub unpacked_is : unpacked n ≡ answer
    unpacked_is = unpacks answer (guarded_answer_small request lent budget) n meets.0

    judges : record { answer = unpacked n; state = left exit } ≡ judge_guarded format request lent budget
    judges = ap₂ {C = Judgement} (λ a s. record { answer = a; state = s }) unpacked_is meets.1

    -- Demand 1 (FORMAT 21.22): it is one of the numbered answers of the guarded call.
    pub numbered : among (n % 256) guarded_answers ≡ true
    unfolding unpacked
    numbered = GuardedJudgePromises.numbered request lent budget (unpacked n) (left exit) judges

    -- The proved cases (FORMAT 15.12): given a row's inputs, it answers what the row says, and the definition's line is the row's.
    pub answers_the_cases : (row : Row) → Has proved_cases row → row.call ≡ guarding_line request lent budget → row.gives ≡ judged_line (record { answer = unpacked n; state = left exit }) (line_guarded format request lent budget)
    answers_the_cases = GuardedJudgePromises.answers_the_cases request lent budget (unpacked n) (left exit) judges

    -- The lent bytes are written by answers 1, 2 and 43 and by no other (FORMAT 4.45, 4.49, 21.10).
    pub kept : among (n % 256) with_state ≡ false → left exit ≡ lent
    unfolding unpacked
    kept = GuardedJudgePromises.kept request lent budget (unpacked n) (left exit) judges

    -- Those three are of a settled guarded request, whose first byte is its number of fluents. They leave marks 0, 1 and 2, and 0 in every
    -- byte from that number up (FORMAT 4.47, 4.48).
    pub written : among (n % 256) with_state ≡ true
        → (g : GuardedRequest) × (e : ℕ) × (settled_guarded format request ≡ got g e) × (get_or request 0 0 ≡ g.request.table.fluents) × Marked (left exit) × ((f : ℕ) → g.request.table.fluents ≤ f → get_or (left exit) f 0 ≡ 0)
    unfolding unpacked
    written = GuardedJudgePromises.written request lent budget (unpacked n) (left exit) judges

    -- Demand 3 (FORMAT 21.25): a verified plan is carried out in every world with the initial facts, at any budget, and its guards hold in every world
    -- still possible, all along.
    pub sound : n % 256 ≡ Limits.verified → (g : GuardedRequest) × (e : ℕ) × (settled_guarded format request ≡ got g e) × CarriedOutUnder (values g.guards) g.request
    unfolding unpacked
    sound = GuardedJudgePromises.sound request lent budget (unpacked n) (left exit) judges

    -- No guards (FORMAT 21.17): on bytes with one byte 0 behind them, it answers as the walk call's definition answers those bytes, where that gives
    -- neither 11 nor 20; they are fewer than the limit, so it does not give 10.
    pub no_guards : (b : List ℕ) → request ≡ b ++ (0 ∷ []) → length b < format.request
        → (Judging.number format b lent budget ≡ Limits.ends_too_soon → ⊥) → (Judging.number format b lent budget ≡ Limits.bytes_after → ⊥)
        → record { answer = unpacked n; state = left exit } ≡ judge format b lent budget
    no_guards = GuardedJudgePromises.no_guards request lent budget (unpacked n) (left exit) judges

    -- Demand 2 (FORMAT 21.23), of a settled guarded request with as many lent bytes as a state has.
    module _ (g : GuardedRequest) (e : ℕ) (lent_length : length lent ≡ format.state) (past : settled_guarded format request ≡ got g e) where
      -- The answer and the lent bytes are what the list of paths says, in its order, with the states that are met on them.
      pub in_order : record { answer = unpacked n; state = left exit } ≡ within lent budget (walked_along (missed_in g.request) (met_paths format g))
      in_order = GuardedJudgePromises.in_order request lent budget (unpacked n) (left exit) judges g e lent_length past

      -- The budget is spent exactly where the walk counts more.
      pub spent_exactly : (n % 256 ≡ Limits.budget_spent) ↔ (budget < count format g)
      unfolding unpacked
      spent_exactly = GuardedJudgePromises.spent_exactly request lent budget (unpacked n) (left exit) judges g e lent_length past

      -- Answer 43 is about the first path that stops, and is placed at the first guard that the state left lacks (FORMAT 21.10, 21.24).
      pub broken_there : n % 256 ≡ Limits.guard_broken → BrokenAt g.guards (met_paths format g) (n / 65536 % 65536) (left exit)
      unfolding unpacked
      broken_there = GuardedJudgePromises.broken_there request lent budget (unpacked n) (left exit) judges g e lent_length past

      -- That state is the first one, or stands for an a-state that is met.
      pub broken_where_met : n % 256 ≡ Limits.guard_broken
          → (left exit ≡ first_state format g.request.table) ⊎ MetIn g.request.table g.request.plan (least g.request.table) (pair_of (left exit))
      unfolding unpacked
      broken_where_met = GuardedJudgePromises.broken_where_met request lent budget (unpacked n) (left exit) judges g e lent_length past

      -- Answer 1 is about the first end state that misses an entry, and is placed at the first entry that is not met there (FORMAT 11.14, 11.15, 21.14).
      pub missed_there : n % 256 ≡ Limits.goal_missed → MissedAt g.request (met_paths format g) (n / 65536 % 65536) (left exit)
      unfolding unpacked
      missed_there = GuardedJudgePromises.missed_there request lent budget (unpacked n) (left exit) judges g e lent_length past

      -- Answer 2 is about the first path that stops, and is placed at the item that can't be run there (FORMAT 11.16, 21.14).
      pub stopped_there : n % 256 ≡ Limits.not_executable → StoppedAt g.request (met_paths format g) (n / 65536 % 65536) (left exit)
      unfolding unpacked
      stopped_there = GuardedJudgePromises.stopped_there request lent budget (unpacked n) (left exit) judges g e lent_length past

      module _ (enough : count format g ≤ budget) where
        -- Guard broken, exactly where the first path that stops, stops in a state that lacks one.
        pub broken_exactly : (n % 256 ≡ Limits.guard_broken) ↔ ((p : ℕ) × (u : State) × FirstStop (met_paths format g) Limits.guard_broken p u)
        unfolding unpacked
        broken_exactly = GuardedJudgePromises.broken_exactly request lent budget (unpacked n) (left exit) judges g e lent_length past enough

        -- Not executable, exactly where it stops at an item that can't be run.
        pub stuck_exactly : (n % 256 ≡ Limits.not_executable) ↔ ((p : ℕ) × (u : State) × FirstStop (met_paths format g) Limits.not_executable p u)
        unfolding unpacked
        stuck_exactly = GuardedJudgePromises.stuck_exactly request lent budget (unpacked n) (left exit) judges g e lent_length past enough

        -- Verified, exactly where the goals and the whether fluents are entailed and each guard is true in every a-state that is met.
        pub verified_exactly : (n % 256 ≡ Limits.verified) ↔ (Entailed g.request × GuardsTrue g.request (values g.guards))
        unfolding unpacked
        verified_exactly = GuardedJudgePromises.verified_exactly request lent budget (unpacked n) (left exit) judges g e lent_length past enough

        -- A goal is missed, exactly where none of the three is so.
        pub missed_exactly : (n % 256 ≡ Limits.goal_missed)
            ↔ (((p : ℕ) (u : State) → FirstStop (met_paths format g) Limits.guard_broken p u → ⊥)
            × ((p : ℕ) (u : State) → FirstStop (met_paths format g) Limits.not_executable p u → ⊥)
            × (Entailed g.request × GuardsTrue g.request (values g.guards) → ⊥))
        unfolding unpacked
        missed_exactly = GuardedJudgePromises.missed_exactly request lent budget (unpacked n) (left exit) judges g e lent_length past enough

        -- By the list of paths: verified, exactly where each arrives and no entry is missed there.
        pub verified_on_paths : (n % 256 ≡ Limits.verified)
            ↔ ((x : Path State) → Has (met_paths format g) x → (u : State) × (x.ending ≡ arrives u) × (missed_in g.request u ≡ nowhere))
        unfolding unpacked
        verified_on_paths = GuardedJudgePromises.verified_on_paths request lent budget (unpacked n) (left exit) judges g e lent_length past enough

        -- A goal is missed, exactly where each arrives and an entry is missed on one.
        pub missed_on_paths : (n % 256 ≡ Limits.goal_missed)
            ↔ (((x : Path State) → Has (met_paths format g) x → Arrives x)
            × ((x : Path State) × (u : State) × (p : ℕ) × Has (met_paths format g) x × (x.ending ≡ arrives u) × (missed_in g.request u ≡ at p)))
        unfolding unpacked
        missed_on_paths = GuardedJudgePromises.missed_on_paths request lent budget (unpacked n) (left exit) judges g e lent_length past enough

    -- Input, count, place and state are what the number says (FORMAT 21.10, 21.16): neither input exactly with 0, 3 and 9.
    pub input_exactly : WalkInput (unpacked n)
    input_exactly = GuardedJudgePromises.input_exactly request lent budget (unpacked n) (left exit) judges

    -- The walk's count with 0, 1, 2 and 43, the budget with 3, and else 0.
    pub count_exactly : GuardedCount format request budget (unpacked n)
    count_exactly = GuardedJudgePromises.count_exactly request lent budget (unpacked n) (left exit) judges

    -- Place 0 with 0, 3, 9 and 10, the request's length with 11, and else that of a byte.
    pub place_within : Placed (length request) (n % 256) (n / 65536 % 65536)
    unfolding unpacked
    place_within = GuardedJudgePromises.place_within request lent budget (unpacked n) (left exit) judges

    -- The state that the walk's end concerns with 1, 2 and 43, and else the lent bytes.
    pub state_exactly : GuardedState format request lent (record { answer = unpacked n; state = left exit })
    state_exactly = GuardedJudgePromises.state_exactly request lent budget (unpacked n) (left exit) judges
