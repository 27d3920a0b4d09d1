-- What the exported derive call promises: each theorem is of a number and of a room that meet the call's own contract. Assumes nothing.
use Prim.Native.Nat.{ℕ, ◌/◌, ◌%◌, ◌<◌}
use mathlib.Core.Path.{◌≡◌, sym, ◌∙◌, ap₂}
use mathlib.Core.Bool.{true}
use mathlib.Core.List.{List, ◌++◌}
use mathlib.Core.Logic.{◌↔◌}
use lib.ListN.{length, take, drop}
use contract.Lifetimes.{Lfts}
use borrow.Fn.Kinds.{Dens, ended_of}
use denote.Triple.Clauses.{AtExit}
use Rattle.meaning.specs.declared.Answer.{Answer}
use Rattle.meaning.specs.declared.Layout.TheVariants.{Plain}
use Rattle.meaning.specs.Limits
use Rattle.meaning.specs.Limits.{format}
use Rattle.meaning.specs.Literals.{among}
use Rattle.meaning.specs.Requests.{act, Request}
use Rattle.meaning.specs.Reading.{fault}
use Rattle.meaning.specs.Refusals.{settled}
use Rattle.meaning.specs.States.{State}
use Rattle.meaning.specs.Judging.{judge}
use Rattle.meaning.specs.Derivations.{check}
use Rattle.meaning.specs.Indexes.{Built}
use Rattle.meaning.specs.Schemes.{derivation_of, too_wide, derive}
use Rattle.meaning.specs.DeriveReported.{AsksGoals, AsksWhether, unverified, WalkVerifies, WalkMeets, TooWideAt, Derives, bytes_of, SizesFit, BytesExceed}
use Rattle.meaning.specs.Layouts.{InClosingLayout}
use Rattle.meaning.specs.Answers.{refusals, derive_answers}
use Rattle.meaning.specs.AnswerParts.{DeriveInput, DerivePlaced, DeriveCount}
use Rattle.meaning.specs.Tests.{Has}
use Rattle.demands.proofs.ProvedCases.{writing, built, Row, proved_cases}
use Rattle.glintstring.specs.Packing.{packed, unpacked}
use Rattle.promises.proofs.UnpackingLaws.{number_back, input_back, place_back, count_back, unpacks, derive_answer_small}
use Rattle.promises.proofs.DerivePromises
use Rattle.promises.proofs.ExportedDerivationPromises
use Rattle.glintstring.proofs.exports.glintstring_check.Kinds as check-kinds
use Rattle.glintstring.proofs.exports.glintstring_check.Reads as check-reads
use Rattle.glintstring.proofs.exports.glintstring_derive.Kinds.{ps, r}
use Rattle.glintstring.proofs.exports.glintstring_derive.Reads.{Pre, Post}

-- WHAT THE CALL IS GIVEN, by the values of its three parameters.
module _ (κs : Lfts 2) (given : Dens κs ps) where
  abbrev pub request : List ℕ
  request = given.0.now

  abbrev pub room : List ℕ
  room = given.1.0.now

  abbrev pub budget : ℕ
  budget = given.1.1.0

  -- What it leaves in the room.
  abbrev pub left : AtExit (ended_of 2 ps r) κs → List ℕ
  left exit = exit.1.0.now

  -- The definition's answer.
  abbrev pub answer : Answer
  answer = (derive format request room budget).answer

  -- THE CONTRACT, as the source has it.
  pub as_written : (n : ℕ) (exit : AtExit (ended_of 2 ps r) κs) → Post κs given n exit → (n ≡ packed answer) × (left exit ≡ (derive format request room budget).room)
  as_written n exit meets = meets

  -- Two results that meet the contract on the same input are equal: it says everything (FORMAT 24.23).
  pub determined : (n n' : ℕ) (exit exit' : AtExit (ended_of 2 ps r) κs) → Post κs given n exit → Post κs given n' exit' → (n ≡ n') × (left exit ≡ left exit')
  determined n n' exit exit' meets meets' = (meets.0 ∙ sym meets'.0, meets.1 ∙ sym meets'.1)

  -- It may be called with anything.
  pub asks_nothing : Pre κs given
  asks_nothing = tt

  -- The definition's number, input, place and count are had from a result that meets the contract.
  module _ (n : ℕ) (exit : AtExit (ended_of 2 ps r) κs) (meets : Post κs given n exit) where
    pub number_is : n % 256 ≡ answer.number
    number_is = number_back answer (derive_answer_small request room budget) n meets.0

    pub input_is : n / 256 % 256 ≡ answer.input
    input_is = input_back answer (derive_answer_small request room budget) n meets.0

    pub place_is : n / 65536 % 65536 ≡ answer.place
    place_is = place_back answer (derive_answer_small request room budget) n meets.0

    pub count_is : n / 4294967296 ≡ answer.count
    count_is = count_back answer (derive_answer_small request room budget) n meets.0

    -- So the exported showing call, given the result, shows what the definition's answer names.
    pub unpacked_is : unpacked n ≡ answer
    unpacked_is = unpacks answer (derive_answer_small request room budget) n meets.0

    pub derives : record { answer = unpacked n; room = left exit } ≡ derive format request room budget
    derives = ap₂ {C = Built} (λ a s. record { answer = a; room = s }) unpacked_is meets.1

    -- Demand 1 (FORMAT 24.24): it is one of the numbered answers of the derive call.
    pub numbered : among (n % 256) derive_answers ≡ true
    unfolding unpacked
    numbered = DerivePromises.numbered request room budget (unpacked n) (left exit) derives

    -- The proved cases (FORMAT 15.12): given a row's inputs, it answers what the row says, and leaves the room that it says.
    pub answers_the_cases : (row : Row) → Has proved_cases row → row.call ≡ writing request room budget → row.gives ≡ built (record { answer = unpacked n; room = left exit })
    answers_the_cases = DerivePromises.answers_the_cases request room budget (unpacked n) (left exit) derives

    -- 0 exactly where the request is settled and has no whether entry, its walk verifies it within the budget and meets no action that is too wide, and its derivation has at most 1,024
    -- lines and at most 32,768 bytes, which the room has too (FORMAT 24.25).
    pub derived_exactly : (n % 256 ≡ Limits.verified) ↔ ((x : Request) × Derives format request budget x × SizesFit format room x)
    unfolding unpacked
    derived_exactly = DerivePromises.derived_exactly request room budget (unpacked n) (left exit) derives

    -- It has then written the derivation and no other byte: the count is the number of its bytes, and behind these the room is as lent (FORMAT 24.19, 24.25).
    pub written : n % 256 ≡ Limits.verified
        → (x : Request) × Derives format request budget x × SizesFit format room x
        × (n / 4294967296 ≡ length (bytes_of format x)) × (left exit ≡ bytes_of format x ++ drop (length (bytes_of format x)) room)
    unfolding unpacked
    written = DerivePromises.written request room budget (unpacked n) (left exit) derives

    -- What was written, as many bytes as the count says, the derivation call accepts (FORMAT 24.26),
    pub accepted : n % 256 ≡ Limits.verified → (check format Plain request (take (n / 4294967296) (left exit))).number ≡ Limits.verified
    unfolding unpacked
    accepted = DerivePromises.accepted request room budget (unpacked n) (left exit) derives

    -- where a result of that call meets its contract.
    pub written_then_checked : n % 256 ≡ Limits.verified → (κs' : Lfts 2) (given' : Dens κs' check-kinds.ps) (n' : ℕ) (exit' : AtExit (ended_of 2 check-kinds.ps check-kinds.r) κs')
        → check-reads.Post κs' given' n' exit' → ExportedDerivationPromises.request κs' given' ≡ request → ExportedDerivationPromises.derivation κs' given' ≡ take (n / 4294967296) (left exit) → n' % 256 ≡ Limits.verified
    written_then_checked zero κs' given' n' exit' meets' same is =
        ExportedDerivationPromises.number_is κs' given' n' exit' meets' ∙ ap₂ {C = ℕ} (λ s d. (check format Plain s d).number) same is ∙ accepted zero

    -- In the closing layout it is three bytes longer, and the whether call accepts it where it is not too long (FORMAT 17.42).
    pub in_closing_layout : n % 256 ≡ Limits.verified → InClosingLayout format request (take (n / 4294967296) (left exit))
    unfolding unpacked
    in_closing_layout = DerivePromises.in_closing_layout request room budget (unpacked n) (left exit) derives

    -- One of 10 to 21 exactly where the request is not settled. It is then the walk call's answer, with its place, whatever state of 128 bytes is lent (FORMAT 24.13).
    pub refused_exactly : (among (n % 256) refusals ≡ true) ↔ ((k p : ℕ) × (settled format request ≡ fault k p))
    unfolding unpacked
    refused_exactly = DerivePromises.refused_exactly request room budget (unpacked n) (left exit) derives

    pub refused_as_judged : (lent : List ℕ) → length lent ≡ format.state → (k p : ℕ) → settled format request ≡ fault k p → unpacked n ≡ (judge format request lent budget).answer
    refused_as_judged = DerivePromises.refused_as_judged request room budget (unpacked n) (left exit) derives

    -- 30 exactly where it is settled and has a whether entry, with the place of the whether list's count byte (FORMAT 24.14).
    pub asked_exactly : (n % 256 ≡ Limits.whether_asked) ↔ ((x : Request) × AsksWhether format request x)
    unfolding unpacked
    asked_exactly = DerivePromises.asked_exactly request room budget (unpacked n) (left exit) derives

    pub asked_there : (x : Request) → AsksWhether format request x → n / 65536 % 65536 ≡ x.whether_place
    unfolding unpacked
    asked_there = DerivePromises.asked_there request room budget (unpacked n) (left exit) derives

    -- 1, 2 and 3 exactly where it is settled and has no whether entry and the walk call gives them. Each is then the walk call's answer, with its place, its input and its count (FORMAT 24.15).
    pub walked_exactly : (lent : List ℕ) → length lent ≡ format.state → (k : ℕ) → among k unverified ≡ true
        → (n % 256 ≡ k) ↔ ((x : Request) × AsksGoals format request x × ((judge format request lent budget).answer.number ≡ k))
    unfolding unpacked
    walked_exactly = DerivePromises.walked_exactly request room budget (unpacked n) (left exit) derives

    pub walked_as_judged : (lent : List ℕ) → length lent ≡ format.state → among (n % 256) unverified ≡ true → unpacked n ≡ (judge format request lent budget).answer
    unfolding unpacked
    walked_as_judged = DerivePromises.walked_as_judged request room budget (unpacked n) (left exit) derives

    -- Past these the walk call answers 0.
    pub judged_verified : (lent : List ℕ) → length lent ≡ format.state → (x : Request) → WalkVerifies format request budget x → (judge format request lent budget).answer.number ≡ Limits.verified
    judged_verified = DerivePromises.judged_verified request room budget (unpacked n) (left exit) derives

    -- 37 exactly where the walk verifies the request and meets an action that is too wide. The place is that of the first such item in the order of the walk (FORMAT 24.4, 24.16).
    pub wide_exactly : (n % 256 ≡ Limits.sensing_too_wide)
        ↔ ((x : Request) × WalkVerifies format request budget x × ((p a : ℕ) × (u : State) × WalkMeets format x (act p a) u × (too_wide x.table a u ≡ true)))
    unfolding unpacked
    wide_exactly = DerivePromises.wide_exactly request room budget (unpacked n) (left exit) derives

    pub wide_there : n % 256 ≡ Limits.sensing_too_wide → (x : Request) × WalkVerifies format request budget x × TooWideAt format x (n / 65536 % 65536)
    unfolding unpacked
    wide_there = DerivePromises.wide_there request room budget (unpacked n) (left exit) derives

    -- 38 exactly where it meets none and the derivation has more than 1,024 lines (FORMAT 24.17).
    pub many_exactly : (n % 256 ≡ Limits.too_many_lines) ↔ ((x : Request) × Derives format request budget x × (format.lines < length (derivation_of format x)))
    unfolding unpacked
    many_exactly = DerivePromises.many_exactly request room budget (unpacked n) (left exit) derives

    -- 39 exactly where it has no more, but has more than 32,768 bytes, or more than the room (FORMAT 24.18).
    pub short_exactly : (n % 256 ≡ Limits.room_short) ↔ ((x : Request) × Derives format request budget x × BytesExceed format room x)
    unfolding unpacked
    short_exactly = DerivePromises.short_exactly request room budget (unpacked n) (left exit) derives

    -- The room stays as lent with every answer but 0, and keeps its length with each (FORMAT 24.12).
    pub room_kept : (n % 256 ≡ Limits.verified → ⊥) → left exit ≡ room
    unfolding unpacked
    room_kept = DerivePromises.room_kept request room budget (unpacked n) (left exit) derives

    pub room_length : length (left exit) ≡ length room
    room_length = DerivePromises.room_length request room budget (unpacked n) (left exit) derives

    -- Input, place and count are what the number says (FORMAT 24.13 to 24.19): neither input exactly with 0, 3, 38 and 39, and else the request.
    pub input_exactly : DeriveInput (unpacked n)
    input_exactly = DerivePromises.input_exactly request room budget (unpacked n) (left exit) derives

    -- Place 0 with 0, 3, 10, 38 and 39, the request's length with 11, and else that of a byte.
    pub place_within : DerivePlaced (length request) (n % 256) (n / 65536 % 65536)
    unfolding unpacked
    place_within = DerivePromises.place_within request room budget (unpacked n) (left exit) derives

    -- The number of the derivation's bytes with 0, the walk's count with 1 and 2, the budget with 3, and else 0.
    pub count_exactly : DeriveCount format request budget (unpacked n)
    count_exactly = DerivePromises.count_exactly request room budget (unpacked n) (left exit) derives
