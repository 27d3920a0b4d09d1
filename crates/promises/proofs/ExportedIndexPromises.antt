-- What the exported index call promises: each theorem is of a number and of a room that meet the call's own contract. Assumes nothing.
use Prim.Native.Nat.{ℕ, ◌+◌, ◌*◌, ◌/◌, ◌%◌, ◌≤◌, ◌<◌}
use mathlib.Core.Path.{◌≡◌, sym, ◌∙◌, ap₂}
use mathlib.Core.Bool.{true}
use mathlib.Core.List.{List, ◌++◌}
use mathlib.Core.Logic.{◌↔◌}
use lib.ListN.{length, drop}
use contract.Lifetimes.{Lfts}
use borrow.Fn.Kinds.{Dens, ended_of}
use denote.Triple.Clauses.{AtExit}
use Rattle.meaning.specs.declared.Answer.{Answer}
use Rattle.meaning.specs.Limits
use Rattle.meaning.specs.Limits.{format, most_index}
use Rattle.meaning.specs.Literals.{among}
use Rattle.meaning.specs.Requests.{Request}
use Rattle.meaning.specs.Reading.{got, fault}
use Rattle.meaning.specs.Refusals.{settled}
use Rattle.meaning.specs.Judging.{judge}
use Rattle.meaning.specs.Indexes.{index_of, Built, build}
use Rattle.meaning.specs.Layouts.{Bytes}
use Rattle.meaning.specs.Answers.{refusals, index_answers}
use Rattle.meaning.specs.AnswerParts.{IndexInput, IndexPlaced, IndexCount}
use Rattle.meaning.specs.Tests.{Has}
use Rattle.demands.proofs.ProvedCases.{indexing, built, Row, proved_cases}
use Rattle.glintstring.specs.Packing.{packed, unpacked}
use Rattle.promises.proofs.UnpackingLaws.{number_back, input_back, place_back, count_back, unpacks, index_answer_small}
use Rattle.promises.proofs.BuildPromises
use Rattle.glintstring.proofs.exports.glintstring_index.Kinds.{ps, r}
use Rattle.glintstring.proofs.exports.glintstring_index.Reads.{Pre, Post}

-- WHAT THE CALL IS GIVEN, by the values of its two parameters.
module _ (κs : Lfts 2) (given : Dens κs ps) where
  abbrev pub request : List ℕ
  request = given.0.now

  abbrev pub room : List ℕ
  room = given.1.0.now

  -- What it leaves in the room.
  abbrev pub left : AtExit (ended_of 2 ps r) κs → List ℕ
  left exit = exit.1.0.now

  -- The definition's answer.
  abbrev pub answer : Answer
  answer = (build format request room).answer

  -- THE CONTRACT, as the source has it.
  pub as_written : (n : ℕ) (exit : AtExit (ended_of 2 ps r) κs) → Post κs given n exit → (n ≡ packed answer) × (left exit ≡ (build format request room).room)
  as_written n exit meets = meets

  -- Two results that meet the contract on the same input are equal: it says everything (FORMAT 23.21).
  pub determined : (n n' : ℕ) (exit exit' : AtExit (ended_of 2 ps r) κs) → Post κs given n exit → Post κs given n' exit' → (n ≡ n') × (left exit ≡ left exit')
  determined n n' exit exit' meets meets' = (meets.0 ∙ sym meets'.0, meets.1 ∙ sym meets'.1)

  -- It may be called with anything.
  pub asks_nothing : Pre κs given
  asks_nothing = tt

  -- The definition's number, input, place and count are had from a result that meets the contract.
  module _ (n : ℕ) (exit : AtExit (ended_of 2 ps r) κs) (meets : Post κs given n exit) where
    pub number_is : n % 256 ≡ answer.number
    number_is = number_back answer (index_answer_small request room) n meets.0

    pub input_is : n / 256 % 256 ≡ answer.input
    input_is = input_back answer (index_answer_small request room) n meets.0

    pub place_is : n / 65536 % 65536 ≡ answer.place
    place_is = place_back answer (index_answer_small request room) n meets.0

    pub count_is : n / 4294967296 ≡ answer.count
    count_is = count_back answer (index_answer_small request room) n meets.0

    -- So the exported showing call, given the result, shows what the definition's answer names.
    pub unpacked_is : unpacked n ≡ answer
    unpacked_is = unpacks answer (index_answer_small request room) n meets.0

    pub builds : record { answer = unpacked n; room = left exit } ≡ build format request room
    builds = ap₂ {C = Built} (λ a s. record { answer = a; room = s }) unpacked_is meets.1

    -- Demand 1 (FORMAT 23.22): it is one of the numbered answers of the index call.
    pub numbered : among (n % 256) index_answers ≡ true
    unfolding unpacked
    numbered = BuildPromises.numbered request room (unpacked n) (left exit) builds

    -- The proved cases (FORMAT 15.12): given a row's inputs, it answers what the row says, and leaves the room that it says.
    pub answers_the_cases : (row : Row) → Has proved_cases row → row.call ≡ indexing request room → row.gives ≡ built (record { answer = unpacked n; room = left exit })
    answers_the_cases = BuildPromises.answers_the_cases request room (unpacked n) (left exit) builds

    -- 0 exactly where the request is settled and the room is not shorter than its index (FORMAT 23.23).
    pub built_exactly : (n % 256 ≡ Limits.verified) ↔ ((x : Request) × (e : ℕ) × (settled format request ≡ got x e) × (length (index_of x.table) ≤ length room))
    unfolding unpacked
    built_exactly = BuildPromises.built_exactly request room (unpacked n) (left exit) builds

    -- It has then written the index and no other byte: the count is the index's length, two bytes for each action, each effect and each executability line, and behind
    -- the index the room is as lent (FORMAT 23.5, 23.9, 23.23).
    pub written : n % 256 ≡ Limits.verified
        → (x : Request) × (e : ℕ) × (settled format request ≡ got x e) × (length (index_of x.table) ≤ length room)
        × (n / 4294967296 ≡ length (index_of x.table)) × (n / 4294967296 ≡ 2 * x.table.actions + 2 * length x.table.effects + 2 * length x.table.executability)
        × (left exit ≡ index_of x.table ++ drop (length (index_of x.table)) room)
    unfolding unpacked
    written = BuildPromises.written request room (unpacked n) (left exit) builds

    -- 39 exactly where the request is settled and the room is shorter (FORMAT 23.8).
    pub short_exactly : (n % 256 ≡ Limits.room_short) ↔ ((x : Request) × (e : ℕ) × (settled format request ≡ got x e) × (length room < length (index_of x.table)))
    unfolding unpacked
    short_exactly = BuildPromises.short_exactly request room (unpacked n) (left exit) builds

    -- One of 10 to 21 exactly where the request is not settled. It is then the walk call's answer, with its place, whatever state of 128 bytes is lent and whatever the
    -- budget is (FORMAT 23.7).
    pub refused_exactly : (among (n % 256) refusals ≡ true) ↔ ((k p : ℕ) × (settled format request ≡ fault k p))
    unfolding unpacked
    refused_exactly = BuildPromises.refused_exactly request room (unpacked n) (left exit) builds

    pub refused_as_judged : (k p : ℕ) → settled format request ≡ fault k p → (lent : List ℕ) → length lent ≡ format.state → (budget : ℕ) → unpacked n ≡ (judge format request lent budget).answer
    refused_as_judged = BuildPromises.refused_as_judged request room (unpacked n) (left exit) builds

    -- The room stays as lent with every answer but 0, and keeps its length with each.
    pub room_kept : (n % 256 ≡ Limits.verified → ⊥) → left exit ≡ room
    unfolding unpacked
    room_kept = BuildPromises.room_kept request room (unpacked n) (left exit) builds

    pub room_length : length (left exit) ≡ length room
    room_length = BuildPromises.room_length request room (unpacked n) (left exit) builds

    -- The count is at most 1,276, where the request is of bytes (FORMAT 23.5).
    pub count_limited : Bytes request → n / 4294967296 ≤ most_index
    unfolding unpacked
    count_limited = BuildPromises.count_limited request room (unpacked n) (left exit) builds

    -- Input, place and count are what the number says (FORMAT 23.7 to 23.9): neither input exactly with 0 and 39, and else the request.
    pub input_exactly : IndexInput (unpacked n)
    input_exactly = BuildPromises.input_exactly request room (unpacked n) (left exit) builds

    -- Place 0 with 0, 10 and 39, the request's length with 11, and else that of a byte.
    pub place_within : IndexPlaced (length request) (n % 256) (n / 65536 % 65536)
    unfolding unpacked
    place_within = BuildPromises.place_within request room (unpacked n) (left exit) builds

    -- The index's length with 0, and else 0.
    pub count_exactly : IndexCount format request (unpacked n)
    count_exactly = BuildPromises.count_exactly request room (unpacked n) (left exit) builds
