-- What the index call promises: each theorem is of an answer and of a room that meet the call's own contract. Assumes nothing.
use Prim.Native.Nat.{ℕ, ◌+◌, ◌*◌, ◌≤◌, ◌<◌}
use mathlib.Core.Path.{◌≡◌, sym, ◌∙◌, ap}
use mathlib.Core.Bool.{true}
use mathlib.Core.List.{List, ◌++◌}
use mathlib.Core.Logic.{◌↔◌}
use lib.ListN.{length, drop}
use contract.Lifetimes.{Lfts}
use borrow.Fn.Kinds.{Dens, ended_of}
use denote.Triple.Clauses.{AtExit}
use Rattle.meaning.specs.declared.Answer.{Answer}
use Rattle.meaning.specs.Limits
use Rattle.meaning.specs.Limits.{format, most_index}
use Rattle.meaning.specs.Literals.{among}
use Rattle.meaning.specs.Requests.{Request}
use Rattle.meaning.specs.Reading.{got, fault}
use Rattle.meaning.specs.Refusals.{settled}
use Rattle.meaning.specs.Judging.{judge}
use Rattle.meaning.specs.Indexes.{index_of, Built, build}
use Rattle.meaning.specs.Layouts.{Bytes}
use Rattle.meaning.specs.Answers.{refusals, index_answers}
use Rattle.meaning.specs.AnswerParts.{IndexInput, IndexPlaced, IndexCount}
use Rattle.meaning.specs.Tests.{Has}
use Rattle.demands.proofs.ProvedCases.{indexing, built, Row, proved_cases}
use Rattle.promises.proofs.BuildPromises
use Rattle.glintstring.proofs.indexes.index.Kinds.{ps, r}
use Rattle.glintstring.proofs.indexes.index.Reads.{Pre, Post}

-- WHAT THE CALL IS GIVEN, by the values of its two parameters.
module _ (κs : Lfts 2) (given : Dens κs ps) where
  abbrev pub request : List ℕ
  request = given.0.now

  abbrev pub room : List ℕ
  room = given.1.0.now

  -- What it leaves in the room.
  abbrev pub left : AtExit (ended_of 2 ps r) κs → List ℕ
  left exit = exit.1.0.now

  -- THE CONTRACT, as the source has it.
  pub as_written : (answer : Answer) (exit : AtExit (ended_of 2 ps r) κs) → Post κs given answer exit → record { answer = answer; room = left exit } ≡ build format request room
  as_written answer exit meets = meets

  -- Two results that meet the contract on the same input are equal: it says everything (FORMAT 23.21).
  pub determined : (answer answer' : Answer) (exit exit' : AtExit (ended_of 2 ps r) κs) → Post κs given answer exit → Post κs given answer' exit' → (answer ≡ answer') × (left exit ≡ left exit')
  determined answer answer' exit exit' meets meets' =
      let same : ◌≡◌ {A = Built} (record { answer = answer; room = left exit }) (record { answer = answer'; room = left exit' }) = meets ∙ sym meets' in
      (ap (λ (b : Built). b.answer) same, ap (λ (b : Built). b.room) same)

  -- It may be called with anything.
  pub asks_nothing : Pre κs given
  asks_nothing = tt

  -- A RESULT that meets the contract.
  module _ (answer : Answer) (exit : AtExit (ended_of 2 ps r) κs) (meets : Post κs given answer exit) where
    -- Demand 1 (FORMAT 23.22): it is one of the numbered answers of the index call.
    pub numbered : among answer.number index_answers ≡ true
    numbered = BuildPromises.numbered request room answer (left exit) meets

    -- The proved cases (FORMAT 15.12): given a row's inputs, it answers what the row says, and leaves the room that it says.
    pub answers_the_cases : (row : Row) → Has proved_cases row → row.call ≡ indexing request room → row.gives ≡ built (record { answer = answer; room = left exit })
    answers_the_cases = BuildPromises.answers_the_cases request room answer (left exit) meets

    -- 0 exactly where the request is settled and the room is not shorter than its index (FORMAT 23.23).
    pub built_exactly : (answer.number ≡ Limits.verified) ↔ ((x : Request) × (e : ℕ) × (settled format request ≡ got x e) × (length (index_of x.table) ≤ length room))
    built_exactly = BuildPromises.built_exactly request room answer (left exit) meets

    -- It has then written the index and no other byte: the count is the index's length, two bytes for each action, each effect and each executability line, and behind
    -- the index the room is as lent (FORMAT 23.5, 23.9, 23.23).
    pub written : answer.number ≡ Limits.verified
        → (x : Request) × (e : ℕ) × (settled format request ≡ got x e) × (length (index_of x.table) ≤ length room)
        × (answer.count ≡ length (index_of x.table)) × (answer.count ≡ 2 * x.table.actions + 2 * length x.table.effects + 2 * length x.table.executability)
        × (left exit ≡ index_of x.table ++ drop (length (index_of x.table)) room)
    written = BuildPromises.written request room answer (left exit) meets

    -- 39 exactly where the request is settled and the room is shorter (FORMAT 23.8).
    pub short_exactly : (answer.number ≡ Limits.room_short) ↔ ((x : Request) × (e : ℕ) × (settled format request ≡ got x e) × (length room < length (index_of x.table)))
    short_exactly = BuildPromises.short_exactly request room answer (left exit) meets

    -- One of 10 to 21 exactly where the request is not settled. It is then the walk call's answer, with its place, whatever state of 128 bytes is lent and whatever the
    -- budget is (FORMAT 23.7).
    pub refused_exactly : (among answer.number refusals ≡ true) ↔ ((n p : ℕ) × (settled format request ≡ fault n p))
    refused_exactly = BuildPromises.refused_exactly request room answer (left exit) meets

    pub refused_as_judged : (n p : ℕ) → settled format request ≡ fault n p → (lent : List ℕ) → length lent ≡ format.state → (budget : ℕ) → answer ≡ (judge format request lent budget).answer
    refused_as_judged = BuildPromises.refused_as_judged request room answer (left exit) meets

    -- The room stays as lent with every answer but 0, and keeps its length with each.
    pub room_kept : (answer.number ≡ Limits.verified → ⊥) → left exit ≡ room
    room_kept = BuildPromises.room_kept request room answer (left exit) meets

    pub room_length : length (left exit) ≡ length room
    room_length = BuildPromises.room_length request room answer (left exit) meets

    -- The count is at most 1,276, where the request is of bytes (FORMAT 23.5).
    pub count_limited : Bytes request → answer.count ≤ most_index
    count_limited = BuildPromises.count_limited request room answer (left exit) meets

    -- Input, place and count are what the number says (FORMAT 23.7 to 23.9): neither input exactly with 0 and 39, and else the request.
    pub input_exactly : IndexInput answer
    input_exactly = BuildPromises.input_exactly request room answer (left exit) meets

    -- Place 0 with 0, 10 and 39, the request's length with 11, and else that of a byte.
    pub place_within : IndexPlaced (length request) answer.number answer.place
    place_within = BuildPromises.place_within request room answer (left exit) meets

    -- The index's length with 0, and else 0.
    pub count_exactly : IndexCount format request answer
    count_exactly = BuildPromises.count_exactly request room answer (left exit) meets
