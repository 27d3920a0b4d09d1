-- What the exported whether call promises: each theorem is of a number that meets the call's own contract. Assumes nothing.
use Prim.Native.Nat.{ℕ, ◌/◌, ◌%◌}
use mathlib.Core.Path.{◌≡◌, sym, ◌∙◌}
use mathlib.Core.Bool.{true}
use mathlib.Core.List.{List}
use mathlib.Core.Logic.{◌↔◌}
use lib.ListN.{length}
use contract.Lifetimes.{Lfts}
use borrow.Fn.Kinds.{Dens, ended_of}
use denote.Triple.Clauses.{AtExit}
use Rattle.meaning.specs.declared.Answer.{Answer}
use Rattle.meaning.specs.declared.Layout.TheVariants.{Closing}
use Rattle.meaning.specs.Limits
use Rattle.meaning.specs.Limits.{former, format}
use Rattle.meaning.specs.Literals.{among}
use Rattle.meaning.specs.Requests.{Request}
use Rattle.meaning.specs.Reading.{got}
use Rattle.meaning.specs.Refusals.{settled}
use Rattle.meaning.specs.States.{first_state}
use Rattle.meaning.specs.Walk.{Verified, walked}
use Rattle.meaning.specs.Derivations.{check}
use Rattle.meaning.specs.Worlds.{CarriedOut}
use Rattle.meaning.specs.Accepted.{Accepted}
use Rattle.meaning.specs.Answers.{check_answers}
use Rattle.meaning.specs.AnswerParts.{CheckInput, Placed, named}
use Rattle.meaning.specs.Tests.{Has}
use Rattle.demands.proofs.ProvedCases.{checking, answered, Row, proved_cases}
use Rattle.glintstring.specs.Packing.{packed, unpacked}
use Rattle.promises.proofs.CheckPromises
use Rattle.glintstring.proofs.exports.glintstring_check_whether.Kinds.{ps, r}
use Rattle.glintstring.proofs.exports.glintstring_check_whether.Reads.{Pre, Post}

-- WHAT THE CALL IS GIVEN, by the values of its two parameters.
module _ (κs : Lfts 2) (given : Dens κs ps) where
  abbrev pub request : List ℕ
  request = given.0.now

  abbrev pub derivation : List ℕ
  derivation = given.1.0.now

  -- The definition's answer.
  abbrev pub answer : Answer
  answer = check format Closing request derivation

  -- THE CONTRACT, as the source has it.
  pub as_written : (n : ℕ) (exit : AtExit (ended_of 2 ps r) κs) → Post κs given n exit → n ≡ packed answer
  as_written n exit meets = meets

  -- Two results that meet the contract on the same input are equal: it says everything.
  pub determined : (n n' : ℕ) (exit exit' : AtExit (ended_of 2 ps r) κs) → Post κs given n exit → Post κs given n' exit' → n ≡ n'
  determined n n' exit exit' meets meets' = meets ∙ sym meets'

  -- It may be called with anything.
  pub asks_nothing : Pre κs given
  asks_nothing = tt

  -- The definition's number, input, place and count are had from a result that meets the contract.
  module _ (n : ℕ) (exit : AtExit (ended_of 2 ps r) κs) (meets : Post κs given n exit) where
    pub number_is : n % 256 ≡ answer.number
    number_is = CheckPromises.number_is Closing request derivation n meets

    pub input_is : n / 256 % 256 ≡ answer.input
    input_is = CheckPromises.input_is Closing request derivation n meets

    pub place_is : n / 65536 % 65536 ≡ answer.place
    place_is = CheckPromises.place_is Closing request derivation n meets

    pub count_is : n / 4294967296 ≡ answer.count
    count_is = CheckPromises.count_is Closing request derivation n meets

    -- So the exported showing call, given the result, shows what the definition's answer names.
    pub unpacked_is : unpacked n ≡ answer
    unpacked_is = CheckPromises.unpacked_is Closing request derivation n meets

    -- Demand 1 (FORMAT 17.38): it is one of the numbered answers.
    pub numbered : among (n % 256) (check_answers Closing) ≡ true
    numbered = CheckPromises.numbered Closing request derivation _ (sym number_is)

    -- The proved cases (FORMAT 15.12): given a row's inputs, it answers what the row says.
    pub answers_the_cases : (row : Row) → Has proved_cases row → row.call ≡ checking Closing request derivation → row.gives ≡ answered (unpacked n)
    answers_the_cases = CheckPromises.answers_the_cases Closing request derivation (unpacked n) unpacked_is

    -- Demand 2 (FORMAT 17.39): accepted, exactly where neither input is refused, each line follows from those that it cites, and the closing
    -- list names the goals' line and a line for each whether entry.
    pub accepted_exactly : (n % 256 ≡ Limits.verified) ↔ Accepted format Closing request derivation
    accepted_exactly = CheckPromises.accepted_exactly Closing request derivation _ (sym number_is)

    -- Theorem 3.3 of Zhao and Shen (FORMAT 17.40): what an accepted derivation asks, whether entries included, is verified by the walk without a
    -- budget.
    pub accepted_verified : n % 256 ≡ Limits.verified → (x : Request) × (e : ℕ) × (settled format request ≡ got x e) × Verified (walked x (first_state format x.table))
    accepted_verified = CheckPromises.accepted_verified Closing request derivation _ (sym number_is)

    -- Demand 3 (FORMAT 17.41): the plan of an accepted derivation is carried out in every world with the initial facts, each whether fluent
    -- included.
    pub sound : n % 256 ≡ Limits.verified → (x : Request) × (e : ℕ) × (settled format request ≡ got x e) × CarriedOut x
    sound = CheckPromises.sound Closing request derivation _ (sym number_is)

    -- Equal answers (FORMAT 3.19): whatever the former limits answer with another number than 12.
    pub as_before : ((check former Closing request derivation).number ≡ Limits.count_outside → ⊥) → unpacked n ≡ check former Closing request derivation
    as_before = CheckPromises.as_before Closing request derivation (unpacked n) unpacked_is

    -- Input, count and place are what the number says (FORMAT 4.26 to 4.44): neither input exactly with 0, and else one that the number allows.
    pub input_exactly : CheckInput (unpacked n)
    input_exactly = CheckPromises.input_exactly Closing request derivation (unpacked n) unpacked_is

    pub count_exactly : n / 4294967296 ≡ 0
    unfolding unpacked
    count_exactly = CheckPromises.count_exactly Closing request derivation (unpacked n) unpacked_is

    -- Place 0 with 0 and 10, the named input's length with 11, and else that of a byte.
    pub place_within : Placed (length (named (unpacked n) request derivation)) (n % 256) (n / 65536 % 65536)
    unfolding unpacked
    place_within = CheckPromises.place_within Closing request derivation (unpacked n) unpacked_is
