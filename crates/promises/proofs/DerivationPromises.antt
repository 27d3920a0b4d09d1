-- What the derivation call promises: each theorem is of an answer that meets the call's own contract. Assumes nothing.
use Prim.Native.Nat.{ℕ}
use mathlib.Core.Path.{◌≡◌, sym, ◌∙◌, ap}
use mathlib.Core.Bool.{true}
use mathlib.Core.List.{List}
use mathlib.Core.Logic.{◌↔◌}
use lib.ListN.{length}
use contract.Lifetimes.{Lfts}
use borrow.Fn.Kinds.{Dens, ended_of}
use denote.Triple.Clauses.{AtExit}
use Rattle.meaning.specs.declared.Answer.{Answer}
use Rattle.meaning.specs.declared.Layout.TheVariants.{Plain}
use Rattle.meaning.specs.Limits
use Rattle.meaning.specs.Limits.{former, format}
use Rattle.meaning.specs.Literals.{among}
use Rattle.meaning.specs.Requests.{Request}
use Rattle.meaning.specs.Reading.{got}
use Rattle.meaning.specs.Refusals.{settled}
use Rattle.meaning.specs.States.{first_state}
use Rattle.meaning.specs.Walk.{Verified, walked}
use Rattle.meaning.specs.Derivations.{check}
use Rattle.meaning.specs.Worlds.{CarriedOut}
use Rattle.meaning.specs.Accepted.{Accepted}
use Rattle.meaning.specs.Answers.{check_answers}
use Rattle.meaning.specs.AnswerParts.{CheckInput, Placed, named}
use Rattle.meaning.specs.Tests.{Has}
use Rattle.demands.proofs.ProvedCases.{checking, answered, Row, proved_cases}
use Rattle.promises.proofs.CheckPromises
use Rattle.glintstring.proofs.check_calls.check.Kinds.{ps, r}
use Rattle.glintstring.proofs.check_calls.check.Reads.{Pre, Post}

-- WHAT THE CALL IS GIVEN, by the values of its two parameters.
module _ (κs : Lfts 2) (given : Dens κs ps) where
  abbrev pub request : List ℕ
  request = given.0.now

  abbrev pub derivation : List ℕ
  derivation = given.1.0.now

  -- THE CONTRACT, as the source has it.
  pub as_written : (answer : Answer) (exit : AtExit (ended_of 2 ps r) κs) → Post κs given answer exit → answer ≡ check format Plain request derivation
  as_written answer exit meets = meets

  -- Two results that meet the contract on the same input are equal: it says everything.
  pub determined : (answer answer' : Answer) (exit exit' : AtExit (ended_of 2 ps r) κs) → Post κs given answer exit → Post κs given answer' exit' → answer ≡ answer'
  determined answer answer' exit exit' meets meets' = meets ∙ sym meets'

  -- It may be called with anything.
  pub asks_nothing : Pre κs given
  asks_nothing = tt

  -- A RESULT that meets the contract.
  module _ (answer : Answer) (exit : AtExit (ended_of 2 ps r) κs) (meets : Post κs given answer exit) where
    number_is : (check format Plain request derivation).number ≡ answer.number
    number_is = ap (λ (a : Answer). a.number) (sym meets)

    -- Demand 1 (FORMAT 11.1): it is one of the numbered answers.
    pub numbered : among answer.number (check_answers Plain) ≡ true
    numbered = CheckPromises.numbered Plain request derivation _ number_is

    -- The proved cases (FORMAT 15.12): given a row's inputs, it answers what the row says.
    pub answers_the_cases : (row : Row) → Has proved_cases row → row.call ≡ checking Plain request derivation → row.gives ≡ answered answer
    answers_the_cases = CheckPromises.answers_the_cases Plain request derivation answer meets

    -- Demand 2 (FORMAT 11.6): accepted, exactly where neither input is refused, no whether is asked, each line follows from those that it
    -- cites, and the last line is the question.
    pub accepted_exactly : (answer.number ≡ Limits.verified) ↔ Accepted format Plain request derivation
    accepted_exactly = CheckPromises.accepted_exactly Plain request derivation _ number_is

    -- Theorem 3.1 of Zhao and Shen: what an accepted derivation asks is verified by the walk without a budget.
    pub accepted_verified : answer.number ≡ Limits.verified → (x : Request) × (e : ℕ) × (settled format request ≡ got x e) × Verified (walked x (first_state format x.table))
    accepted_verified = CheckPromises.accepted_verified Plain request derivation _ number_is

    -- Demand 3 (FORMAT 11.7 to 11.12): the plan of an accepted derivation is carried out in every world with the initial facts.
    pub sound : answer.number ≡ Limits.verified → (x : Request) × (e : ℕ) × (settled format request ≡ got x e) × CarriedOut x
    sound = CheckPromises.sound Plain request derivation _ number_is

    -- Equal answers (FORMAT 3.19): whatever the former limits answer with another number than 12.
    pub as_before : ((check former Plain request derivation).number ≡ Limits.count_outside → ⊥) → answer ≡ check former Plain request derivation
    as_before = CheckPromises.as_before Plain request derivation answer meets

    -- Input, count and place are what the number says (FORMAT 4.26 to 4.44): neither input exactly with 0, and else one that the number allows.
    pub input_exactly : CheckInput answer
    input_exactly = CheckPromises.input_exactly Plain request derivation answer meets

    pub count_exactly : answer.count ≡ 0
    count_exactly = CheckPromises.count_exactly Plain request derivation answer meets

    -- Place 0 with 0 and 10, the named input's length with 11, and else that of a byte.
    pub place_within : Placed (length (named answer request derivation)) answer.number answer.place
    place_within = CheckPromises.place_within Plain request derivation answer meets
