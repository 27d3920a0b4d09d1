-- What the exported showing call promises: each theorem is of a number that meets the call's own contract. Assumes nothing.
use Prim.Native.Nat.{ℕ}
use mathlib.Core.Path.{◌≡◌, sym, ◌∙◌, ap}
use mathlib.Core.List.{List}
use contract.Lifetimes.{Lfts}
use borrow.Fn.Kinds.{Dens, ended_of}
use denote.Triple.Clauses.{AtExit}
use Rattle.meaning.specs.declared.Answer.{Answer}
use Rattle.meaning.specs.declared.Layout.{Layout}
use Rattle.meaning.specs.Limits.{format}
use Rattle.meaning.specs.Judging.{judge}
use Rattle.meaning.specs.Derivations.{check}
use Rattle.meaning.specs.Showing.{Part, show}
use Rattle.meaning.specs.Tests.{Has}
use Rattle.meaning.proofs.DerivationCases.{Shown, showings}
use Rattle.glintstring.specs.Packing.{packed, unpacked}
use Rattle.promises.proofs.CasePromises.{showing_holds}
use Rattle.promises.proofs.UnpackingLaws.{Small, unpacks, answer_small, check_small}
use Rattle.glintstring.proofs.exports.glintstring_show.Kinds.{ps, r}
use Rattle.glintstring.proofs.exports.glintstring_show.Reads.{Pre, Post}

-- WHAT THE CALL IS GIVEN, by the values of its three parameters.
module _ (κs : Lfts 2) (given : Dens κs ps) where
  abbrev pub answer : ℕ
  answer = given.0

  abbrev pub request : List ℕ
  request = given.1.0.now

  abbrev pub derivation : List ℕ
  derivation = given.1.1.0.now

  -- THE CONTRACT, as the source has it.
  pub as_written : (n : ℕ) (exit : AtExit (ended_of 2 ps r) κs) → Post κs given n exit → n ≡ (show (unpacked answer) request derivation).start
  as_written n exit meets = meets

  -- Two results that meet the contract on the same input are equal: it says everything.
  pub determined : (n n' : ℕ) (exit exit' : AtExit (ended_of 2 ps r) κs) → Post κs given n exit → Post κs given n' exit' → n ≡ n'
  determined n n' exit exit' meets meets' = meets ∙ sym meets'

  -- It may be called with anything.
  pub asks_nothing : Pre κs given
  asks_nothing = tt

  -- A RESULT that meets the contract, given what the exported walk call or the exported derivation call returned, is where the part starts
  -- that the definition shows of their answer.
  module _ (n : ℕ) (exit : AtExit (ended_of 2 ps r) κs) (meets : Post κs given n exit) where
    of_packed : (a : Answer) → Small a → answer ≡ packed a → n ≡ (show a request derivation).start
    of_packed a small is = meets ∙ ap (λ (z : Answer). (show z request derivation).start) (unpacks a small answer is)

    pub of_walk : (s lent : List ℕ) (budget : ℕ) → answer ≡ packed (judge format s lent budget).answer → n ≡ (show (judge format s lent budget).answer request derivation).start
    of_walk s lent budget = of_packed (judge format s lent budget).answer (answer_small s lent budget)

    pub of_derivation : (layout : Layout) (s d : List ℕ) → answer ≡ packed (check format layout s d) → n ≡ (show (check format layout s d) request derivation).start
    of_derivation layout s d = of_packed (check format layout s d) (check_small layout s d)

    -- Given a row's inputs, with the answer in one number, it is the start of the row's part.
    pub answers_the_cases : (row : Shown) → Has showings row → row.answer ≡ unpacked answer → row.request ≡ request → row.derivation ≡ derivation → n ≡ row.part.start
    answers_the_cases row has same_answer same_request same-derivation = meets ∙ sym (ap (λ (p : Part). p.start) (showing_holds row has (unpacked answer) request derivation same_answer same_request same-derivation))
