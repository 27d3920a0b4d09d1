-- What the showing call promises: each theorem is of a part that meets the call's own contract. Assumes nothing.
use Prim.Native.Nat.{ℕ, ◌+◌}
use native.Mathlib.Omega.{arith}
use mathlib.Core.Path.{◌≡◌, sym, ◌∙◌, ap}
use mathlib.Core.List.{List}
use lib.Dec.{eqb}
use borrow.Author.Tests.{eqb-true, eq-eqb}
use contract.Lifetimes.{Lfts}
use borrow.Fn.Kinds.{Dens, ended_of}
use denote.Ref.{Bor}
use denote.Triple.Clauses.{AtExit}
use Rattle.meaning.specs.declared.Answer.{Answer}
use Rattle.meaning.specs.Limits
use Rattle.meaning.specs.Showing.{Part, part_from, show}
use Rattle.meaning.specs.Tests.{Has}
use Rattle.meaning.proofs.TestLaws.{clash}
use Rattle.meaning.proofs.PickLaws.{has-picked}
use Rattle.meaning.proofs.DerivationCases.{Shown, showings}
use Rattle.glintstring.specs.ShownPart.{chosen}
use Rattle.glintstring.proofs.ShowingLaws.{chosen_request, chosen_derivation}
use Rattle.promises.proofs.CasePromises.{showing_holds}
use Rattle.glintstring.proofs.showing.show.Kinds.{ps, r}
use Rattle.glintstring.proofs.showing.show.Reads.{Pre, Post}

-- The input that the definition's part is in is the one that the answer names, and the request where it names neither.
module _ (a : Answer) (request derivation : List ℕ) where
  in_request : (show a request derivation).input ≡ Limits.the_request → a.input ≡ Limits.the_derivation → ⊥
  unfolding show part_from
  in_request is names =
      has-picked (λ (p : Part). p.input ≡ Limits.the_request) (eqb a.input Limits.the_request) _ _ is (λ one _. let request-named : a.input ≡ Limits.the_request = eqb-true _ _ one in omega (arith, request-named, names)) λ _ later.
      has-picked (λ (p : Part). p.input ≡ Limits.the_request) (eqb a.input Limits.the_derivation) _ _ later (λ _ two. omega (arith, two)) λ other _. clash (eq-eqb _ _ names) other

  in_derivation : (show a request derivation).input ≡ Limits.the_derivation → a.input ≡ Limits.the_derivation
  unfolding show part_from
  in_derivation is =
      has-picked (λ (p : Part). p.input ≡ Limits.the_derivation) (eqb a.input Limits.the_request) _ _ is (λ _ one. absurd (omega (arith, one))) λ _ later.
      has-picked (λ (p : Part). p.input ≡ Limits.the_derivation) (eqb a.input Limits.the_derivation) _ _ later (λ two _. eqb-true _ _ two) λ _ one. absurd (omega (arith, one))

-- WHAT THE CALL IS GIVEN, by the values of its three parameters.
module _ (κs : Lfts 1) (given : Dens κs ps) where
  abbrev pub answer : Answer
  answer = given.0

  abbrev pub request : Bor (List ℕ)
  request = given.1.0

  abbrev pub derivation : Bor (List ℕ)
  derivation = given.1.1.0

  -- THE CONTRACT, as the source has it: the part's bytes, the block that it lies in and where it starts there.
  pub as_written : (part : Bor (List ℕ)) (exit : AtExit (ended_of 1 ps r) κs) → Post κs given part exit →
      (part.now ≡ (show answer request.now derivation.now).bytes)
      × ((part.ref_ptr.0 ≡ chosen answer request.ref_ptr.0 derivation.ref_ptr.0)
      × (part.ref_ptr.1 ≡ chosen answer request.ref_ptr.1 derivation.ref_ptr.1 + (show answer request.now derivation.now).start))
  as_written part exit meets = meets

  -- Two results that meet the contract on the same input are the same part: it says everything.
  pub determined : (part part' : Bor (List ℕ)) (exit exit' : AtExit (ended_of 1 ps r) κs) → Post κs given part exit → Post κs given part' exit' →
      (part.now ≡ part'.now) × (part.ref_ptr.0 ≡ part'.ref_ptr.0) × (part.ref_ptr.1 ≡ part'.ref_ptr.1)
  determined part part' exit exit' meets meets' = (meets.0 ∙ sym meets'.0, meets.1.0 ∙ sym meets'.1.0, meets.1.1 ∙ sym meets'.1.1)

  -- It may be called with anything.
  pub asks_nothing : Pre κs given
  asks_nothing = tt

  -- A RESULT that meets the contract, given a row's inputs, is what the row says: these bytes, in the input that the row names, from its start on.
  module _ (part : Bor (List ℕ)) (exit : AtExit (ended_of 1 ps r) κs) (meets : Post κs given part exit) (row : Shown) (has : Has showings row)
      (same_answer : row.answer ≡ answer) (same_request : row.request ≡ request.now) (same-derivation : row.derivation ≡ derivation.now) where
    part_is : row.part ≡ show answer request.now derivation.now
    part_is = showing_holds row has answer request.now derivation.now same_answer same_request same-derivation

    starts_in : (input : Bor (List ℕ)) → input.ref_ptr.0 ≡ chosen answer request.ref_ptr.0 derivation.ref_ptr.0 → input.ref_ptr.1 ≡ chosen answer request.ref_ptr.1 derivation.ref_ptr.1 →
        (part.ref_ptr.0 ≡ input.ref_ptr.0) × (part.ref_ptr.1 ≡ input.ref_ptr.1 + (show answer request.now derivation.now).start)
    starts_in input block at = (meets.1.0 ∙ sym block, meets.1.1 ∙ ap (λ (p : ℕ). p + (show answer request.now derivation.now).start) (sym at))

    pub answers_the_cases :
        (part.now ≡ row.part.bytes)
        × (row.part.input ≡ Limits.the_request → (part.ref_ptr.0 ≡ request.ref_ptr.0) × (part.ref_ptr.1 ≡ request.ref_ptr.1 + row.part.start))
        × (row.part.input ≡ Limits.the_derivation → (part.ref_ptr.0 ≡ derivation.ref_ptr.0) × (part.ref_ptr.1 ≡ derivation.ref_ptr.1 + row.part.start))
    answers_the_cases = rw part_is (
      meets.0,
      λ is.
          let named = in_request answer request.now derivation.now is in
          starts_in request (chosen_request answer request.now derivation.now _ _ named) (chosen_request answer request.now derivation.now _ _ named),
      λ is.
          let named = in_derivation answer request.now derivation.now is in
          starts_in derivation (chosen_derivation answer request.now derivation.now _ _ named) (chosen_derivation answer request.now derivation.now _ _ named),
    )
