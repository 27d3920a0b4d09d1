-- What the derivation call and the whether call promise, once over the layout: of an answer that is the definition's, and of a number that
-- packs it. Assumes nothing.
use Prim.Native.Nat.{ℕ, ◌/◌, ◌%◌}
use mathlib.Core.Path.{◌≡◌, sym, ◌∙◌, ap, subst}
use mathlib.Core.Bool.{true}
use mathlib.Core.List.{List}
use mathlib.Core.Logic.{◌↔◌}
use lib.ListN.{length}
use Rattle.meaning.specs.declared.Answer.{Answer}
use Rattle.meaning.specs.declared.Layout.{Layout}
use Rattle.meaning.specs.Limits
use Rattle.meaning.specs.Limits.{former, format}
use Rattle.meaning.specs.Literals.{among}
use Rattle.meaning.specs.Requests.{Request}
use Rattle.meaning.specs.Reading.{got}
use Rattle.meaning.specs.Refusals.{settled}
use Rattle.meaning.specs.States.{first_state}
use Rattle.meaning.specs.Walk.{Verified, walked}
use Rattle.meaning.specs.Derivations.{check}
use Rattle.meaning.specs.Worlds.{CarriedOut}
use Rattle.meaning.specs.Accepted.{Accepted}
use Rattle.meaning.specs.Answers.{check_answers}
use Rattle.meaning.specs.AnswerParts.{CheckInput, Placed, named}
use Rattle.meaning.specs.Tests.{Has}
use Rattle.meaning.proofs.AcceptedExactly.{format_citations}
use Rattle.meaning.proofs.Exact.{format_room}
use Rattle.demands.proofs.Demands
use Rattle.demands.proofs.ProvedCases.{checking, answered, Row, proved_cases}
use Rattle.glintstring.specs.Packing.{packed, unpacked}
use Rattle.promises.proofs.CasePromises.{row_holds}
use Rattle.promises.proofs.UnpackingLaws.{number_back, input_back, place_back, count_back, unpacks, check_small}

module _ (layout : Layout) (request derivation : List ℕ) where
  -- THE NUMBER of an answer, as the definition gives it.
  module _ (number : ℕ) (is : (check format layout request derivation).number ≡ number) where
    pub numbered : among number (check_answers layout) ≡ true
    numbered = subst (λ (n : ℕ). among n (check_answers layout) ≡ true) is (Demands.every_check_numbered format layout request derivation)

    pub accepted_exactly : (number ≡ Limits.verified) ↔ Accepted format layout request derivation
    accepted_exactly = rw (sym is) (Demands.accepted_exactly format format_room format_citations layout request derivation)

    pub accepted_verified : number ≡ Limits.verified → (x : Request) × (e : ℕ) × (settled format request ≡ got x e) × Verified (walked x (first_state format x.table))
    accepted_verified passes = Demands.accepted_verified format format_room layout request derivation (is ∙ passes)

    pub sound : number ≡ Limits.verified → (x : Request) × (e : ℕ) × (settled format request ≡ got x e) × CarriedOut x
    sound passes = Demands.sound_derivation format format_room layout request derivation (is ∙ passes)

  -- THE ANSWER that the definition gives.
  pub answers_the_cases : (answer : Answer) → answer ≡ check format layout request derivation → (row : Row) → Has proved_cases row → row.call ≡ checking layout request derivation → row.gives ≡ answered answer
  answers_the_cases answer is row has call = row_holds row has (checking layout request derivation) call ∙ ap answered (sym is)

  -- A NUMBER that packs the definition's answer gives it back.
  module _ (n : ℕ) (packs : n ≡ packed (check format layout request derivation)) where
    pub number_is : n % 256 ≡ (check format layout request derivation).number
    number_is = number_back (check format layout request derivation) (check_small layout request derivation) n packs

    pub input_is : n / 256 % 256 ≡ (check format layout request derivation).input
    input_is = input_back (check format layout request derivation) (check_small layout request derivation) n packs

    pub place_is : n / 65536 % 65536 ≡ (check format layout request derivation).place
    place_is = place_back (check format layout request derivation) (check_small layout request derivation) n packs

    pub count_is : n / 4294967296 ≡ (check format layout request derivation).count
    count_is = count_back (check format layout request derivation) (check_small layout request derivation) n packs

    pub unpacked_is : unpacked n ≡ check format layout request derivation
    unpacked_is = unpacks (check format layout request derivation) (check_small layout request derivation) n packs

  -- AN ANSWER that is the definition's: that of the former limits (FORMAT 3.19), and its input, count and place (FORMAT 4.26 to 4.44).
  module _ (a : Answer) (is : a ≡ check format layout request derivation) where
    pub as_before : ((check former layout request derivation).number ≡ Limits.count_outside → ⊥) → a ≡ check former layout request derivation
    as_before other = is ∙ Demands.check_as_before layout request derivation other

    pub input_exactly : CheckInput a
    input_exactly = subst CheckInput (sym is) (Demands.check_input_exactly format layout request derivation)

    pub count_exactly : a.count ≡ 0
    count_exactly = ap (λ (z : Answer). z.count) is ∙ Demands.check_count_exactly format layout request derivation

    pub place_within : Placed (length (named a request derivation)) a.number a.place
    place_within = subst (λ (z : Answer). Placed (length (named z request derivation)) z.number z.place) (sym is) (Demands.check_place_within format layout request derivation)
