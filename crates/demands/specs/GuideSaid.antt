-- What a guide's start and its calls say, by the number (FORMAT 25.3 to 25.9, 25.13, 25.14).
use Rattle.std.specs.Prelude.{ℕ, ◌≤◌, ◌≡◌, Bool, true, false, List, [], ◌∷◌, map, ◌↔◌, eqb}
use Rattle.meaning.specs.declared.Answer.{Answer}
use Rattle.meaning.specs.Tests.{either, pick}
use Rattle.meaning.specs.Limits
use Rattle.meaning.specs.Limits.{Limits}
use Rattle.meaning.specs.Literals.{among}
use Rattle.meaning.specs.Requests.{Request}
use Rattle.meaning.specs.Reading.{got}
use Rattle.meaning.specs.Refusals.{settled}
use Rattle.meaning.specs.Judging.{walk_of}
use Rattle.meaning.specs.Answers.{refusals}
use Rattle.meaning.specs.AnswerParts.{Placed}
use Rattle.guidance.specs.Guides.{not_verified, wrong_number, against_known, of_guide}

-- THE START. Its numbers, and those that name neither input.
unfoldable pub start_answers : List ℕ
start_answers = Limits.verified ∷ not_verified ∷ refusals

unfoldable pub of_starts : List ℕ
of_starts = Limits.verified ∷ not_verified ∷ []

-- Neither input is named exactly with 0 and 40, and the request with every other number.
pub record StartInput (a : Answer) : Type 0 where
  pub neither : (a.input ≡ Limits.neither_input) ↔ (among a.number of_starts ≡ true)
  pub request : among a.number of_starts ≡ false → a.input ≡ Limits.the_request

-- The place is 0 with 40, and as the walk call's with every other number.
pub record StartPlaced (size number place : ℕ) : Type 0 where
  pub unverified : number ≡ not_verified → place ≡ 0
  pub other : (number ≡ not_verified → ⊥) → Placed size number place

-- The count is the walk's with 0, within the budget, and 0 with every other number.
pub record StartCount (lim : Limits) (request : List ℕ) (budget : ℕ) (a : Answer) : Type 0 where
  pub walk : a.number ≡ Limits.verified → (r : Request) × (e : ℕ) × (settled lim request ≡ got r e) × (a.count ≡ (walk_of lim r).count) × (a.count ≤ budget)
  pub other : (a.number ≡ Limits.verified → ⊥) → a.count ≡ 0

-- What a start makes of the walk call's answer: 0 and the refusals of the request stay, and every other is 40 (FORMAT 25.3 to 25.5).
unfoldable pub of_judged : Answer → Answer
of_judged x = pick (either (eqb x.number Limits.verified) (among x.number refusals)) (λ _. x) (λ _. of_guide not_verified)

-- CALLS. The numbers of a guide that started.
unfoldable pub call_answers : List ℕ
call_answers = Limits.verified ∷ wrong_number ∷ against_known ∷ []

-- Those that a guide alone gives.
unfoldable pub own_answers : List ℕ
own_answers = not_verified ∷ wrong_number ∷ against_known ∷ []

-- Readings say the same where each byte is 0 in both or in neither (FORMAT 25.6).
unfoldable pub said : (readings : List ℕ) → List Bool
said = map (λ (b : ℕ). eqb b 0)
