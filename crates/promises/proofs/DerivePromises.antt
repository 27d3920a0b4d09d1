-- What the derive call promises, once: of an answer and of a room that are the definition's. Assumes nothing.
use Prim.Native.Nat.{ℕ, ◌<◌}
use mathlib.Core.Path.{◌≡◌, sym, ◌∙◌, ap, subst}
use mathlib.Core.Bool.{true}
use mathlib.Core.List.{List, ◌++◌}
use mathlib.Core.Logic.{◌↔◌}
use lib.ListN.{length, take, drop}
use Rattle.meaning.specs.declared.Answer.{Answer}
use Rattle.meaning.specs.declared.Layout.TheVariants.{Plain}
use Rattle.meaning.specs.Limits
use Rattle.meaning.specs.Limits.{format}
use Rattle.meaning.specs.Literals.{among}
use Rattle.meaning.specs.Requests.{act, Request}
use Rattle.meaning.specs.Reading.{fault}
use Rattle.meaning.specs.Refusals.{settled}
use Rattle.meaning.specs.States.{State}
use Rattle.meaning.specs.Judging.{judge}
use Rattle.meaning.specs.Derivations.{check}
use Rattle.meaning.specs.Indexes.{Built}
use Rattle.meaning.specs.Schemes.{derivation_of, too_wide, derive}
use Rattle.meaning.specs.DeriveReported.{AsksGoals, AsksWhether, unverified, WalkVerifies, WalkMeets, TooWideAt, Derives, bytes_of, SizesFit, BytesExceed}
use Rattle.meaning.specs.Layouts.{InClosingLayout}
use Rattle.meaning.specs.Answers.{refusals, derive_answers}
use Rattle.meaning.specs.AnswerParts.{DeriveInput, DerivePlaced, DeriveCount}
use Rattle.meaning.specs.Tests.{Has}
use Rattle.demands.proofs.Demands
use Rattle.demands.proofs.ProvedCases.{writing, built, Row, proved_cases}
use Rattle.promises.proofs.CasePromises.{row_holds}

-- A DERIVATION WRITTEN: the request has one, its sizes are not exceeded, the count is the number of its bytes, and the room starts with these and goes on as lent (FORMAT 24.19, 24.25).
abbrev pub Written : (request room : List ℕ) → (budget : ℕ) → Answer → (left : List ℕ) → Type 0
Written request room budget answer left =
    (x : Request) × Derives format request budget x × SizesFit format room x
    × (answer.count ≡ length (bytes_of format x)) × (left ≡ bytes_of format x ++ drop (length (bytes_of format x)) room)

-- THE DERIVE CALL.
module _ (request room : List ℕ) (budget : ℕ) (answer : Answer) (left : List ℕ) (is : record { answer = answer; room = left } ≡ derive format request room budget) where
  -- What is so of what the definition gives is so of this.
  as_derived : (P : Built → Type 0) → P (derive format request room budget) → P (record { answer = answer; room = left })
  as_derived P = subst P (sym is)

  number_is : (derive format request room budget).answer.number ≡ answer.number
  number_is = ap (λ (b : Built). b.answer.number) (sym is)

  pub numbered : among answer.number derive_answers ≡ true
  numbered = as_derived (λ b. among b.answer.number derive_answers ≡ true) (Demands.derive_numbered format request room budget)

  pub answers_the_cases : (row : Row) → Has proved_cases row → row.call ≡ writing request room budget → row.gives ≡ built (record { answer = answer; room = left })
  answers_the_cases row has call = row_holds row has (writing request room budget) call ∙ ap built (sym is)

  -- 0, and what is then written.
  pub derived_exactly : (answer.number ≡ Limits.verified) ↔ ((x : Request) × Derives format request budget x × SizesFit format room x)
  derived_exactly = rw (sym number_is) (Demands.derived_exactly format request room budget)

  pub written : answer.number ≡ Limits.verified → Written request room budget answer left
  written =
      as_derived (λ b. b.answer.number ≡ Limits.verified → Written request room budget b.answer b.room)
      (λ zero. let w = Demands.derivation_written format request room budget zero in (w.0, w.1.derives, w.1.sizes, w.1.counts, w.1.leaves))

  -- What was written, the derivation call accepts.
  pub accepted : answer.number ≡ Limits.verified → (check format Plain request (take answer.count left)).number ≡ Limits.verified
  accepted =
      as_derived (λ b. b.answer.number ≡ Limits.verified → (check format Plain request (take b.answer.count b.room)).number ≡ Limits.verified)
      (Demands.derive_accepted request room budget)

  pub in_closing_layout : answer.number ≡ Limits.verified → InClosingLayout format request (take answer.count left)
  in_closing_layout =
      as_derived (λ b. b.answer.number ≡ Limits.verified → InClosingLayout format request (take b.answer.count b.room)) (Demands.derive_closing request room budget)

  -- THE REFUSALS, 30, 1, 2 AND 3, exactly; all but 30 are the walk call's answers.
  pub refused_exactly : (among answer.number refusals ≡ true) ↔ ((n p : ℕ) × (settled format request ≡ fault n p))
  refused_exactly = rw (sym number_is) (Demands.derive_refused_exactly format request room budget)

  pub asked_exactly : (answer.number ≡ Limits.whether_asked) ↔ ((x : Request) × AsksWhether format request x)
  asked_exactly = rw (sym number_is) (Demands.derive_asked_exactly format request room budget)

  pub asked_there : (x : Request) → AsksWhether format request x → answer.place ≡ x.whether_place
  asked_there x asks = ap (λ (b : Built). b.answer.place) is ∙ Demands.derive_asked_there format request room budget x asks

  module _ (lent : List ℕ) (sized : length lent ≡ format.state) where
    pub refused_as_judged : (n p : ℕ) → settled format request ≡ fault n p → answer ≡ (judge format request lent budget).answer
    refused_as_judged n p past = ap (λ (b : Built). b.answer) is ∙ Demands.derive_refused_as_judged format request room budget lent sized n p past

    pub walked_exactly : (n : ℕ) → among n unverified ≡ true → (answer.number ≡ n) ↔ ((x : Request) × AsksGoals format request x × ((judge format request lent budget).answer.number ≡ n))
    walked_exactly n one = rw (sym number_is) (Demands.derive_walked_exactly format request room budget lent sized n one)

    pub walked_as_judged : among answer.number unverified ≡ true → answer ≡ (judge format request lent budget).answer
    walked_as_judged =
        as_derived (λ b. among b.answer.number unverified ≡ true → b.answer ≡ (judge format request lent budget).answer) (Demands.derive_walked_as_judged format request room budget lent sized)

    -- Past these the walk call answers 0.
    pub judged_verified : (x : Request) → WalkVerifies format request budget x → (judge format request lent budget).answer.number ≡ Limits.verified
    judged_verified = Demands.derived_judged format request room budget lent sized

  -- 37, 38 AND 39, exactly.
  pub wide_exactly : (answer.number ≡ Limits.sensing_too_wide)
      ↔ ((x : Request) × WalkVerifies format request budget x × ((p a : ℕ) × (u : State) × WalkMeets format x (act p a) u × (too_wide x.table a u ≡ true)))
  wide_exactly = rw (sym number_is) (Demands.derive_wide_exactly format request room budget)

  pub wide_there : answer.number ≡ Limits.sensing_too_wide → (x : Request) × WalkVerifies format request budget x × TooWideAt format x answer.place
  wide_there =
      as_derived (λ b. b.answer.number ≡ Limits.sensing_too_wide → (x : Request) × WalkVerifies format request budget x × TooWideAt format x b.answer.place)
      (Demands.derive_wide_there format request room budget)

  pub many_exactly : (answer.number ≡ Limits.too_many_lines) ↔ ((x : Request) × Derives format request budget x × (format.lines < length (derivation_of format x)))
  many_exactly = rw (sym number_is) (Demands.derive_many_exactly format request room budget)

  pub short_exactly : (answer.number ≡ Limits.room_short) ↔ ((x : Request) × Derives format request budget x × BytesExceed format room x)
  short_exactly = rw (sym number_is) (Demands.derive_short_exactly format request room budget)

  -- THE ROOM.
  pub room_kept : (answer.number ≡ Limits.verified → ⊥) → left ≡ room
  room_kept = as_derived (λ b. (b.answer.number ≡ Limits.verified → ⊥) → b.room ≡ room) (Demands.derive_room_as_lent format request room budget)

  pub room_length : length left ≡ length room
  room_length = as_derived (λ b. length b.room ≡ length room) (Demands.derive_room_length format request room budget)

  -- INPUT, PLACE AND COUNT.
  pub input_exactly : DeriveInput answer
  input_exactly = as_derived (λ b. DeriveInput b.answer) (Demands.derive_input format request room budget)

  pub place_within : DerivePlaced (length request) answer.number answer.place
  place_within = as_derived (λ b. DerivePlaced (length request) b.answer.number b.answer.place) (Demands.derive_place format request room budget)

  pub count_exactly : DeriveCount format request budget answer
  count_exactly = as_derived (λ b. DeriveCount format request budget b.answer) (Demands.derive_count format request room budget)
