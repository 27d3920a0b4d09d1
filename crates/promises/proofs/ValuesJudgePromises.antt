-- What the values call promises, once: of an answer and of lent bytes that are the definition's. Assumes nothing.
use Prim.Native.Nat.{ℕ, ◌≤◌, ◌<◌}
use mathlib.Core.Path.{◌≡◌, sym, ◌∙◌, ap, subst}
use mathlib.Core.Bool.{true, false}
use mathlib.Core.List.{List}
use mathlib.Core.Logic.{◌↔◌}
use lib.ListN.{length}
use Rattle.meaning.specs.declared.Answer.{Answer}
use Rattle.meaning.specs.declared.Form.TheVariants.{Flags, Valued}
use Rattle.meaning.specs.Limits
use Rattle.meaning.specs.Limits.{format}
use Rattle.meaning.specs.Literals.{among}
use Rattle.meaning.specs.Requests.{Request}
use Rattle.meaning.specs.Reading.{got, values_in, literals_in, read_request}
use Rattle.meaning.specs.Refusals.{nowhere}
use Rattle.meaning.specs.States.{State}
use Rattle.meaning.specs.Judging.{Judgement, within, judge}
use Rattle.meaning.specs.ValueStates.{missed_in}
use Rattle.meaning.specs.ValueWorlds.{World, Facts, CarriedOut}
use Rattle.meaning.specs.Valued.{settled_values, judge_values, count}
use Rattle.meaning.specs.Paths.{arrives, Path, walked_along}
use Rattle.meaning.specs.Reported.{Arrives}
use Rattle.meaning.specs.Answers.{values_answers}
use Rattle.meaning.specs.AnswerParts.{WalkInput, ValuesCount, ValuesState, stated, Placed}
use Rattle.meaning.specs.Tests.{Has}
use Rattle.demands.specs.ValuesReported.{value_paths, SomeStops, SomeMisses}
use Rattle.demands.specs.Matching.{Matches, plain_request, placeless}
use Rattle.demands.proofs.Demands
use Rattle.demands.proofs.ProvedCases.{valuing, judged, Row, proved_cases}
use Rattle.promises.proofs.ValuesLentLaws.{ValuesWritten, values_written}
use Rattle.promises.proofs.CasePromises.{row_holds}

-- THE VALUES CALL.
module _ (request lent : List ℕ) (budget : ℕ) (answer : Answer) (left : List ℕ) (is : record { answer = answer; state = left } ≡ judge_values format request lent budget) where
  -- What is so of the definition's judgement is so of this one.
  as_judged : (P : Judgement → Type 0) → P (judge_values format request lent budget) → P (record { answer = answer; state = left })
  as_judged P = subst P (sym is)

  number_is : (judge_values format request lent budget).answer.number ≡ answer.number
  number_is = ap (λ (j : Judgement). j.answer.number) (sym is)

  pub numbered : among answer.number values_answers ≡ true
  numbered = as_judged (λ j. among j.answer.number values_answers ≡ true) (Demands.values_numbered format request lent budget)

  pub answers_the_cases : (row : Row) → Has proved_cases row → row.call ≡ valuing request lent budget → row.gives ≡ judged (record { answer = answer; state = left })
  answers_the_cases row has call = row_holds row has (valuing request lent budget) call ∙ ap judged (sym is)

  pub kept : among answer.number stated ≡ false → left ≡ lent
  kept = as_judged (λ j. among j.answer.number stated ≡ false → j.state ≡ lent) (Demands.values_state format request lent budget).as_lent

  pub written : among answer.number stated ≡ true → ValuesWritten request left
  written = as_judged (λ j. among j.answer.number stated ≡ true → ValuesWritten request j.state) (values_written request lent budget)

  pub sound : answer.number ≡ Limits.verified
      → (x : Request) × (e : ℕ) × (settled_values format request ≡ got x e) × CarriedOut (literals_in request) x × ((w : World) × Facts (literals_in request) x.table w)
  sound passes =
      let v = Demands.values_sound format request lent budget (number_is ∙ passes) in
      (v.0, v.1, v.2, v.3, Demands.settled_some_world format request v.0 v.1 v.2)

  pub input_exactly : WalkInput answer
  input_exactly = as_judged (λ j. WalkInput j.answer) (Demands.values_input format request lent budget)

  pub count_exactly : ValuesCount format request budget answer
  count_exactly = as_judged (λ j. ValuesCount format request budget j.answer) (Demands.values_count format request lent budget)

  pub place_within : Placed (length request) answer.number answer.place
  place_within = as_judged (λ j. Placed (length request) j.answer.number j.answer.place) (Demands.values_place format request lent budget)

  pub state_exactly : ValuesState format request lent (record { answer = answer; state = left })
  state_exactly = as_judged (ValuesState format request lent) (Demands.values_state format request lent budget)

  -- A request that matches it (FORMAT 26.27, 26.28), where each fluent has two values.
  module _ (x : Request) (e : ℕ) (reads : read_request format Valued request ≡ got x e) (two : (f : ℕ) → values_in request f ≡ 2) where
    pub matched_alike : (plain : List ℕ) (y : Request) (i : ℕ) → read_request format Flags plain ≡ got y i → Matches x y
        → placeless (record { answer = answer; state = left }) ≡ placeless (judge format plain lent budget)
    matched_alike plain y i reads_plain matches = ap placeless is ∙ Demands.matched_alike format request plain x y e i reads reads_plain two matches lent budget

    pub match_there : Matches x (plain_request x)
    match_there = Demands.match_there request two format x e reads

  module _ (x : Request) (e : ℕ) (lent_length : length lent ≡ format.state) (past : settled_values format request ≡ got x e) where
    pub in_order : record { answer = answer; state = left } ≡ within lent budget (walked_along (missed_in (literals_in request) x) (value_paths format request x))
    in_order = is ∙ Demands.in_values_order format request lent budget x e lent_length past

    pub spent_exactly : (answer.number ≡ Limits.budget_spent) ↔ (budget < count format request x)
    spent_exactly = rw (sym number_is) (Demands.values_spent_exactly format request lent budget x e lent_length past)

    module _ (enough : count format request x ≤ budget) where
      pub stuck_exactly : (answer.number ≡ Limits.not_executable) ↔ SomeStops (value_paths format request x)
      stuck_exactly = rw (sym number_is) (Demands.values_stuck_exactly format request lent budget x e lent_length past enough)

      pub verified_exactly : (answer.number ≡ Limits.verified)
          ↔ ((p : Path State) → Has (value_paths format request x) p → (u : State) × (p.ending ≡ arrives u) × (missed_in (literals_in request) x u ≡ nowhere))
      verified_exactly = rw (sym number_is) (Demands.values_fine_exactly format request lent budget x e lent_length past enough)

      pub missed_exactly : (answer.number ≡ Limits.goal_missed)
          ↔ (((p : Path State) → Has (value_paths format request x) p → Arrives p) × SomeMisses (missed_in (literals_in request) x) (value_paths format request x))
      missed_exactly = rw (sym number_is) (Demands.values_missed_exactly format request lent budget x e lent_length past enough)

      pub missed_otherwise : (answer.number ≡ Limits.not_executable → ⊥) → (answer.number ≡ Limits.verified → ⊥) → answer.number ≡ Limits.goal_missed
      missed_otherwise = rw (sym number_is) (Demands.values_missed_otherwise format request lent budget x e lent_length past enough)
