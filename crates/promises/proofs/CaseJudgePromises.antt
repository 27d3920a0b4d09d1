-- What the call by cases promises, once: of an answer and of lent bytes that are the definition's. Assumes nothing.
use Prim.Native.Nat.{ℕ, ◌≤◌, ◌<◌}
use mathlib.Core.Path.{◌≡◌, sym, ◌∙◌, ap, ap₂, subst}
use mathlib.Core.Bool.{true, false}
use mathlib.Core.List.{List, []}
use mathlib.Core.Logic.{◌⊎◌, ◌↔◌}
use lib.ListN.{length}
use Rattle.meaning.specs.declared.Answer.{Answer}
use Rattle.meaning.specs.Limits
use Rattle.meaning.specs.Limits.{format}
use Rattle.meaning.specs.Literals.{among}
use Rattle.meaning.specs.Requests.{Item, act, Request}
use Rattle.meaning.specs.Reading.{got}
use Rattle.meaning.specs.Refusals.{settled}
use Rattle.meaning.specs.Walk.{missed_in}
use Rattle.meaning.specs.Lines.{executability_of}
use Rattle.meaning.specs.Judging
use Rattle.meaning.specs.Judging.{Judgement, within, judge}
use Rattle.meaning.specs.ByCases.{judge_by_cases, line_by_cases, count}
use Rattle.meaning.specs.Approximation.{failed, least}
use Rattle.meaning.specs.CaseApproximation.{Φ̂₁, Entailed₁}
use Rattle.meaning.specs.Paths.{walked_along}
use Rattle.meaning.specs.Reported.{ItemIn, item_place, Nearest, item_line}
use Rattle.meaning.specs.CaseReported.{case_paths, FirstTooMany, MissesAt, SticksAt, TooManyAt}
use Rattle.meaning.specs.Worlds.{CarriedOut}
use Rattle.meaning.specs.Answers.{cases_answers}
use Rattle.meaning.specs.AnswerParts.{WalkInput, CasesCount, CasesState, stated, Placed}
use Rattle.meaning.specs.Tests.{Has}
use Rattle.meaning.proofs.Exact.{format_room}
use Rattle.demands.proofs.Demands
use Rattle.demands.proofs.ProvedCases.{by_cases_line, Given, judged_line, Row, proved_cases}
use Rattle.glintstring.specs.LentState.{Written}
use Rattle.promises.proofs.LentLaws.{cases_written}
use Rattle.promises.proofs.CasePromises.{row_holds}

-- THE CALL BY CASES.
module _ (request lent : List ℕ) (budget : ℕ) (answer : Answer) (left : List ℕ) (is : record { answer = answer; state = left } ≡ judge_by_cases format request lent budget) where
  -- What is so of the definition's judgement is so of this one.
  as_judged : (P : Judgement → Type 0) → P (judge_by_cases format request lent budget) → P (record { answer = answer; state = left })
  as_judged P = subst P (sym is)

  number_is : (judge_by_cases format request lent budget).answer.number ≡ answer.number
  number_is = ap (λ (j : Judgement). j.answer.number) (sym is)

  pub numbered : among answer.number cases_answers ≡ true
  numbered = as_judged (λ j. among j.answer.number cases_answers ≡ true) (Demands.cases_numbered format request lent budget)

  pub answers_the_cases : (row : Row) → Has proved_cases row → row.call ≡ by_cases_line request lent budget
      → row.gives ≡ judged_line (record { answer = answer; state = left }) (line_by_cases format request lent budget)
  answers_the_cases row has call = row_holds row has (by_cases_line request lent budget) call ∙ ap (λ (j : Judgement). judged_line j (line_by_cases format request lent budget)) (sym is)

  pub kept : among answer.number stated ≡ false → left ≡ lent
  kept = as_judged (λ j. among j.answer.number stated ≡ false → j.state ≡ lent) (Demands.cases_state format request lent budget).as_lent

  pub written : among answer.number stated ≡ true → Written request left
  written = as_judged (λ j. among j.answer.number stated ≡ true → Written request j.state) (cases_written request lent budget)

  pub sound : answer.number ≡ Limits.verified → (x : Request) × (e : ℕ) × (settled format request ≡ got x e) × CarriedOut x
  sound passes = Demands.cases_sound format request lent budget (number_is ∙ passes)

  pub verifies_more : Judging.number format request lent budget ≡ Limits.verified
      → ((answer.number ≡ Limits.verified) × (answer.count ≤ (judge format request lent budget).answer.count)) ⊎ (answer.number ≡ Limits.too_many_cases)
  verifies_more =
      as_judged (λ j. Judging.number format request lent budget ≡ Limits.verified
      → ((j.answer.number ≡ Limits.verified) × (j.answer.count ≤ (judge format request lent budget).answer.count)) ⊎ (j.answer.number ≡ Limits.too_many_cases))
      (Demands.cases_verify_more format format_room request lent budget)

  pub input_exactly : WalkInput answer
  input_exactly = as_judged (λ j. WalkInput j.answer) (Demands.cases_input format request lent budget)

  pub count_exactly : CasesCount format request budget answer
  count_exactly = as_judged (λ j. CasesCount format request budget j.answer) (Demands.cases_count format request lent budget)

  pub place_within : Placed (length request) answer.number answer.place
  place_within = as_judged (λ j. Placed (length request) j.answer.number j.answer.place) (Demands.cases_place format request lent budget)

  pub state_exactly : CasesState format request lent (record { answer = answer; state = left })
  state_exactly = as_judged (CasesState format request lent) (Demands.cases_state format request lent budget)

  module _ (x : Request) (e : ℕ) (lent_length : length lent ≡ format.state) (past : settled format request ≡ got x e) where
    pub in_order : record { answer = answer; state = left } ≡ within lent budget (walked_along (missed_in x) (case_paths format x))
    in_order = is ∙ Demands.in_case_order format request lent budget x e lent_length past

    pub spent_exactly : (answer.number ≡ Limits.budget_spent) ↔ (budget < count format x)
    spent_exactly = rw (sym number_is) (Demands.cases_spent_exactly format format_room request lent budget x e lent_length past)

    pub many_exactly : (answer.number ≡ Limits.too_many_cases) ↔ ((count format x ≤ budget) × ((p : ℕ) × FirstTooMany (case_paths format x) p))
    many_exactly = rw (sym number_is) (Demands.many_exactly format request lent budget x e lent_length past)

    pub many_there : answer.number ≡ Limits.too_many_cases → TooManyAt format x answer.place × (left ≡ lent)
    many_there =
        as_judged (λ j. j.answer.number ≡ Limits.too_many_cases → TooManyAt format x j.answer.place × (j.state ≡ lent))
        (Demands.many_there format request lent budget x e lent_length past)

    pub missed_there : answer.number ≡ Limits.goal_missed → MissesAt format x answer.place left
    missed_there =
        as_judged (λ j. j.answer.number ≡ Limits.goal_missed → MissesAt format x j.answer.place j.state)
        (Demands.cases_missed_there format request lent budget x e lent_length past)

    pub stopped_there : answer.number ≡ Limits.not_executable → SticksAt format x answer.place left
    stopped_there =
        as_judged (λ j. j.answer.number ≡ Limits.not_executable → SticksAt format x j.answer.place j.state)
        (Demands.cases_stopped_there format request lent budget x e lent_length past)

    module _ (enough : count format x ≤ budget) (few : answer.number ≡ Limits.too_many_cases → ⊥) where
      few_judged : (judge_by_cases format request lent budget).answer.number ≡ Limits.too_many_cases → ⊥
      few_judged many = few (sym number_is ∙ many)

      pub stuck_exactly : (answer.number ≡ Limits.not_executable) ↔ Φ̂₁ x.table x.plan (least x.table) failed
      stuck_exactly = rw (sym number_is) (Demands.cases_stuck_exactly format format_room request lent budget x e lent_length past enough few_judged)

      pub verified_exactly : (answer.number ≡ Limits.verified) ↔ Entailed₁ x
      verified_exactly = rw (sym number_is) (Demands.cases_verified_exactly format format_room request lent budget x e lent_length past enough few_judged)

      pub missed_exactly : (answer.number ≡ Limits.goal_missed) ↔ ((Φ̂₁ x.table x.plan (least x.table) failed → ⊥) × (Entailed₁ x → ⊥))
      missed_exactly = rw (sym number_is) (Demands.cases_missed_exactly format format_room request lent budget x e lent_length past enough few_judged)

-- THE LINE, where the number that the call gives beside its answer is the definition's.
module _ (request lent : List ℕ) (budget : ℕ) (answer : Answer) (left : List ℕ) (is : record { answer = answer; state = left } ≡ judge_by_cases format request lent budget)
    (carried : ℕ) (told : carried ≡ line_by_cases format request lent budget) where
  as_told : (P : Judgement → ℕ → Type 0) → P (judge_by_cases format request lent budget) (line_by_cases format request lent budget) → P (record { answer = answer; state = left }) carried
  as_told P h = subst (λ (j : Judgement). P j carried) (sym is) (subst (P (judge_by_cases format request lent budget)) (sym told) h)

  pub answers_the_line_cases : (row : Row) → Has proved_cases row → row.call ≡ by_cases_line request lent budget → row.gives ≡ judged_line (record { answer = answer; state = left }) carried
  answers_the_line_cases row has call = row_holds row has (by_cases_line request lent budget) call ∙ ap₂ {C = Given} judged_line (sym is) (sym told)

  pub no_line : (answer.number ≡ Limits.not_executable → ⊥) → carried ≡ 0
  no_line = as_told (λ j l. (j.answer.number ≡ Limits.not_executable → ⊥) → l ≡ 0) (Demands.cases_no_line format request lent budget)

  pub no_line_many : answer.number ≡ Limits.too_many_cases → carried ≡ 0
  no_line_many = as_told (λ j l. j.answer.number ≡ Limits.too_many_cases → l ≡ 0) (Demands.no_line_many format request lent budget)

  module _ (x : Request) (e : ℕ) (past : settled format request ≡ got x e) where
    pub line_there : answer.number ≡ Limits.not_executable → (i : Item ℕ) → ItemIn x.plan i → item_place i ≡ answer.place → carried ≡ item_line x.table i left
    line_there =
        as_told (λ j l. j.answer.number ≡ Limits.not_executable → (i : Item ℕ) → ItemIn x.plan i → item_place i ≡ j.answer.place → l ≡ item_line x.table i j.state)
        (Demands.cases_line_there format request lent budget x e past)

    pub line_missing : length lent ≡ format.state → answer.number ≡ Limits.not_executable → (a : ℕ) → ItemIn x.plan (act answer.place a)
        → ((executability_of x.table a ≡ []) × (carried ≡ 0)) ⊎ Nearest left (executability_of x.table a) carried
    line_missing lent_length =
        as_told (λ j l. j.answer.number ≡ Limits.not_executable → (a : ℕ) → ItemIn x.plan (act j.answer.place a)
        → ((executability_of x.table a ≡ []) × (l ≡ 0)) ⊎ Nearest j.state (executability_of x.table a) l)
        (Demands.cases_line_missing format request lent budget x e past format_room lent_length)
