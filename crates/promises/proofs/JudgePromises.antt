-- What the walk call promises, once: of an answer and of lent bytes that are the definition's. Assumes nothing.
use Prim.Native.Nat.{ℕ, ◌-◌, ◌≤◌, ◌<◌}
use mathlib.Core.Path.{◌≡◌, sym, ◌∙◌, ap, ap₂, subst}
use mathlib.Core.Bool.{true}
use mathlib.Core.List.{List, []}
use mathlib.Core.Logic.{◌⊎◌, ◌↔◌}
use lib.ListN.{length}
use Rattle.meaning.specs.declared.Answer.{Answer}
use Rattle.meaning.specs.Limits
use Rattle.meaning.specs.Limits.{former, format}
use Rattle.meaning.specs.Literals.{among}
use Rattle.meaning.specs.Requests.{Item, act, Request}
use Rattle.meaning.specs.Reading.{got}
use Rattle.meaning.specs.Refusals.{settled}
use Rattle.meaning.specs.States.{first_state}
use Rattle.meaning.specs.Walk.{table_step, missed_in}
use Rattle.meaning.specs.Lines.{executability_of}
use Rattle.meaning.specs.Judging.{Judgement, within, judge, count}
use Rattle.meaning.specs.Asking.{line}
use Rattle.meaning.specs.Approximation.{failed, Φ̂, least, Entailed}
use Rattle.meaning.specs.Paths.{paths, walked_along}
use Rattle.meaning.specs.Reported.{Misses, all_paths, MissedAt, ItemIn, item_place, StoppedAt, Nearest, item_line}
use Rattle.meaning.specs.Worlds.{CarriedOut}
use Rattle.meaning.specs.Answers.{answers}
use Rattle.meaning.specs.AnswerParts.{WalkInput, WalkCount, Placed}
use Rattle.demands.specs.Wider.{SameJudgement}
use Rattle.meaning.specs.Tests.{Has}
use Rattle.meaning.proofs.Exact.{format_room}
use Rattle.demands.proofs.Demands
use Rattle.demands.proofs.ProvedCases.{judging, judging_line, Given, judged, judged_line, Row, proved_cases}
use Rattle.glintstring.specs.LentState.{Writes, Written}
use Rattle.promises.proofs.LentLaws.{judge_kept, judge_written}
use Rattle.promises.proofs.CasePromises.{row_holds}

module _ (request lent : List ℕ) (budget : ℕ) (answer : Answer) (left : List ℕ) (is : record { answer = answer; state = left } ≡ judge format request lent budget) where
  number_is : (judge format request lent budget).answer.number ≡ answer.number
  number_is = ap (λ (j : Judgement). j.answer.number) (sym is)

  pub numbered : among answer.number answers ≡ true
  numbered = subst (λ (n : ℕ). among n answers ≡ true) number_is (Demands.numbered format request lent budget)

  pub answers_the_cases : (row : Row) → Has proved_cases row → row.call ≡ judging request lent budget → row.gives ≡ judged (record { answer = answer; state = left })
  answers_the_cases row has call = row_holds row has (judging request lent budget) call ∙ ap judged (sym is)

  pub kept : (answer.number ≡ Limits.goal_missed → ⊥) → (answer.number ≡ Limits.not_executable → ⊥) → left ≡ lent
  kept one two = ap (λ (j : Judgement). j.state) is ∙ judge_kept format lent budget request (λ e. one (sym number_is ∙ e)) (λ e. two (sym number_is ∙ e))

  pub written : Writes answer.number → Written request left
  written = subst (λ (j : Judgement). Writes j.answer.number → Written request j.state) (sym is) (judge_written request lent budget)

  pub sound : answer.number ≡ Limits.verified → (x : Request) × (e : ℕ) × (settled format request ≡ got x e) × CarriedOut x
  sound passes = Demands.sound format request lent budget (number_is ∙ passes)

  pub as_before : (small : List ℕ) → length small ≡ former.state → length lent ≡ format.state → ((judge former request small budget).answer.number ≡ Limits.count_outside → ⊥)
      → SameJudgement (format.state - former.state) small lent (judge former request small budget) (record { answer = answer; state = left })
  as_before small fits Fits-wider other =
      subst (SameJudgement (format.state - former.state) small lent (judge former request small budget)) (sym is) (Demands.as_before request small lent budget fits Fits-wider other)

  pub input_exactly : WalkInput answer
  input_exactly = subst (λ (j : Judgement). WalkInput j.answer) (sym is) (Demands.input_exactly format request lent budget)

  pub count_exactly : WalkCount format request budget answer
  count_exactly = subst (λ (j : Judgement). WalkCount format request budget j.answer) (sym is) (Demands.count_exactly format request lent budget)

  pub place_within : Placed (length request) answer.number answer.place
  place_within = subst (λ (j : Judgement). Placed (length request) j.answer.number j.answer.place) (sym is) (Demands.place_within format request lent budget)

  module _ (x : Request) (e : ℕ) (lent_length : length lent ≡ format.state) (past : settled format request ≡ got x e) where
    pub in_order : record { answer = answer; state = left } ≡ within lent budget (walked_along (missed_in x) (paths (table_step x.table) x.plan (first_state format x.table)))
    in_order = is ∙ Demands.in_order format format_room request lent budget x e lent_length past

    pub spent_exactly : (answer.number ≡ Limits.budget_spent) ↔ (budget < count format x)
    spent_exactly = rw (sym number_is) (Demands.spent_exactly format format_room request lent budget x e lent_length past)

    pub missed_there : answer.number ≡ Limits.goal_missed → MissedAt x (all_paths format x) answer.place left
    missed_there =
        subst (λ (j : Judgement). j.answer.number ≡ Limits.goal_missed → MissedAt x (all_paths format x) j.answer.place j.state) (sym is)
        (Demands.missed_there format format_room request lent budget x e lent_length past)

    pub stopped_there : answer.number ≡ Limits.not_executable → StoppedAt x (all_paths format x) answer.place left
    stopped_there =
        subst (λ (j : Judgement). j.answer.number ≡ Limits.not_executable → StoppedAt x (all_paths format x) j.answer.place j.state) (sym is)
        (Demands.stopped_there format format_room request lent budget x e lent_length past)

    module _ (enough : count format x ≤ budget) where
      pub stuck_exactly : (answer.number ≡ Limits.not_executable) ↔ Φ̂ x.table x.plan (least x.table) failed
      stuck_exactly = rw (sym number_is) (Demands.stuck_exactly format format_room request lent budget x e lent_length past enough)

      pub verified_exactly : (answer.number ≡ Limits.verified) ↔ Entailed x
      verified_exactly = rw (sym number_is) (Demands.verified_exactly format format_room request lent budget x e lent_length past enough)

      pub missed_exactly : (answer.number ≡ Limits.goal_missed) ↔ ((Φ̂ x.table x.plan (least x.table) failed → ⊥) × (Entailed x → ⊥))
      missed_exactly = rw (sym number_is) (Demands.missed_exactly format format_room request lent budget x e lent_length past enough)

      pub missed_in_an_end_state : (answer.number ≡ Limits.goal_missed) ↔ Misses x
      missed_in_an_end_state = rw (sym number_is) (Demands.missed_in_an_end_state format format_room request lent budget x e lent_length past enough)

-- THE LINE, where the number that the call gives beside its answer is the definition's.
module _ (request lent : List ℕ) (budget : ℕ) (answer : Answer) (left : List ℕ) (is : record { answer = answer; state = left } ≡ judge format request lent budget)
    (carried : ℕ) (told : carried ≡ line format request lent budget) where
  abbrev Told : (Judgement → ℕ → Type 0) → Type 0
  Told P = P (judge format request lent budget) (line format request lent budget) → P (record { answer = answer; state = left }) carried

  as_told : (P : Judgement → ℕ → Type 0) → Told P
  as_told P h = subst (λ (j : Judgement). P j carried) (sym is) (subst (P (judge format request lent budget)) (sym told) h)

  pub no_line : (answer.number ≡ Limits.not_executable → ⊥) → carried ≡ 0
  no_line = as_told (λ (j : Judgement) (l : ℕ). (j.answer.number ≡ Limits.not_executable → ⊥) → l ≡ 0) (Demands.no_line format request lent budget)

  pub answers_the_line_cases : (row : Row) → Has proved_cases row → row.call ≡ judging_line request lent budget → row.gives ≡ judged_line (record { answer = answer; state = left }) carried
  answers_the_line_cases row has call = row_holds row has (judging_line request lent budget) call ∙ ap₂ {C = Given} judged_line (sym is) (sym told)

  module _ (x : Request) (e : ℕ) (past : settled format request ≡ got x e) where
    pub line_there : answer.number ≡ Limits.not_executable → (i : Item ℕ) → ItemIn x.plan i → item_place i ≡ answer.place → carried ≡ item_line x.table i left
    line_there =
        as_told (λ (j : Judgement) (l : ℕ). j.answer.number ≡ Limits.not_executable → (i : Item ℕ) → ItemIn x.plan i → item_place i ≡ j.answer.place → l ≡ item_line x.table i j.state)
        (Demands.line_there format request lent budget x e past)

    pub line_missing : length lent ≡ format.state → answer.number ≡ Limits.not_executable → (a : ℕ) → ItemIn x.plan (act answer.place a)
        → ((executability_of x.table a ≡ []) × (carried ≡ 0)) ⊎ Nearest left (executability_of x.table a) carried
    line_missing lent_length =
        as_told (λ (j : Judgement) (l : ℕ). j.answer.number ≡ Limits.not_executable → (a : ℕ) → ItemIn x.plan (act j.answer.place a)
        → ((executability_of x.table a ≡ []) × (l ≡ 0)) ⊎ Nearest j.state (executability_of x.table a) l)
        (Demands.line_missing format format_room request lent budget x e lent_length past)
