-- What the guarded call promises, once: of an answer and of lent bytes that are the definition's. Assumes nothing.
use Prim.Native.Nat.{ℕ, ◌≤◌, ◌<◌}
use mathlib.Core.Path.{◌≡◌, sym, ◌∙◌, ap, ap₂, subst}
use mathlib.Core.Bool.{true, false}
use mathlib.Core.List.{List, [], ◌∷◌, ◌++◌}
use mathlib.Core.Logic.{◌⊎◌, ◌↔◌}
use lib.ListN.{length}
use Rattle.meaning.specs.declared.Answer.{Answer}
use Rattle.meaning.specs.Limits
use Rattle.meaning.specs.Limits.{format}
use Rattle.meaning.specs.Literals.{among}
use Rattle.meaning.specs.Requests.{Item, act, values}
use Rattle.meaning.specs.Reading.{got}
use Rattle.meaning.specs.Refusals.{nowhere, at}
use Rattle.meaning.specs.States.{State, first_state}
use Rattle.meaning.specs.Walk.{missed_in}
use Rattle.meaning.specs.Lines.{executability_of}
use Rattle.meaning.specs.Judging
use Rattle.meaning.specs.Judging.{Judgement, within, judge}
use Rattle.meaning.specs.Guards.{GuardedRequest, settled_guarded, judge_guarded, line_guarded, count}
use Rattle.meaning.specs.Approximation.{least, Entailed}
use Rattle.meaning.specs.Paths.{arrives, Path, walked_along}
use Rattle.meaning.specs.Reported.{pair_of, Arrives, MissedAt, ItemIn, item_place, StoppedAt, Nearest, item_line}
use Rattle.meaning.specs.GuardedReported.{met_paths, FirstStop, BrokenAt, MetIn, GuardsTrue}
use Rattle.meaning.specs.Worlds.{CarriedOutUnder}
use Rattle.meaning.specs.Answers.{guarded_answers}
use Rattle.meaning.specs.AnswerParts.{WalkInput, GuardedCount, GuardedState, with_state, Placed}
use Rattle.meaning.specs.Tests.{Has}
use Rattle.meaning.proofs.Exact.{format_room}
use Rattle.demands.proofs.Demands
use Rattle.demands.proofs.ProvedCases.{guarding_line, Given, judged_line, Row, proved_cases}
use Rattle.promises.proofs.LentLaws.{GuardedWritten, guarded_written}
use Rattle.promises.proofs.CasePromises.{row_holds}

-- THE GUARDED CALL.
module _ (request lent : List ℕ) (budget : ℕ) (answer : Answer) (left : List ℕ) (is : record { answer = answer; state = left } ≡ judge_guarded format request lent budget) where
  -- What is so of the definition's judgement is so of this one.
  as_judged : (P : Judgement → Type 0) → P (judge_guarded format request lent budget) → P (record { answer = answer; state = left })
  as_judged P = subst P (sym is)

  number_is : (judge_guarded format request lent budget).answer.number ≡ answer.number
  number_is = ap (λ (j : Judgement). j.answer.number) (sym is)

  pub numbered : among answer.number guarded_answers ≡ true
  numbered = as_judged (λ j. among j.answer.number guarded_answers ≡ true) (Demands.guarded_numbered format request lent budget)

  pub answers_the_cases : (row : Row) → Has proved_cases row → row.call ≡ guarding_line request lent budget
      → row.gives ≡ judged_line (record { answer = answer; state = left }) (line_guarded format request lent budget)
  answers_the_cases row has call = row_holds row has (guarding_line request lent budget) call ∙ ap (λ (j : Judgement). judged_line j (line_guarded format request lent budget)) (sym is)

  pub kept : among answer.number with_state ≡ false → left ≡ lent
  kept = as_judged (λ j. among j.answer.number with_state ≡ false → j.state ≡ lent) (Demands.guarded_state format request lent budget).as_lent

  pub written : among answer.number with_state ≡ true → GuardedWritten request left
  written = as_judged (λ j. among j.answer.number with_state ≡ true → GuardedWritten request j.state) (guarded_written request lent budget)

  pub sound : answer.number ≡ Limits.verified → (g : GuardedRequest) × (e : ℕ) × (settled_guarded format request ≡ got g e) × CarriedOutUnder (values g.guards) g.request
  sound passes = Demands.guarded_sound format request lent budget (number_is ∙ passes)

  pub no_guards : (b : List ℕ) → request ≡ b ++ (0 ∷ []) → length b < format.request
      → (Judging.number format b lent budget ≡ Limits.ends_too_soon → ⊥) → (Judging.number format b lent budget ≡ Limits.bytes_after → ⊥)
      → record { answer = answer; state = left } ≡ judge format b lent budget
  no_guards b behind short not-11 not-20 =
      is ∙ ap (λ (s : List ℕ). judge_guarded format s lent budget) behind ∙ Demands.without_guards format b lent budget short not-11 not-20

  pub input_exactly : WalkInput answer
  input_exactly = as_judged (λ j. WalkInput j.answer) (Demands.guarded_input format request lent budget)

  pub count_exactly : GuardedCount format request budget answer
  count_exactly = as_judged (λ j. GuardedCount format request budget j.answer) (Demands.guarded_count format request lent budget)

  pub place_within : Placed (length request) answer.number answer.place
  place_within = as_judged (λ j. Placed (length request) j.answer.number j.answer.place) (Demands.guarded_place format request lent budget)

  pub state_exactly : GuardedState format request lent (record { answer = answer; state = left })
  state_exactly = as_judged (GuardedState format request lent) (Demands.guarded_state format request lent budget)

  module _ (g : GuardedRequest) (e : ℕ) (lent_length : length lent ≡ format.state) (past : settled_guarded format request ≡ got g e) where
    pub in_order : record { answer = answer; state = left } ≡ within lent budget (walked_along (missed_in g.request) (met_paths format g))
    in_order = is ∙ Demands.in_guarded_order format request lent budget g e lent_length past

    pub spent_exactly : (answer.number ≡ Limits.budget_spent) ↔ (budget < count format g)
    spent_exactly = rw (sym number_is) (Demands.guarded_spent_exactly format request lent budget g e lent_length past)

    pub broken_there : answer.number ≡ Limits.guard_broken → BrokenAt g.guards (met_paths format g) answer.place left
    broken_there =
        as_judged (λ j. j.answer.number ≡ Limits.guard_broken → BrokenAt g.guards (met_paths format g) j.answer.place j.state)
        (Demands.broken_there format request lent budget g e lent_length past)

    pub broken_where_met : answer.number ≡ Limits.guard_broken → (left ≡ first_state format g.request.table) ⊎ MetIn g.request.table g.request.plan (least g.request.table) (pair_of left)
    broken_where_met =
        as_judged (λ j. j.answer.number ≡ Limits.guard_broken
        → (j.state ≡ first_state format g.request.table) ⊎ MetIn g.request.table g.request.plan (least g.request.table) (pair_of j.state))
        (Demands.broken_where_met format format_room request lent budget g e lent_length past)

    pub missed_there : answer.number ≡ Limits.goal_missed → MissedAt g.request (met_paths format g) answer.place left
    missed_there =
        as_judged (λ j. j.answer.number ≡ Limits.goal_missed → MissedAt g.request (met_paths format g) j.answer.place j.state)
        (Demands.guarded_missed_there format format_room request lent budget g e lent_length past)

    pub stopped_there : answer.number ≡ Limits.not_executable → StoppedAt g.request (met_paths format g) answer.place left
    stopped_there =
        as_judged (λ j. j.answer.number ≡ Limits.not_executable → StoppedAt g.request (met_paths format g) j.answer.place j.state)
        (Demands.guarded_stopped_there format format_room request lent budget g e lent_length past)

    module _ (enough : count format g ≤ budget) where
      pub broken_exactly : (answer.number ≡ Limits.guard_broken) ↔ ((p : ℕ) × (u : State) × FirstStop (met_paths format g) Limits.guard_broken p u)
      broken_exactly = rw (sym number_is) (Demands.broken_exactly format request lent budget g e lent_length past enough)

      pub stuck_exactly : (answer.number ≡ Limits.not_executable) ↔ ((p : ℕ) × (u : State) × FirstStop (met_paths format g) Limits.not_executable p u)
      stuck_exactly = rw (sym number_is) (Demands.guarded_stuck_exactly format request lent budget g e lent_length past enough)

      pub verified_exactly : (answer.number ≡ Limits.verified) ↔ (Entailed g.request × GuardsTrue g.request (values g.guards))
      verified_exactly = rw (sym number_is) (Demands.guarded_verified_exactly format format_room request lent budget g e lent_length past enough)

      pub missed_exactly : (answer.number ≡ Limits.goal_missed)
          ↔ (((p : ℕ) (u : State) → FirstStop (met_paths format g) Limits.guard_broken p u → ⊥)
          × ((p : ℕ) (u : State) → FirstStop (met_paths format g) Limits.not_executable p u → ⊥)
          × (Entailed g.request × GuardsTrue g.request (values g.guards) → ⊥))
      missed_exactly = rw (sym number_is) (Demands.guarded_missed_otherwise format format_room request lent budget g e lent_length past enough)

      pub verified_on_paths : (answer.number ≡ Limits.verified)
          ↔ ((x : Path State) → Has (met_paths format g) x → (u : State) × (x.ending ≡ arrives u) × (missed_in g.request u ≡ nowhere))
      verified_on_paths = rw (sym number_is) (Demands.guarded_fine_exactly format request lent budget g e lent_length past enough)

      pub missed_on_paths : (answer.number ≡ Limits.goal_missed)
          ↔ (((x : Path State) → Has (met_paths format g) x → Arrives x)
          × ((x : Path State) × (u : State) × (p : ℕ) × Has (met_paths format g) x × (x.ending ≡ arrives u) × (missed_in g.request u ≡ at p)))
      missed_on_paths = rw (sym number_is) (Demands.guarded_missed_exactly format request lent budget g e lent_length past enough)

-- THE LINE, where the number that the call gives beside its answer is the definition's.
module _ (request lent : List ℕ) (budget : ℕ) (answer : Answer) (left : List ℕ) (is : record { answer = answer; state = left } ≡ judge_guarded format request lent budget)
    (carried : ℕ) (told : carried ≡ line_guarded format request lent budget) where
  as_told : (P : Judgement → ℕ → Type 0) → P (judge_guarded format request lent budget) (line_guarded format request lent budget) → P (record { answer = answer; state = left }) carried
  as_told P h = subst (λ (j : Judgement). P j carried) (sym is) (subst (P (judge_guarded format request lent budget)) (sym told) h)

  pub answers_the_line_cases : (row : Row) → Has proved_cases row → row.call ≡ guarding_line request lent budget → row.gives ≡ judged_line (record { answer = answer; state = left }) carried
  answers_the_line_cases row has call = row_holds row has (guarding_line request lent budget) call ∙ ap₂ {C = Given} judged_line (sym is) (sym told)

  pub no_line : (answer.number ≡ Limits.not_executable → ⊥) → carried ≡ 0
  no_line = as_told (λ j l. (j.answer.number ≡ Limits.not_executable → ⊥) → l ≡ 0) (Demands.guarded_no_line format request lent budget)

  pub no_line_broken : answer.number ≡ Limits.guard_broken → carried ≡ 0
  no_line_broken = as_told (λ j l. j.answer.number ≡ Limits.guard_broken → l ≡ 0) (Demands.no_line_broken format request lent budget)

  module _ (g : GuardedRequest) (e : ℕ) (past : settled_guarded format request ≡ got g e) where
    pub line_there : answer.number ≡ Limits.not_executable → (i : Item ℕ) → ItemIn g.request.plan i → item_place i ≡ answer.place → carried ≡ item_line g.request.table i left
    line_there =
        as_told (λ j l. j.answer.number ≡ Limits.not_executable → (i : Item ℕ) → ItemIn g.request.plan i → item_place i ≡ j.answer.place → l ≡ item_line g.request.table i j.state)
        (Demands.guarded_line_there format request lent budget g e past)

    pub line_missing : length lent ≡ format.state → answer.number ≡ Limits.not_executable → (a : ℕ) → ItemIn g.request.plan (act answer.place a)
        → ((executability_of g.request.table a ≡ []) × (carried ≡ 0)) ⊎ Nearest left (executability_of g.request.table a) carried
    line_missing lent_length =
        as_told (λ j l. j.answer.number ≡ Limits.not_executable → (a : ℕ) → ItemIn g.request.plan (act j.answer.place a)
        → ((executability_of g.request.table a ≡ []) × (l ≡ 0)) ⊎ Nearest j.state (executability_of g.request.table a) l)
        (Demands.guarded_line_missing format request lent budget g e past format_room lent_length)
