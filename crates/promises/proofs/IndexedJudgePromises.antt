-- What the indexed call promises, once: of an answer and of lent bytes that are the definition's. With every other number than 45 they are the walk call's, and what is
-- promised of that call is cited. Assumes nothing.
use Prim.Native.Nat.{ℕ, ◌≤◌, ◌<◌}
use native.Mathlib.Omega.{arith}
use mathlib.Core.Path.{◌≡◌, sym, ◌∙◌, ap, ap₂, subst}
use mathlib.Core.Bool.{true}
use mathlib.Core.List.{List, []}
use mathlib.Core.Logic.{◌⊎◌, ◌↔◌, ⊎_elim}
use lib.ListN.{length, take}
use lib.Dec.{eqb}
use borrow.Author.Tests.{eqb-true, eqb-false}
use Rattle.meaning.specs.declared.Answer.{Answer}
use Rattle.meaning.specs.Limits
use Rattle.meaning.specs.Limits.{format, most_index}
use Rattle.meaning.specs.Literals.{among}
use Rattle.meaning.specs.Requests.{Item, act, Request}
use Rattle.meaning.specs.Reading.{got}
use Rattle.meaning.specs.Refusals.{settled}
use Rattle.meaning.specs.States.{first_state}
use Rattle.meaning.specs.Walk.{table_step, missed_in}
use Rattle.meaning.specs.Lines.{executability_of}
use Rattle.meaning.specs.Judging.{Judgement, within, judge, count}
use Rattle.meaning.specs.Indexes.{index_of, Built, build, judge_indexed, line_indexed, Differs, AsWalked}
use Rattle.meaning.specs.Approximation.{failed, Φ̂, least, Entailed}
use Rattle.meaning.specs.Paths.{paths, walked_along}
use Rattle.meaning.specs.Reported.{Misses, all_paths, MissedAt, ItemIn, item_place, StoppedAt, Nearest, item_line}
use Rattle.meaning.specs.Worlds.{CarriedOut}
use Rattle.meaning.specs.Layouts.{Bytes}
use Rattle.meaning.specs.Answers.{indexed_answers}
use Rattle.meaning.specs.AnswerParts.{WalkCount, IndexedInput, IndexedPlaced, IndexedState}
use Rattle.meaning.specs.Tests.{Has}
use Rattle.meaning.proofs.TestLaws.{by-test}
use Rattle.demands.proofs.Demands
use Rattle.demands.proofs.ProvedCases.{indexed_line, Given, judged_line, Row, proved_cases}
use Rattle.glintstring.specs.LentState.{Writes, Written}
use Rattle.promises.proofs.CasePromises.{row_holds}
use Rattle.promises.proofs.JudgePromises

-- 45 IS TOLD: the lent state has its length, the request is settled, the place is that of the first difference between its index and the one that was given, the index is
-- named, the count is 0, and the lent bytes are as they were (FORMAT 23.15, 23.25).
abbrev pub DiffersTold : (request index lent : List ℕ) → Answer → (left : List ℕ) → Type 0
DiffersTold request index lent answer left =
    (length lent ≡ format.state) × ((x : Request) × (e : ℕ) × (settled format request ≡ got x e) × Differs (index_of x.table) index answer.place)
    × (answer.input ≡ Limits.the_index) × (answer.count ≡ 0) × (left ≡ lent)

-- THE INDEXED CALL.
module _ (request index lent : List ℕ) (budget : ℕ) (answer : Answer) (left : List ℕ) (is : record { answer = answer; state = left } ≡ judge_indexed format request index lent budget) where
  -- What is so of the definition's judgement is so of this one.
  as_judged : (P : Judgement → Type 0) → P (judge_indexed format request index lent budget) → P (record { answer = answer; state = left })
  as_judged P = subst P (sym is)

  number_is : (judge_indexed format request index lent budget).answer.number ≡ answer.number
  number_is = ap (λ (j : Judgement). j.answer.number) (sym is)

  pub numbered : among answer.number indexed_answers ≡ true
  numbered = as_judged (λ j. among j.answer.number indexed_answers ≡ true) (Demands.indexed_numbered format request index lent budget)

  pub answers_the_cases : (row : Row) → Has proved_cases row → row.call ≡ indexed_line request index lent budget
      → row.gives ≡ judged_line (record { answer = answer; state = left }) (line_indexed format request index lent budget)
  answers_the_cases row has call =
      row_holds row has (indexed_line request index lent budget) call ∙ ap (λ (j : Judgement). judged_line j (line_indexed format request index lent budget)) (sym is)

  -- 45.
  pub differs_exactly : (answer.number ≡ Limits.index_differs) ↔ ((length lent ≡ format.state) × ((x : Request) × (e : ℕ) × (settled format request ≡ got x e) × (index_of x.table ≡ index → ⊥)))
  differs_exactly = rw (sym number_is) (Demands.differs_exactly format request index lent budget)

  pub differs_there : answer.number ≡ Limits.index_differs → DiffersTold request index lent answer left
  differs_there k =
      let d = Demands.differs_so format request index lent budget (number_is ∙ k) in
      let same = is ∙ d.judges in (
        d.sized,
        (d.says, d.end, d.settles, subst (Differs (index_of d.says.table) index) (sym (ap (λ (j : Judgement). j.answer.place) same)) d.differs),
        ap (λ (j : Judgement). j.answer.input) same,
        ap (λ (j : Judgement). j.answer.count) same,
        ap (λ (j : Judgement). j.state) same,
      )

  pub differs_limited : Bytes request → answer.number ≡ Limits.index_differs → answer.place ≤ most_index
  differs_limited bytes = as_judged (λ j. j.answer.number ≡ Limits.index_differs → j.answer.place ≤ most_index) (Demands.differs_place_limited request bytes index lent budget)

  -- EVERY OTHER NUMBER.
  pub otherwise : (answer.number ≡ Limits.index_differs → ⊥) → AsWalked format request index lent budget
  otherwise other = Demands.walked_otherwise format request index lent budget (λ k. other (sym number_is ∙ k))

  pub as_walked : (answer.number ≡ Limits.index_differs → ⊥) → record { answer = answer; state = left } ≡ judge format request lent budget
  as_walked other = is ∙ (otherwise other).judges

  -- It is another, where it is one of the walk call's.
  walked_at : (n : ℕ) → answer.number ≡ n → (n ≡ Limits.index_differs → ⊥) → record { answer = answer; state = left } ≡ judge format request lent budget
  walked_at n numbers not = as_walked (λ k. not (sym numbers ∙ k))

  -- THE LENT BYTES.
  pub kept : (answer.number ≡ Limits.goal_missed → ⊥) → (answer.number ≡ Limits.not_executable → ⊥) → left ≡ lent
  kept one two =
      by-test (eqb answer.number Limits.index_differs)
      (λ t. (differs_there (eqb-true _ _ t)).4)
      (λ f. JudgePromises.kept request lent budget answer left (as_walked (eqb-false _ _ f)) one two)

  pub written : Writes answer.number → Written request left
  written writes = JudgePromises.written request lent budget answer left (⊎_elim (λ one. walked_at _ one (λ k. omega (arith, k))) (λ two. walked_at _ two (λ k. omega (arith, k))) writes) writes

  -- DEMAND 3.
  pub sound : answer.number ≡ Limits.verified → (x : Request) × (e : ℕ) × (settled format request ≡ got x e) × CarriedOut x
  sound passes = JudgePromises.sound request lent budget answer left (walked_at _ passes (λ k. omega (arith, k))) passes

  -- INPUT, COUNT, PLACE AND STATE.
  pub input_exactly : IndexedInput answer
  input_exactly = as_judged (λ j. IndexedInput j.answer) (Demands.indexed_input format request index lent budget)

  pub count_exactly : WalkCount format request budget answer
  count_exactly = as_judged (λ j. WalkCount format request budget j.answer) (Demands.indexed_count format request index lent budget)

  pub place_within : IndexedPlaced (length request) (length index) answer.number answer.place
  place_within = as_judged (λ j. IndexedPlaced (length request) (length index) j.answer.number j.answer.place) (Demands.indexed_place format request index lent budget)

  pub state_exactly : IndexedState format request lent (record { answer = answer; state = left })
  state_exactly = as_judged (IndexedState format request lent) (Demands.indexed_state format request index lent budget)

  -- DEMAND 2.
  module _ (x : Request) (e : ℕ) (lent_length : length lent ≡ format.state) (past : settled format request ≡ got x e) where
    pub missed_there : answer.number ≡ Limits.goal_missed → MissedAt x (all_paths format x) answer.place left
    missed_there one = JudgePromises.missed_there request lent budget answer left (walked_at _ one (λ k. omega (arith, k))) x e lent_length past one

    pub stopped_there : answer.number ≡ Limits.not_executable → StoppedAt x (all_paths format x) answer.place left
    stopped_there two = JudgePromises.stopped_there request lent budget answer left (walked_at _ two (λ k. omega (arith, k))) x e lent_length past two

    module _ (other : answer.number ≡ Limits.index_differs → ⊥) where
      pub in_order : record { answer = answer; state = left } ≡ within lent budget (walked_along (missed_in x) (paths (table_step x.table) x.plan (first_state format x.table)))
      in_order = JudgePromises.in_order request lent budget answer left (as_walked other) x e lent_length past

      pub spent_exactly : (answer.number ≡ Limits.budget_spent) ↔ (budget < count format x)
      spent_exactly = JudgePromises.spent_exactly request lent budget answer left (as_walked other) x e lent_length past

      module _ (enough : count format x ≤ budget) where
        pub stuck_exactly : (answer.number ≡ Limits.not_executable) ↔ Φ̂ x.table x.plan (least x.table) failed
        stuck_exactly = JudgePromises.stuck_exactly request lent budget answer left (as_walked other) x e lent_length past enough

        pub verified_exactly : (answer.number ≡ Limits.verified) ↔ Entailed x
        verified_exactly = JudgePromises.verified_exactly request lent budget answer left (as_walked other) x e lent_length past enough

        pub missed_exactly : (answer.number ≡ Limits.goal_missed) ↔ ((Φ̂ x.table x.plan (least x.table) failed → ⊥) × (Entailed x → ⊥))
        missed_exactly = JudgePromises.missed_exactly request lent budget answer left (as_walked other) x e lent_length past enough

        pub missed_in_an_end_state : (answer.number ≡ Limits.goal_missed) ↔ Misses x
        missed_in_an_end_state = JudgePromises.missed_in_an_end_state request lent budget answer left (as_walked other) x e lent_length past enough

-- BUILT, THEN JUDGED: the index is what the index call wrote of the same request, into whatever room, and as long as its count says.
pub built_index : (request index room lent : List ℕ) (budget : ℕ) (a : Answer) (written : List ℕ) → record { answer = a; room = written } ≡ build format request room → a.number ≡ Limits.verified → index ≡ take a.count written
    → AsWalked format request index lent budget
built_index request index room lent budget a written builds zero is =
    let of : (P : Built → Type 0) → P (build format request room) → P (record { answer = a; room = written }) = λ P. subst P (sym builds) in
    subst (λ (i : List ℕ). AsWalked format request i lent budget) (sym is)
    (of (λ b. b.answer.number ≡ Limits.verified → AsWalked format request (take b.answer.count b.room) lent budget) (λ q. Demands.built_then_judged format request room q lent budget) zero)

-- THE LINE, where the number that the call gives beside its answer is the definition's.
module _ (request index lent : List ℕ) (budget : ℕ) (answer : Answer) (left : List ℕ) (is : record { answer = answer; state = left } ≡ judge_indexed format request index lent budget)
    (carried : ℕ) (told : carried ≡ line_indexed format request index lent budget) where
  as_told : (P : Judgement → ℕ → Type 0) → P (judge_indexed format request index lent budget) (line_indexed format request index lent budget) → P (record { answer = answer; state = left }) carried
  as_told P h = subst (λ (j : Judgement). P j carried) (sym is) (subst (P (judge_indexed format request index lent budget)) (sym told) h)

  pub answers_the_line_cases : (row : Row) → Has proved_cases row → row.call ≡ indexed_line request index lent budget → row.gives ≡ judged_line (record { answer = answer; state = left }) carried
  answers_the_line_cases row has call = row_holds row has (indexed_line request index lent budget) call ∙ ap₂ {C = Given} judged_line (sym is) (sym told)

  pub no_line : (answer.number ≡ Limits.not_executable → ⊥) → carried ≡ 0
  no_line = as_told (λ j l. (j.answer.number ≡ Limits.not_executable → ⊥) → l ≡ 0) (Demands.indexed_no_line format request index lent budget)

  module _ (x : Request) (e : ℕ) (past : settled format request ≡ got x e) (two : answer.number ≡ Limits.not_executable) where
    walked : AsWalked format request index lent budget
    walked = otherwise request index lent budget answer left is (λ k. omega (arith, two, k))

    pub line_there : (i : Item ℕ) → ItemIn x.plan i → item_place i ≡ answer.place → carried ≡ item_line x.table i left
    line_there = JudgePromises.line_there request lent budget answer left (is ∙ walked.judges) carried (told ∙ walked.tells) x e past two

    pub line_missing : length lent ≡ format.state → (a : ℕ) → ItemIn x.plan (act answer.place a)
        → ((executability_of x.table a ≡ []) × (carried ≡ 0)) ⊎ Nearest left (executability_of x.table a) carried
    line_missing lent_length = JudgePromises.line_missing request lent budget answer left (is ∙ walked.judges) carried (told ∙ walked.tells) x e past lent_length two
