-- What is promised of an own answer and of a row that are the definition's: said once for the release call and for its exported form. Assumes nothing.
use Prim.Native.Nat.{ℕ, ◌-◌, ◌*◌, ◌<◌}
use mathlib.Core.Path.{◌≡◌, sym, ◌∙◌, ap, subst}
use mathlib.Core.Bool.{true}
use mathlib.Core.List.{List, ◌∷◌}
use lib.ListN.{length}
use Rattle.meaning.specs.declared.Answer.{Answer}
use Rattle.meaning.specs.Limits
use Rattle.meaning.specs.Limits.{format}
use Rattle.meaning.specs.Literals.{among}
use Rattle.meaning.specs.Requests.{Request}
use Rattle.meaning.specs.Reading.{got, fault}
use Rattle.meaning.specs.Refusals.{settled}
use Rattle.meaning.specs.Judging.{judge}
use Rattle.meaning.specs.Releases.{Opening, opening, plans_at, unreached, in_row, Released, release, plans_in, own_request, moved, row_of}
use Rattle.meaning.specs.Worlds.{CarriedOut}
use Rattle.meaning.specs.Answers.{release_answers}
use Rattle.meaning.specs.Tests.{Has}
use Rattle.meaning.specs.AnswerParts.{WalkInput, Placed, RowParts}
use Rattle.meaning.proofs.ReleaseLaws.{opens, judged}
use Rattle.demands.proofs.Demands
use Rattle.demands.proofs.ProvedCases.{releasing, released, Row, proved_cases}
use Rattle.promises.proofs.CasePromises.{row_holds}
use Rattle.meaning.proofs.TestLaws.{by-test}
use lib.Dec.{eqb}
use borrow.Author.Tests.{eqb-true, eqb-false}

module _ (file lent : List ℕ) (budget : ℕ) (answer : Answer) (left : List ℕ) (releases : record { answer = answer; row = left } ≡ release format file lent budget) where
  answer_is : answer ≡ (release format file lent budget).answer
  answer_is = ap (λ (j : Released). j.answer) releases

  row_is : left ≡ (release format file lent budget).row
  row_is = ap (λ (j : Released). j.row) releases

  -- THE OWN ANSWER (FORMAT 19.12, 19.15, 19.17) is one of its numbers, with the input and the place that the number says, and no count.
  pub numbered : among answer.number release_answers ≡ true
  numbered = rw answer_is (Demands.own_numbered format file lent budget)

  pub input_exactly : WalkInput answer
  input_exactly = subst WalkInput (sym answer_is) (Demands.own_input format file lent budget)

  pub place_within : Placed (length file) answer.number answer.place
  place_within = subst (λ (a : Answer). Placed (length file) a.number a.place) (sym answer_is) (Demands.own_place format file lent budget)

  pub no_count : answer.count ≡ 0
  no_count = ap (λ (a : Answer). a.count) answer_is ∙ Demands.own_count format file lent budget

  -- The proved cases (FORMAT 15.12): given a row's inputs, it answers what the row says, and leaves the row that it says.
  pub answers_the_cases : (row : Row) → Has proved_cases row → row.call ≡ releasing file lent budget → row.gives ≡ released (record { answer = answer; row = left })
  answers_the_cases row has is = row_holds row has (releasing file lent budget) is ∙ ap released (sym releases)

  zero_there : answer.number ≡ Limits.verified → (release format file lent budget).answer.number ≡ Limits.verified
  zero_there zero = sym (ap (λ (a : Answer). a.number) answer_is) ∙ zero

  -- THE ROW (FORMAT 19.13) stays as lent with every own answer but 0.
  pub as_lent : (answer.number ≡ Limits.verified → ⊥) → left ≡ lent
  as_lent other = row_is ∙ Demands.row_as_lent format file lent budget (λ zero. other (ap (λ (a : Answer). a.number) answer_is ∙ zero))

  -- It keeps its length (FORMAT 19.28).
  pub row_length : length left ≡ length lent
  row_length =
      by-test (eqb answer.number Limits.verified)
      (λ t.
      let zero = zero_there (eqb-true _ _ t) in
      let o = opens format file lent budget zero in
      ap length row_is ∙ Demands.row_sized format file lent budget zero o.0 o.1 o.2 ∙ sym (judged format file lent budget zero o.0 o.1 o.2).sized)
      (λ f. ap length (as_lent (eqb-false _ _ f)))

  -- A row of four times the number that the plans call gives is not refused by 9 (FORMAT 19.19).
  pub row_fits : length lent ≡ 4 * plans_in format file → answer.number ≡ Limits.state_length → ⊥
  row_fits sized nine = Demands.row_fits format file lent budget sized (sym (ap (λ (a : Answer). a.number) answer_is) ∙ nine)

  -- WITH 0 the file was opened.
  pub opened : answer.number ≡ Limits.verified → (o : Opening) × (p : ℕ) × (opening format file ≡ got o p)
  opened zero = opens format file lent budget (zero_there zero)

  module _ (zero : answer.number ≡ Limits.verified) (o : Opening) (p : ℕ) (is : opening format file ≡ got o p) where
    -- The row has four numbers for each plan,
    pub row_sized : length left ≡ 4 * o.plans
    row_sized = ap length row_is ∙ Demands.row_sized format file lent budget (zero_there zero) o p is

    module _ (i : ℕ) (less : i < o.plans) where
      there : row_of left i ≡ row_of (release format file lent budget).row i
      there = ap (λ (row : List ℕ). row_of row i) row_is

      -- and each four of them are an answer's (FORMAT 19.17): one of a row's numbers, a place in the file, a count within the budget, and an input.
      pub row_within : (a : Answer) × (row_of left i ≡ in_row a) × RowParts (length file) budget a
      row_within = let w = Demands.row_within format file lent budget (zero_there zero) o p is i less in (w.0, there ∙ w.1, w.2)

      -- EACH ROW IS THE WALK CALL'S ANSWER (FORMAT 19.7, 19.8): where the plans before it were read and end at `start`, it is what the walk call answers of
      -- sections 1 to 5 and this plan's sections 6 to 8, with the same budget and whatever state is lent, its place moved to where the plan stands.
      pub each_row : (rs : List Request) (start : ℕ) → plans_at format file o.table i p ≡ got rs start → (room : List ℕ) → length room ≡ format.state
          → row_of left i ≡ in_row (moved (start - o.table_end) (judge format (own_request format file o start) room budget).answer)
      each_row rs start before room sized = there ∙ Demands.each_row format file lent budget (zero_there zero) o p is i less rs start before room sized

      -- A plan is not reached exactly where one before it failed in reading (FORMAT 19.10).
      pub behind_a_failure : (n k : ℕ) → plans_at format file o.table i p ≡ fault n k → row_of left i ≡ in_row unreached
      behind_a_failure n k before = there ∙ Demands.behind_a_failure format file lent budget (zero_there zero) o p is i less n k before

      pub not_reached_exactly : (rest : List ℕ) → row_of left i ≡ Limits.not_reached ∷ rest → (n k : ℕ) × (plans_at format file o.table i p ≡ fault n k)
      not_reached_exactly rest says = Demands.not_reached_exactly format file lent budget (zero_there zero) o p is i less rest (sym there ∙ says)

      -- DEMAND 3 (FORMAT 19.27): where the row has 0 for a plan, those before it were read, its request is settled, and it is carried out in
      -- every world with the initial facts.
      pub sound : (rest : List ℕ) → row_of left i ≡ Limits.verified ∷ rest
          → (rs : List Request) × (start : ℕ) × (plans_at format file o.table i p ≡ got rs start)
          × ((x : Request) × (e : ℕ) × (settled format (own_request format file o start) ≡ got x e) × CarriedOut x)
      sound rest says = Demands.sound_release format file lent budget (zero_there zero) o p is i less rest (sym there ∙ says)
