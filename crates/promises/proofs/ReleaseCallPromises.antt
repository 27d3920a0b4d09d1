-- What the release call and the plans call promise: each theorem is of an answer and of a row, or of a number, that meets the call's own contract. Whatever
-- `ReleasePromises` says of an own answer and of a row is so of what the release call gives, by its contract. Assumes nothing.
use Prim.Native.Nat.{ℕ, ◌-◌, ◌*◌, ◌<◌}
use mathlib.Core.Path.{◌≡◌, sym, ◌∙◌, ap}
use mathlib.Core.Bool.{true}
use mathlib.Core.List.{List, ◌∷◌}
use lib.ListN.{length}
use contract.Lifetimes.{Lfts}
use borrow.Fn.Kinds.{Dens, ended_of}
use denote.Triple.Clauses.{AtExit}
use Rattle.meaning.specs.declared.Answer.{Answer}
use Rattle.meaning.specs.Limits
use Rattle.meaning.specs.Limits.{format}
use Rattle.meaning.specs.Literals.{among}
use Rattle.meaning.specs.Requests.{Request}
use Rattle.meaning.specs.Reading.{got, fault}
use Rattle.meaning.specs.Refusals.{settled}
use Rattle.meaning.specs.Judging.{judge}
use Rattle.meaning.specs.Releases.{Opening, opening, plans_at, unreached, in_row, Released, release, plans_in, own_request, moved, row_of}
use Rattle.meaning.specs.Worlds.{CarriedOut}
use Rattle.meaning.specs.Answers.{release_answers}
use Rattle.meaning.specs.Tests.{Has}
use Rattle.meaning.specs.AnswerParts.{WalkInput, Placed, RowParts}
use Rattle.demands.proofs.Demands
use Rattle.demands.proofs.ProvedCases.{releasing, released, Row, proved_cases}
use Rattle.promises.proofs.ReleasePromises
use Rattle.verdicts.proofs.releasing.release.Kinds.{ps, r}
use Rattle.verdicts.proofs.releasing.release.Reads.{Pre, Post}
use Rattle.verdicts.proofs.releasing.plans.Kinds as plans-kinds
use Rattle.verdicts.proofs.releasing.plans.Reads as plans-reads

-- WHAT THE RELEASE CALL IS GIVEN, by the values of its three parameters.
module _ (κs : Lfts 2) (given : Dens κs ps) where
  abbrev pub file : List ℕ
  file = given.0.now

  abbrev pub lent : List ℕ
  lent = given.1.0.now

  abbrev pub budget : ℕ
  budget = given.1.1.0

  -- What it leaves in the lent row.
  abbrev pub left : AtExit (ended_of 2 ps r) κs → List ℕ
  left exit = exit.1.0.now

  -- THE CONTRACT, as the source has it.
  pub as_written : (answer : Answer) (exit : AtExit (ended_of 2 ps r) κs) → Post κs given answer exit → record { answer = answer; row = left exit } ≡ release format file lent budget
  as_written answer exit meets = meets

  -- Two results that meet the contract on the same input are equal: it says everything (FORMAT 19.25).
  pub determined : (answer answer' : Answer) (exit exit' : AtExit (ended_of 2 ps r) κs) → Post κs given answer exit → Post κs given answer' exit' → (answer ≡ answer') × (left exit ≡ left exit')
  determined answer answer' exit exit' meets meets' =
      let same : ◌≡◌ {A = Released} (record { answer = answer; row = left exit }) (record { answer = answer'; row = left exit' }) = meets ∙ sym meets' in
      (ap (λ (j : Released). j.answer) same, ap (λ (j : Released). j.row) same)

  -- It may be called with anything.
  pub asks_nothing : Pre κs given
  asks_nothing = tt

  -- A RESULT that meets the contract.
  module _ (answer : Answer) (exit : AtExit (ended_of 2 ps r) κs) (meets : Post κs given answer exit) where
    -- The own answer (FORMAT 19.12, 19.15, 19.17).
    pub numbered : among answer.number release_answers ≡ true
    numbered = ReleasePromises.numbered file lent budget answer (left exit) meets

    pub input_exactly : WalkInput answer
    input_exactly = ReleasePromises.input_exactly file lent budget answer (left exit) meets

    pub place_within : Placed (length file) answer.number answer.place
    place_within = ReleasePromises.place_within file lent budget answer (left exit) meets

    pub no_count : answer.count ≡ 0
    no_count = ReleasePromises.no_count file lent budget answer (left exit) meets

    -- The proved cases (FORMAT 15.12).
    pub answers_the_cases : (row : Row) → Has proved_cases row → row.call ≡ releasing file lent budget → row.gives ≡ released (record { answer = answer; row = left exit })
    answers_the_cases = ReleasePromises.answers_the_cases file lent budget answer (left exit) meets

    -- The row stays as lent with every own answer but 0, and keeps its length (FORMAT 19.13, 19.28).
    pub as_lent : (answer.number ≡ Limits.verified → ⊥) → left exit ≡ lent
    as_lent = ReleasePromises.as_lent file lent budget answer (left exit) meets

    pub row_length : length (left exit) ≡ length lent
    row_length = ReleasePromises.row_length file lent budget answer (left exit) meets

    pub row_fits : length lent ≡ 4 * plans_in format file → answer.number ≡ Limits.state_length → ⊥
    row_fits = ReleasePromises.row_fits file lent budget answer (left exit) meets

    pub opened : answer.number ≡ Limits.verified → (o : Opening) × (p : ℕ) × (opening format file ≡ got o p)
    opened = ReleasePromises.opened file lent budget answer (left exit) meets

    -- With 0, of the plan with i before it.
    module _ (zero : answer.number ≡ Limits.verified) (o : Opening) (p : ℕ) (is : opening format file ≡ got o p) where
      pub row_sized : length (left exit) ≡ 4 * o.plans
      row_sized = ReleasePromises.row_sized file lent budget answer (left exit) meets zero o p is

      module _ (i : ℕ) (less : i < o.plans) where
        pub row_within : (a : Answer) × (row_of (left exit) i ≡ in_row a) × RowParts (length file) budget a
        row_within = ReleasePromises.row_within file lent budget answer (left exit) meets zero o p is i less

        -- Each row is the walk call's answer (FORMAT 19.26).
        pub each_row : (rs : List Request) (start : ℕ) → plans_at format file o.table i p ≡ got rs start → (room : List ℕ) → length room ≡ format.state
            → row_of (left exit) i ≡ in_row (moved (start - o.table_end) (judge format (own_request format file o start) room budget).answer)
        each_row = ReleasePromises.each_row file lent budget answer (left exit) meets zero o p is i less

        pub behind_a_failure : (n k : ℕ) → plans_at format file o.table i p ≡ fault n k → row_of (left exit) i ≡ in_row unreached
        behind_a_failure = ReleasePromises.behind_a_failure file lent budget answer (left exit) meets zero o p is i less

        pub not_reached_exactly : (rest : List ℕ) → row_of (left exit) i ≡ Limits.not_reached ∷ rest → (n k : ℕ) × (plans_at format file o.table i p ≡ fault n k)
        not_reached_exactly = ReleasePromises.not_reached_exactly file lent budget answer (left exit) meets zero o p is i less

        -- Demand 3, plan by plan (FORMAT 19.27).
        pub sound : (rest : List ℕ) → row_of (left exit) i ≡ Limits.verified ∷ rest
            → (rs : List Request) × (start : ℕ) × (plans_at format file o.table i p ≡ got rs start)
            × ((x : Request) × (e : ℕ) × (settled format (own_request format file o start) ≡ got x e) × CarriedOut x)
        sound = ReleasePromises.sound file lent budget answer (left exit) meets zero o p is i less

-- THE PLANS CALL (FORMAT 19.18, 19.19).
module _ (κs : Lfts 1) (given : Dens κs plans-kinds.ps) where
  abbrev pub counted_file : List ℕ
  counted_file = given.0.now

  pub plans_as_written : (count : ℕ) (exit : AtExit (ended_of 1 plans-kinds.ps plans-kinds.r) κs) → plans-reads.Post κs given count exit → count ≡ plans_in format counted_file
  plans_as_written count exit meets = meets

  pub plans_determined : (count count' : ℕ) (exit exit' : AtExit (ended_of 1 plans-kinds.ps plans-kinds.r) κs) → plans-reads.Post κs given count exit → plans-reads.Post κs given count' exit' → count ≡ count'
  plans_determined count count' exit exit' meets meets' = meets ∙ sym meets'

  pub plans_asks_nothing : plans-reads.Pre κs given
  plans_asks_nothing = tt

  module _ (count : ℕ) (exit : AtExit (ended_of 1 plans-kinds.ps plans-kinds.r) κs) (meets : plans-reads.Post κs given count exit) where
    -- It is the plan count of a file that is opened, and 0 exactly of one that is refused before its row is looked at.
    pub plans_counted : (o : Opening) (p : ℕ) → opening format counted_file ≡ got o p → count ≡ o.plans
    plans_counted o p is = meets ∙ Demands.plans_counted format counted_file o p is

    pub none_counted : count ≡ 0 → (n p : ℕ) × (opening format counted_file ≡ fault n p)
    none_counted none = Demands.none_counted format counted_file (sym meets ∙ none)
