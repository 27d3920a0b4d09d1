-- What the exported release call and the exported plans call promise: each theorem is of a number and of a row that meet the call's own contract.
-- Whatever `ReleasePromises` says of an own answer and of a row is so of these, by `releases`. Assumes nothing.
use Prim.Native.Nat.{ℕ, ◌/◌, ◌%◌, ◌-◌, ◌*◌, ◌<◌}
use mathlib.Core.Path.{◌≡◌, sym, ◌∙◌, ap₂}
use mathlib.Core.Bool.{true}
use mathlib.Core.List.{List, ◌∷◌}
use lib.ListN.{length}
use contract.Lifetimes.{Lfts}
use borrow.Fn.Kinds.{Dens, ended_of}
use denote.Triple.Clauses.{AtExit}
use Rattle.meaning.specs.declared.Answer.{Answer}
use Rattle.meaning.specs.Limits
use Rattle.meaning.specs.Limits.{format}
use Rattle.meaning.specs.Literals.{among}
use Rattle.meaning.specs.Requests.{Request}
use Rattle.meaning.specs.Reading.{got, fault}
use Rattle.meaning.specs.Refusals.{settled}
use Rattle.meaning.specs.Judging.{judge}
use Rattle.meaning.specs.Releases.{Opening, opening, plans_at, unreached, in_row, Released, release, plans_in, own_request, moved, row_of}
use Rattle.meaning.specs.Worlds.{CarriedOut}
use Rattle.meaning.specs.Answers.{release_answers}
use Rattle.meaning.specs.Tests.{Has}
use Rattle.meaning.specs.AnswerParts.{WalkInput, Placed, RowParts}
use Rattle.demands.proofs.Demands
use Rattle.demands.proofs.ProvedCases.{releasing, released, Row, proved_cases}
use Rattle.glintstring.specs.Packing.{packed, unpacked}
use Rattle.promises.proofs.UnpackingLaws.{number_back, input_back, place_back, count_back, unpacks, own_small}
use Rattle.promises.proofs.ReleasePromises
use Rattle.glintstring.proofs.exports.glintstring_release.Kinds.{ps, r}
use Rattle.glintstring.proofs.exports.glintstring_release.Reads.{Pre, Post}
use Rattle.glintstring.proofs.exports.glintstring_plans.Kinds as plans-kinds
use Rattle.glintstring.proofs.exports.glintstring_plans.Reads as plans-reads

-- WHAT THE RELEASE CALL IS GIVEN, by the values of its three parameters.
module _ (κs : Lfts 2) (given : Dens κs ps) where
  abbrev pub file : List ℕ
  file = given.0.now

  abbrev pub lent : List ℕ
  lent = given.1.0.now

  abbrev pub budget : ℕ
  budget = given.1.1.0

  -- What it leaves in the lent row.
  abbrev pub left : AtExit (ended_of 2 ps r) κs → List ℕ
  left exit = exit.1.0.now

  -- The definition's own answer.
  abbrev pub answer : Answer
  answer = (release format file lent budget).answer

  -- THE CONTRACT, as the source has it.
  pub as_written : (n : ℕ) (exit : AtExit (ended_of 2 ps r) κs) → Post κs given n exit → (n ≡ packed answer) × (left exit ≡ (release format file lent budget).row)
  as_written n exit meets = meets

  -- Two results that meet the contract on the same input are equal: it says everything (FORMAT 19.25).
  pub determined : (n n' : ℕ) (exit exit' : AtExit (ended_of 2 ps r) κs) → Post κs given n exit → Post κs given n' exit' → (n ≡ n') × (left exit ≡ left exit')
  determined n n' exit exit' meets meets' = (meets.0 ∙ sym meets'.0, meets.1 ∙ sym meets'.1)

  -- It may be called with anything.
  pub asks_nothing : Pre κs given
  asks_nothing = tt

  -- The definition's number, input, place and count are had from a result that meets the contract.
  module _ (n : ℕ) (exit : AtExit (ended_of 2 ps r) κs) (meets : Post κs given n exit) where
    pub number_is : n % 256 ≡ answer.number
    number_is = number_back answer (own_small file lent budget) n meets.0

    pub input_is : n / 256 % 256 ≡ answer.input
    input_is = input_back answer (own_small file lent budget) n meets.0

    pub place_is : n / 65536 % 65536 ≡ answer.place
    place_is = place_back answer (own_small file lent budget) n meets.0

    pub count_is : n / 4294967296 ≡ answer.count
    count_is = count_back answer (own_small file lent budget) n meets.0

    pub releases : record { answer = unpacked n; row = left exit } ≡ release format file lent budget
    releases = ap₂ {C = Released} (λ a row. record { answer = a; row = row }) (unpacks answer (own_small file lent budget) n meets.0) meets.1

    -- The own answer (FORMAT 19.12, 19.15, 19.17).
    pub numbered : among (n % 256) release_answers ≡ true
    unfolding unpacked
    numbered = ReleasePromises.numbered file lent budget (unpacked n) (left exit) releases

    pub input_exactly : WalkInput (unpacked n)
    input_exactly = ReleasePromises.input_exactly file lent budget (unpacked n) (left exit) releases

    pub place_within : Placed (length file) (n % 256) (n / 65536 % 65536)
    unfolding unpacked
    place_within = ReleasePromises.place_within file lent budget (unpacked n) (left exit) releases

    pub no_count : n / 4294967296 ≡ 0
    unfolding unpacked
    no_count = ReleasePromises.no_count file lent budget (unpacked n) (left exit) releases

    -- The proved cases (FORMAT 15.12).
    pub answers_the_cases : (row : Row) → Has proved_cases row → row.call ≡ releasing file lent budget → row.gives ≡ released (record { answer = unpacked n; row = left exit })
    answers_the_cases = ReleasePromises.answers_the_cases file lent budget (unpacked n) (left exit) releases

    -- The row stays as lent with every own answer but 0, and keeps its length (FORMAT 19.13, 19.28).
    pub as_lent : (n % 256 ≡ Limits.verified → ⊥) → left exit ≡ lent
    unfolding unpacked
    as_lent = ReleasePromises.as_lent file lent budget (unpacked n) (left exit) releases

    pub row_length : length (left exit) ≡ length lent
    row_length = ReleasePromises.row_length file lent budget (unpacked n) (left exit) releases

    pub row_fits : length lent ≡ 4 * plans_in format file → n % 256 ≡ Limits.state_length → ⊥
    unfolding unpacked
    row_fits = ReleasePromises.row_fits file lent budget (unpacked n) (left exit) releases

    pub opened : n % 256 ≡ Limits.verified → (o : Opening) × (p : ℕ) × (opening format file ≡ got o p)
    unfolding unpacked
    opened = ReleasePromises.opened file lent budget (unpacked n) (left exit) releases

    -- With 0, of the plan with i before it.
    module _ (zero : n % 256 ≡ Limits.verified) (o : Opening) (p : ℕ) (is : opening format file ≡ got o p) where
      pub row_sized : length (left exit) ≡ 4 * o.plans
      unfolding unpacked
      row_sized = ReleasePromises.row_sized file lent budget (unpacked n) (left exit) releases zero o p is

      module _ (i : ℕ) (less : i < o.plans) where
        pub row_within : (a : Answer) × (row_of (left exit) i ≡ in_row a) × RowParts (length file) budget a
        unfolding unpacked
        row_within = ReleasePromises.row_within file lent budget (unpacked n) (left exit) releases zero o p is i less

        -- Each row is the walk call's answer (FORMAT 19.26).
        pub each_row : (rs : List Request) (start : ℕ) → plans_at format file o.table i p ≡ got rs start → (room : List ℕ) → length room ≡ format.state
            → row_of (left exit) i ≡ in_row (moved (start - o.table_end) (judge format (own_request format file o start) room budget).answer)
        unfolding unpacked
        each_row = ReleasePromises.each_row file lent budget (unpacked n) (left exit) releases zero o p is i less

        pub behind_a_failure : (k q : ℕ) → plans_at format file o.table i p ≡ fault k q → row_of (left exit) i ≡ in_row unreached
        unfolding unpacked
        behind_a_failure = ReleasePromises.behind_a_failure file lent budget (unpacked n) (left exit) releases zero o p is i less

        pub not_reached_exactly : (rest : List ℕ) → row_of (left exit) i ≡ Limits.not_reached ∷ rest → (k q : ℕ) × (plans_at format file o.table i p ≡ fault k q)
        unfolding unpacked
        not_reached_exactly = ReleasePromises.not_reached_exactly file lent budget (unpacked n) (left exit) releases zero o p is i less

        -- Demand 3, plan by plan (FORMAT 19.27).
        pub sound : (rest : List ℕ) → row_of (left exit) i ≡ Limits.verified ∷ rest
            → (rs : List Request) × (start : ℕ) × (plans_at format file o.table i p ≡ got rs start)
            × ((x : Request) × (e : ℕ) × (settled format (own_request format file o start) ≡ got x e) × CarriedOut x)
        unfolding unpacked
        sound = ReleasePromises.sound file lent budget (unpacked n) (left exit) releases zero o p is i less

-- THE PLANS CALL (FORMAT 19.18, 19.19).
module _ (κs : Lfts 1) (given : Dens κs plans-kinds.ps) where
  abbrev pub counted_file : List ℕ
  counted_file = given.0.now

  pub plans_as_written : (count : ℕ) (exit : AtExit (ended_of 1 plans-kinds.ps plans-kinds.r) κs) → plans-reads.Post κs given count exit → count ≡ plans_in format counted_file
  plans_as_written count exit meets = meets

  pub plans_determined : (count count' : ℕ) (exit exit' : AtExit (ended_of 1 plans-kinds.ps plans-kinds.r) κs) → plans-reads.Post κs given count exit → plans-reads.Post κs given count' exit' → count ≡ count'
  plans_determined count count' exit exit' meets meets' = meets ∙ sym meets'

  pub plans_asks_nothing : plans-reads.Pre κs given
  plans_asks_nothing = tt

  module _ (count : ℕ) (exit : AtExit (ended_of 1 plans-kinds.ps plans-kinds.r) κs) (meets : plans-reads.Post κs given count exit) where
    -- It is the plan count of a file that is opened, and 0 exactly of one that is refused before its row is looked at.
    pub plans_counted : (o : Opening) (p : ℕ) → opening format counted_file ≡ got o p → count ≡ o.plans
    plans_counted o p is = meets ∙ Demands.plans_counted format counted_file o p is

    pub none_counted : count ≡ 0 → (n p : ℕ) × (opening format counted_file ≡ fault n p)
    none_counted none = Demands.none_counted format counted_file (sym meets ∙ none)
