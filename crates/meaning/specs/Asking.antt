-- What asking whether an action can be run gives, and the line that answer 2 carries (FORMAT section 18).
use Rattle.std.specs.Prelude.{ℕ, ◌+◌, Bool, true, false, List, [], ◌∷◌, get_or, ltb, eqb}
use Rattle.meaning.specs.declared.Runs.{Runs}
use Rattle.meaning.specs.declared.Runs.TheVariants.{By, Short, Never}
use Rattle.meaning.specs.Tests.{pick, each_of}
use Rattle.meaning.specs.Limits
use Rattle.meaning.specs.Limits.{Limits}
use Rattle.meaning.specs.Requests.{ExecutabilityOver, Table, Request}
use Rattle.meaning.specs.Reading.{Got, got, fault}
use Rattle.meaning.specs.Refusals.{settled}
use Rattle.meaning.specs.Lines.{executability_of}
use Rattle.meaning.specs.States.{State, known}
use Rattle.meaning.specs.Judging.{Judgement, judge}

-- THE LINES OF AN ACTION, in file order, where a test tells which literals pass.
module _ {L : Type 0} (test : L → Bool) where
  -- How many literals of a body don't (FORMAT 18.3).
  unfoldable pub short_by : List L → ℕ
  short_by [] = 0
  short_by (l ∷ ls) = pick (test l) (λ _. short_by ls) (λ _. short_by ls + 1)

  -- The place of the line that is short by the fewest, the earliest of equals (FORMAT 18.5): the best so far stands at this place and is short by n.
  unfoldable pub fewest : (place n : ℕ) → List (ExecutabilityOver L) → ℕ
  fewest p n [] = p
  fewest p n (x ∷ xs) = pick (ltb (short_by x.body) n) (λ _. fewest x.place (short_by x.body) xs) (λ _. fewest p n xs)

  -- Where none allows it (FORMAT 18.5, 18.6).
  unfoldable pub nearest : List (ExecutabilityOver L) → Runs
  nearest [] = Never
  nearest (x ∷ xs) = Short (fewest x.place (short_by x.body) xs)

  -- The first that allows it (FORMAT 18.2, 18.4).
  unfoldable pub first_allowing : List (ExecutabilityOver L) → (otherwise : Unit {0} → Runs) → Runs
  first_allowing [] otherwise = otherwise tt
  first_allowing (x ∷ xs) otherwise = pick (each_of test x.body) (λ _. By x.place) (λ _. first_allowing xs otherwise)

-- ASKING whether an action can be run in a partial state.
unfoldable pub asked : Table → ℕ → State → Runs
asked t a s = first_allowing (known s) (executability_of t a) (λ _. nearest (known s) (executability_of t a))

-- It can be run where a line allows it (FORMAT 18.7).
unfoldable pub allows : Runs → Bool
allows r = elim r [ By p ↦ true | Short p ↦ false | Never ↦ false ]

-- THE LINE (FORMAT 18.9 to 18.12). That which asking names; none is 0.
unfoldable pub line_of : Runs → ℕ
line_of r = elim r [ By p ↦ p | Short p ↦ p | Never ↦ 0 ]

-- Of an item in a state, by the item's first byte: a branching has none.
unfoldable pub line_at : Table → (byte : ℕ) → State → ℕ
line_at t byte s = pick (eqb byte Limits.branching_byte) (λ _. 0) (λ _. line_of (asked t byte s))

-- Of what the walk call gives: answer 2 carries the line of the item at its place, in the state that it leaves, and every other answer none.
unfoldable pub line_told : Table → (request : List ℕ) → Judgement → ℕ
line_told t request j =
    pick (eqb j.answer.number Limits.not_executable)
    (λ _. line_at t (get_or request j.answer.place 0) j.state)
    (λ _. 0)

-- Where something else than a request was read, whichever call it is, its table is a function of it.
unfoldable pub line_got : {A : Type 0} → (A → Table) → (request : List ℕ) → Judgement → Got A → ℕ
line_got table request j (got x e) = line_told (table x) request j
line_got table request j (fault n p) = 0

abbrev pub line_settled : (request : List ℕ) → Judgement → Got Request → ℕ
line_settled = line_got (λ (r : Request). r.table)

-- Of the walk call, for every input.
unfoldable pub line : Limits → (request lent : List ℕ) → (budget : ℕ) → ℕ
line lim request lent budget = line_settled request (judge lim request lent budget) (settled lim request)
