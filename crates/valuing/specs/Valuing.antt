-- What literals of values say in a partial state, and of the values that are left to each fluent (FORMAT section 26).
use Rattle.std.specs.Prelude.{ℕ, ◌≤◌, ◌≡◌, Bool, List, length, get_or}
use Rattle.meaning.specs.Tests.{both, pick, some_of, each_of}
use Rattle.meaning.specs.Limits.{format}
use Rattle.meaning.specs.Reading.{values_in, literals_in}
use Rattle.meaning.specs.Values.{values_of, fits}
use Rattle.meaning.specs.ValueStates.{known, possible}
use Rattle.parsing.specs.Bits.{bit_of}
use Rattle.reading.specs.declared.marks.Look.{Look}
use Rattle.reading.specs.declared.marks.Look.TheVariants as look

-- The marks of a partial state are within the numbers of values (FORMAT 26.15).
pub record ValuedMarks (s marks : List ℕ) : Type 0 where
  pub sized : length marks ≡ format.state
  pub small : (f : ℕ) → get_or marks f 0 ≤ values_in s f

-- What one look at a list tells: each literal is known true, or each is possible, or neither (FORMAT 26.16).
unfoldable pub look_values : (s marks : List ℕ) → List ℕ → Look
look_values s marks ls =
    pick (each_of (known (literals_in s) marks) ls) (λ _. look.Known) λ _.
    pick (each_of (possible (literals_in s) marks) ls) (λ _. look.Possible) λ _.
    look.Never

-- The literals of a list each leave their fluents a value beside the sets (FORMAT 26.23).
unfoldable pub agreeing : (s sets c : List ℕ) → Bool
agreeing s sets c =
    each_of
    (λ (l : ℕ).
    some_of (λ (v : ℕ). both (bit_of (get_or sets ((literals_in s).fluent l) 0) v) (fits (literals_in s) c ((literals_in s).fluent l) v))
    (values_of (literals_in s) ((literals_in s).fluent l)))
    c

-- The same of what a list leaves: the literals of the second each leave their fluents a value beside the first (FORMAT 26.23).
unfoldable pub leaves_beside : (s b c : List ℕ) → Bool
leaves_beside s b c =
    each_of
    (λ (l : ℕ).
    some_of (λ (v : ℕ). both (fits (literals_in s) b ((literals_in s).fluent l) v) (fits (literals_in s) c ((literals_in s).fluent l) v))
    (values_of (literals_in s) ((literals_in s).fluent l)))
    c
