-- Sets of values, each a number with a bit for every value that is in it: those that satisfy a literal, and those that a list leaves to each fluent.
use Rattle.std.specs.Prelude.{ℕ, ◌-◌, ◌/◌, ◌%◌, ◌^◌, ◌≤◌, ◌<◌, ◌≡◌, Bool, List, length, get_or, set}
use Rattle.std.specs.Int.Bits.{bit_and}
use Rattle.std.specs.Coded.{le_prop}
use mathlib.Core.Path.{ap, fun_ext}
use Rattle.meaning.specs.Tests.{pick, some_of}
use Rattle.meaning.specs.Limits
use Rattle.meaning.specs.Limits.{format}
use Rattle.meaning.specs.Literals.{positive}
use Rattle.meaning.specs.declared.Form.{Form}
use Rattle.meaning.specs.declared.Form.TheVariants.{Valued}
use Rattle.meaning.specs.Values.{fits, numbers}
use Rattle.meaning.specs.Reading.{values_in, literals_in}
use Rattle.parsing.specs.Bits.{bit_of}

-- All sixteen.
abbrev pub every_value : ℕ
every_value = 65535

-- Those that satisfy a literal (FORMAT 26.5).
unfoldable pub satisfying : (literal : ℕ) → ℕ
satisfying l = pick (positive l) (λ _. 2 ^ (l % 256 / 2)) (λ _. every_value - 2 ^ (l % 256 / 2))

-- One of so many values is in the set.
unfoldable pub some_left : (set values : ℕ) → Bool
some_left m values = some_of (bit_of m) (numbers 0 values)

-- A set for each fluent, and what a literal leaves of that of its fluent.
unfoldable pub narrowed : (literal : ℕ) → List ℕ → List ℕ
narrowed l sets = set sets (l / 256) (bit_and (get_or sets (l / 256) 0) (satisfying l))

-- The sets are what a list leaves to each fluent.
pub record Allows (s b sets : List ℕ) : Type 0 where
  pub sized : length sets ≡ format.fluents
  pub bits : (f v : ℕ) → f < format.fluents → v < Limits.most_values → bit_of (get_or sets f 0) v ≡ fits (literals_in s) b f v

-- No fluent has more values than there are bits.
pub record FewValues (s : List ℕ) : Type 0 where
  pub each : (f : ℕ) → values_in s f ≤ Limits.most_values

-- Of flags nothing is asked.
unfoldable pub Counted : Form → List ℕ → Type 0
Counted form s = form ≡ Valued → FewValues s

-- That a request is so counted is so in one way.
pub Counted_prop : (form : Form) (s : List ℕ) → IsProp (Counted form s)
unfolding Counted
Counted_prop form s a b = fun_ext (λ e. ap (λ (h : (f : ℕ) → values_in s f ≤ Limits.most_values). record { each = h }) (fun_ext (λ f. le_prop ((a e).each f) ((b e).each f))))
