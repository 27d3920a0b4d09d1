-- What stands at a place of the input once it is read, with nothing left to judge.
use Rattle.std.specs.Prelude.{ℕ, zero, suc, ◌+◌, ◌*◌, ◌<◌, Bool, List, [], ◌∷◌, length, get_or}
use Rattle.meaning.specs.Tests.{pick, each_of}
use Rattle.meaning.specs.Limits.{format, all_literals}
use Rattle.meaning.specs.declared.Form.{Form}
use Rattle.meaning.specs.declared.Form.TheVariants.{Flags, Valued}
use Rattle.meaning.specs.States.{State, known, possible}
use Rattle.reading.specs.declared.marks.Look.{Look}
use Rattle.reading.specs.declared.marks.Look.TheVariants as look
use Rattle.reading.specs.declared.marks.Test.{Test}
use Rattle.reading.specs.declared.marks.Test.TheVariants.{Known, Possible}

-- A given number of bytes from place p on.
unfoldable pub bytes_from : List ℕ → ℕ → ℕ → List ℕ
bytes_from s p zero = []
bytes_from s p (suc k) = get_or s p 0 ∷ bytes_from s (p + 1) k

-- The entries of the list whose count byte stands at p.
unfoldable pub listed : List ℕ → ℕ → List ℕ
listed s p = bytes_from s (p + 1) (get_or s p 0)

-- A list stands at p, of numbers below the bound.
pub record ListHere (bound : ℕ) (s : List ℕ) (p : ℕ) : Type 0 where
  pub ends : p + get_or s p 0 < length s
  pub below : (i : ℕ) → i < get_or s p 0 → get_or s (p + 1 + i) 0 < bound

-- LITERALS OF VALUES have two bytes each (FORMAT 26.5). A given number of two-byte numbers from place p on.
unfoldable pub twos_from : List ℕ → ℕ → ℕ → List ℕ
twos_from s p zero = []
twos_from s p (suc k) = (get_or s p 0 * 256 + get_or s (p + 1) 0) ∷ twos_from s (p + 2) k

-- A list of them stands at p, each with a fluent and a value that a request may have.
pub record ValuesHere (s : List ℕ) (p : ℕ) : Type 0 where
  pub ends : p + 2 * get_or s p 0 < length s
  pub fluent : (i : ℕ) → i < get_or s p 0 → get_or s (p + 1 + 2 * i) 0 < format.fluents
  pub second : (i : ℕ) → i < get_or s p 0 → get_or s (p + 2 + 2 * i) 0 < 32

-- AS THE FORM WRITES THEM: the literals of the list whose count byte stands at p, that such a list stands there, and the bytes that so many literals take.
abbrev pub listed_as : Form → List ℕ → ℕ → List ℕ
listed_as Flags s p = listed s p
listed_as Valued s p = twos_from s (p + 1) (get_or s p 0)

abbrev pub LiteralsHere : Form → List ℕ → ℕ → Type 0
LiteralsHere Flags = ListHere all_literals
LiteralsHere Valued = ValuesHere

abbrev pub span : Form → (many : ℕ) → ℕ
span Flags k = k
span Valued k = 2 * k

-- A literal is known true, or is possible.
unfoldable pub holds_as : Test → State → ℕ → Bool
holds_as k = elim k [ Known ↦ known | Possible ↦ possible ]

-- What one look at a list tells: each literal is known true, or each is possible, or neither.
unfoldable pub look_at : State → List ℕ → Look
look_at marks ls =
    pick (each_of (known marks) ls) (λ _. look.Known) λ _.
    pick (each_of (possible marks) ls) (λ _. look.Possible) λ _.
    look.Never
