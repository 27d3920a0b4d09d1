-- Literals, complements, and bodies that exclude each other.
use Rattle.std.specs.Prelude.{ℕ, ◌+◌, ◌-◌, ◌*◌, ◌/◌, ◌%◌, Bool, List, eqb}
use Rattle.meaning.specs.Tests.{pick, some_of}

-- The two literals of a fluent (FORMAT 2.2, 2.3).
unfoldable pub says_true : ℕ → ℕ
says_true f = 2 * f

unfoldable pub says_false : ℕ → ℕ
says_false f = 2 * f + 1

unfoldable pub fluent_of : ℕ → ℕ
fluent_of l = l / 2

unfoldable pub positive : ℕ → Bool
positive l = eqb (l % 2) 0

-- The other literal of the same fluent (FORMAT 2.4).
unfoldable pub complement : ℕ → ℕ
complement l = pick (positive l) (λ _. l + 1) (λ _. l - 1)

unfoldable pub among : ℕ → List ℕ → Bool
among l = some_of (eqb l)

-- A literal of the one has its complement in the other (FORMAT 7.28).
unfoldable pub exclusive : List ℕ → List ℕ → Bool
exclusive b c = some_of (λ (l : ℕ). among (complement l) c) b
