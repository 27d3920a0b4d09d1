-- A number seen as a row of bits, the lowest of which is bit 0.
use Rattle.std.specs.Prelude.{ℕ, ◌+◌, ◌/◌, ◌%◌, ◌^◌, Bool, eqb}
use Rattle.meaning.specs.Tests.{pick}

-- Bit i is there.
unfoldable pub bit_of : (w i : ℕ) → Bool
bit_of w i = eqb (w / 2 ^ i % 2) 1

-- The number where bit i is there besides.
unfoldable pub with_bit : (w i : ℕ) → ℕ
with_bit w i = pick (bit_of w i) (λ _. w) (λ _. w + 2 ^ i)
