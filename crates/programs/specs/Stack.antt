-- How much stack a walk may need.
use Rattle.std.specs.Prelude.{ℕ, leb}
use Rattle.meaning.specs.Tests.{pick}

-- In bytes, by the length of the request (FORMAT 12.21).
abbrev pub needed : (length : ℕ) → ℕ
needed length = pick (leb length 1024) (λ _. 6291456) (λ _. 16777216)
