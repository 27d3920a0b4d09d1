-- The showing call: the part of the named input from the place on (FORMAT section 6).
use Rattle.std.specs.Prelude.{ℕ, min, List, [], length, drop, eqb}
use Rattle.meaning.specs.declared.Answer.{Answer}
use Rattle.meaning.specs.Tests.{pick}
use Rattle.meaning.specs.Limits

-- A part of an input: which input, where it starts there, and its bytes.
pub record Part : Type 0 where
  pub input : ℕ
  pub start : ℕ
  pub bytes : List ℕ

-- Beyond the end it is the empty part at the end (FORMAT 6.1, 6.4, 6.5).
unfoldable pub part_from : (input : ℕ) → List ℕ → (place : ℕ) → Part
part_from input s place = record { input = input; start = min place (length s); bytes = drop place s }

-- An answer that names neither shows the empty part at the request's start (FORMAT 6.2, 6.3).
unfoldable pub show : Answer → (request derivation : List ℕ) → Part
show a request derivation =
    pick (eqb a.input Limits.the_request) (λ _. part_from Limits.the_request request a.place) λ _.
    pick (eqb a.input Limits.the_derivation) (λ _. part_from Limits.the_derivation derivation a.place) λ _.
    record { input = Limits.the_request; start = 0; bytes = [] }
