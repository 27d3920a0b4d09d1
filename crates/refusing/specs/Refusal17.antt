-- 17: the first knowledge line whose action has an effect.
use Rattle.std.specs.Prelude.{Option}
use Rattle.std.specs.Prelude.{ℕ, ◌≡◌, List}
use Rattle.meaning.specs.Requests.{Effect}
use Rattle.meaning.specs.Refusals.{mixed_in}
use Rattle.finding.specs.Places.{found}
use Rattle.finding.specs.LinesHere.{knowledge_in, Acting}

-- What is found is the first knowledge line whose action has an effect, whatever effects these slots tell of (FORMAT 4.39).
pub record MixedFound (s t : List ℕ) (start count : ℕ) (r : Option ℕ) : Type 0 where
  pub holds : (es : List Effect) → Acting t es → r ≡ found (mixed_in es (knowledge_in s start 0 count))
