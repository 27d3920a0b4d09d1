-- The derivation call and the whether call of a settled request.
use Rattle.std.specs.Prelude.{ℕ, Bool, false, List, ltb}
use Rattle.meaning.specs.declared.Answer.{Answer}
use Rattle.meaning.specs.declared.Layout.{Layout}
use Rattle.meaning.specs.declared.Layout.TheVariants.{Plain, Closing}
use Rattle.meaning.specs.Limits.{format}
use Rattle.meaning.specs.Requests.{Request}
use Rattle.meaning.specs.Reading.{got}
use Rattle.meaning.specs.Derivations.{check_settled}

-- This number of whether entries is more than the layout covers (FORMAT 4.20, 17.9).
unfoldable pub too_many : Layout → ℕ → Bool
too_many Plain asked = ltb 0 asked
too_many Closing asked = false

-- Wherever the request ends.
unfoldable pub check_at_hand : Layout → Request → List ℕ → Answer
check_at_hand layout x derivation = check_settled format layout derivation (got x 0)
