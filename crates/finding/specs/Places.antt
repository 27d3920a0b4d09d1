-- What a search tells, in the terms of the definitions.
use Rattle.std.specs.Prelude.{ℕ, Option, None, Some}
use Rattle.meaning.specs.Refusals

unfoldable pub found : Refusals.Found → Option ℕ
found Refusals.Found.nowhere = None
found (Refusals.Found.at p) = Some p
