-- Which of two inputs a part is of.
use Rattle.std.specs.Prelude.{eqb}
use Rattle.meaning.specs.declared.Answer.{Answer}
use Rattle.meaning.specs.Tests.{pick}
use Rattle.meaning.specs.Limits

-- The derivation's where the answer names the derivation, and else the request's (FORMAT 6.1 to 6.3).
module _ {A : Type 0} where
  unfoldable pub chosen : Answer → A → A → A
  chosen a request derivation = pick (eqb a.input Limits.the_derivation) (λ _. derivation) (λ _. request)
