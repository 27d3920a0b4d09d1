-- A number says what its rule's own number does, and where no rule has it what 0 says.
use borrow.Author.Rules.{rules}
use Rattle.meaning.specs.Derivations.{concludes_fluent}
use Rattle.meaning.specs.Literals.{among}
use Rattle.meaning.specs.Tests.{some_of, either}
use Rattle.derivation.proofs.DerivationLaws.{fluent_as}
use Rattle.derivation.proofs.derivations.gives_fluent.Goals as goal

pub returns-in-Some-Look : goal.returns-in-Some-Look
unfolding concludes_fluent among some_of either
returns-in-Some-Look c = fluent_as _ _ c.of.ensures _ (search rules)

pub returns-in_default : goal.returns-in_default
unfolding concludes_fluent among some_of either
returns-in_default c = fluent_as _ _ c.of.ensures _ (search rules)

pub returns-in_default-2 : goal.returns-in_default-2
unfolding concludes_fluent among some_of either
returns-in_default-2 c = fluent_as _ _ c.of.ensures _ (search rules)
