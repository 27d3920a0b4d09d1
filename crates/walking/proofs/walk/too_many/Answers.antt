-- There are two such numbers.
use Rattle.std.proofs.Common.{refl}
use Rattle.walking.specs.Standing.{stateless}
use Rattle.walking.proofs.WalkArms.{refused_wide, refused_many}
use Rattle.walking.proofs.walk.too_many.Goals as goal

pub returns-then-refused-eq-TOO_WIDE-clause-stateless : goal.returns-then-refused-eq-TOO_WIDE-clause-stateless
unfolding stateless
returns-then-refused-eq-TOO_WIDE-clause-stateless c = refl

pub returns-then-refused-eq-TOO_WIDE-clause-number : goal.returns-then-refused-eq-TOO_WIDE-clause-number
returns-then-refused-eq-TOO_WIDE-clause-number c = search refused_wide

pub returns-else-refused-eq-TOO_WIDE-clause-stateless : goal.returns-else-refused-eq-TOO_WIDE-clause-stateless
unfolding stateless
returns-else-refused-eq-TOO_WIDE-clause-stateless c = refl

pub returns-else-refused-eq-TOO_WIDE-clause-number : goal.returns-else-refused-eq-TOO_WIDE-clause-number
returns-else-refused-eq-TOO_WIDE-clause-number c = search refused_many
