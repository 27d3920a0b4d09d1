-- It agrees with the one and with the other; the other is looked at only where it agrees with the one.
use mathlib.Core.Path.{◌∙◌}
use Rattle.refusing.proofs.AgreeLaws.{agreed, not_agreed}
use Rattle.refusing.proofs.refusal_16.agrees_with_both.Goals as goal

pub returns-then-agrees : goal.returns-then-agrees
returns-then-agrees g c = search agreed

pub returns-else-agrees : goal.returns-else-agrees
returns-else-agrees g c = c.if-agrees.false ∙ search not_agreed
