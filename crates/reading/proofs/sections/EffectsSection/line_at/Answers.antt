-- A line of this section is an effect.
use Rattle.reading.specs.Noted.{line_read, line_at}
use Rattle.reading.proofs.sections.EffectsSection.line_at.Goals as goal

pub returns : goal.returns
unfolding line_read line_at
returns g c = c.effect_at.ensures
