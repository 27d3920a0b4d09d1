-- A body is a list of at most 16 literals.
use Rattle.meaning.specs.Reading.{body_at}
use Rattle.parsing.proofs.inputs.Input.body_at.Goals as goal

pub returns : goal.returns
unfolding body_at
returns g c = c.literals_at.ensures
