-- No fluent is sensed below the one that it starts from.
use Rattle.steps.proofs.LookAs.{back_within, first_from}
use Rattle.steps.proofs.sensing.first_unknown.Goals as goal

pub overflow_sub-from : goal.overflow_sub-from
overflow_sub-from g c = search back_within

pub returns : goal.returns
returns g c = search first_from
