-- The byte at the place is that of a branching, or an action within the limit; what asking names is a place of the request, which has room.
use Rattle.glintstring.proofs.MissingLaws.{line_branching, action_small, line_by, line_short, line_never, by_small, short_small}
use Rattle.glintstring.proofs.missing.line_at.Goals as goal

pub returns-then-r-place : goal.returns-then-r-place
returns-then-r-place c = search line_branching

pub ask-requires : goal.ask-requires
ask-requires c = search action_small

pub narrowed-requires : goal.narrowed-requires
narrowed-requires c = search by_small

pub narrowed-requires-in-Short : goal.narrowed-requires-in-Short
narrowed-requires-in-Short c = search short_small

pub returns-in-By : goal.returns-in-By
returns-in-By c = search line_by

pub returns-in-Short : goal.returns-in-Short
returns-in-Short c = search line_short

pub returns-in-Never : goal.returns-in-Never
returns-in-Never c = search line_never
