-- X is a list, so the plan's count stands after it. The plan is read there into the notes, which then hold it, and the search over the notes
-- finds the first overlap of just that plan. A plan that was read before is read again without a fault.
use Rattle.derivation.proofs.DerivedLaws.{line_held, line_sought, line_read}
use borrow.Author.Rules.{rules}
use Rattle.parsing.proofs.LineReaderLaws.{counted_flags}
use Rattle.derivation.proofs.derived.overlap_in_line.Goals as goal

pub plan_at-requires-clause-counted : goal.plan_at-requires-clause-counted
plan_at-requires-clause-counted c = search counted_flags

pub overlap-requires-clause-counted : goal.overlap-requires-clause-counted
overlap-requires-clause-counted c = search counted_flags

pub overlap-requires-clause-some_plan : goal.overlap-requires-clause-some_plan
overlap-requires-clause-some_plan c = search (rules, line_held)

pub returns : goal.returns
returns c = search line_sought

pub returns-in_default : goal.returns-in_default
returns-in_default c = search line_read
