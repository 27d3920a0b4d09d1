-- A literal of values takes two bytes.
use Rattle.finding.proofs.ByBranch.{span_flags, span_valued}
use Rattle.finding.proofs.branches.span.Goals as goal

pub returns-in-Flags : goal.returns-in-Flags
returns-in-Flags c = search span_flags

pub returns-in-Valued : goal.returns-in-Valued
returns-in-Valued c = search span_valued
