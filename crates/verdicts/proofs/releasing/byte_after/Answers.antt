-- What is left of the plans ends where all do; at a plan that fails nothing is sought.
use native.Mathlib.Omega.{arith}
use borrow.Author.Rules.{rules}
use Rattle.parsing.proofs.LineReaderLaws.{counted_flags}
use Rattle.verdicts.proofs.ReleasingLaws.{seeking_starts, seeking_onward, seeking_stopped, seeking_more, seeking_none}
use Rattle.verdicts.proofs.releasing.byte_after.Goals as goal

pub loop-init : goal.loop-init
loop-init c = search (rules, seeking_starts)

pub request_at-requires-clause-counted : goal.request_at-requires-clause-counted
request_at-requires-clause-counted c = search (rules, counted_flags)

pub loop-preserved : goal.loop-preserved
loop-preserved c = search (rules, seeking_onward)

pub returns-in-Err : goal.returns-in-Err
returns-in-Err c = search (rules, seeking_stopped)

pub returns-then-p-file : goal.returns-then-p-file
returns-then-p-file c = search (rules, seeking_more)

pub returns-else-p-file : goal.returns-else-p-file
returns-else-p-file c = seeking_none _ _ _ c.requires _ _ _ _ c.loop.invariant (omega (arith, c.loop-test.false)) c.if-p-file.false
