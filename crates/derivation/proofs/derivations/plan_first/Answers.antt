-- The plan, then the rest of the line: the first fault is the line's.
use borrow.Author.Rules.{rules}
use Rattle.derivation.proofs.DerivationLaws.{plan_whole, plan_then_fault, plan_fault}
use Rattle.parsing.proofs.LineReaderLaws.{counted_flags}
use Rattle.derivation.proofs.derivations.plan_first.Goals as goal

pub plan_at-requires-clause-counted : goal.plan_at-requires-clause-counted
plan_at-requires-clause-counted c = search counted_flags

pub returns-in_err-plan_end : goal.returns-in_err-plan_end
returns-in_err-plan_end c = search (rules, plan_fault)

pub returns-in_err-end : goal.returns-in_err-end
returns-in_err-end c = search (rules, plan_then_fault)

pub returns : goal.returns
returns c = plan_whole _ _ _ _ _ _ _ _ c.plan_at.ensures _ _ _ c.in_ok-plan_end.was c.end_at.ensures _ c.in_ok-end.was
