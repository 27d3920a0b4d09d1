-- A fluent or a list, by the rule.
use borrow.Author.Rules.{rules}
use Rattle.derivation.proofs.DerivationLaws.{fluent_whole, fluent_fault, list_whole}
use Rattle.derivation.proofs.derivations.conclusion_at.Goals as goal

pub returns-in_err-after : goal.returns-in_err-after
returns-in_err-after c = search (rules, fluent_fault)

pub returns-then-gives_fluent : goal.returns-then-gives_fluent
returns-then-gives_fluent c = fluent_whole _ _ _ _ _ c.gives_fluent.ensures _ c.if-gives_fluent.true c.below_at.ensures _ _ c.in_ok-after.was

pub returns : goal.returns
returns c = search (rules, list_whole)
