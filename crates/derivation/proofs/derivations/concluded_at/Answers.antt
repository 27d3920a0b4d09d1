-- The list and the rule byte, or the rule byte and the conclusion, by the layout: the first fault is the line's.
use borrow.Author.Rules.{rules}
use Rattle.derivation.proofs.DerivationLaws.{ruled_whole, ruled_fault, listed_fault, rule_whole, rule_fault}
use Rattle.derivation.proofs.derivations.concluded_at.Goals as goal

pub returns-in_err-rule-in-Plain : goal.returns-in_err-rule-in-Plain
returns-in_err-rule-in-Plain c = search (rules, listed_fault)

pub returns-in_err-after-in-Plain : goal.returns-in_err-after-in-Plain
returns-in_err-after-in-Plain c = search (rules, ruled_fault)

pub returns-in_ok-after-in-Plain : goal.returns-in_ok-after-in-Plain
returns-in_ok-after-in-Plain c = ruled_whole _ _ _ _ _ c.in-Plain.is c.list_at.ensures _ c.in_ok-rule-in-Plain.was _ c.byte_at.ensures _ _ c.in_ok-after-in-Plain.was

pub returns-in_err-rule-in-Closing : goal.returns-in_err-rule-in-Closing
returns-in_err-rule-in-Closing c = search (rules, rule_fault)

pub returns-in_ok-rule-in-Closing : goal.returns-in_ok-rule-in-Closing
returns-in_ok-rule-in-Closing c = search (rules, rule_whole)
