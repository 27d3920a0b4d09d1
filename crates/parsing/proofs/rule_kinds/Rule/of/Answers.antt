-- Each rule is told by its number; between 8 and 10 and past 12 there is none.
use native.Mathlib.Omega.{arith}
use Rattle.parsing.proofs.RuleNumbers.{no_rule, number_says}
use Rattle.parsing.proofs.rule_kinds.Rule.of.Goals as goal

pub returns-in-1 : goal.returns-in-1
returns-in-1 c = search number_says

pub returns-in-2 : goal.returns-in-2
returns-in-2 c = search number_says

pub returns-in-3 : goal.returns-in-3
returns-in-3 c = search number_says

pub returns-in-4 : goal.returns-in-4
returns-in-4 c = search number_says

pub returns-in-5 : goal.returns-in-5
returns-in-5 c = search number_says

pub returns-in-6 : goal.returns-in-6
returns-in-6 c = search number_says

pub returns-in-7 : goal.returns-in-7
returns-in-7 c = search number_says

pub returns-in-8 : goal.returns-in-8
returns-in-8 c = search number_says

pub returns-in-10 : goal.returns-in-10
returns-in-10 c = search number_says

pub returns-in-11 : goal.returns-in-11
returns-in-11 c = search number_says

pub returns-in-12 : goal.returns-in-12
returns-in-12 c = search number_says

pub returns-in_default : goal.returns-in_default
returns-in_default c = no_rule _ (λ a b. omega arith) (λ a b. omega arith)
