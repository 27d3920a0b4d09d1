-- Action, literal, then body: the first fault is the line's.
use borrow.Author.Rules.{rules}
use Rattle.parsing.proofs.LineReaderLaws.{effect_whole, effect_literal_fault, effect_action_fault}
use Rattle.parsing.proofs.inputs.Input.effect_at.Goals as goal

pub returns-in_err-a : goal.returns-in_err-a
returns-in_err-a g c = search (rules, effect_action_fault)

pub returns-in_err-body : goal.returns-in_err-body
returns-in_err-body g c = search (rules, effect_literal_fault)

pub returns : goal.returns
returns g c = search (rules, effect_whole)
