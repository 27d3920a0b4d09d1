-- An action is never at fault; a branching is where two of its conditions are not exclusive.
use mathlib.Core.Path.{◌∙◌, ap}
use mathlib.Core.Bool.{not}
use borrow.Author.Tests.{ne_eqb}
use borrow.Author.Rules.{rules}
use Rattle.refusing.proofs.Laws18.{item_other, item_branching, second_here, item_branches}
use Rattle.refusing.proofs.refusal_18.apart.Goals as goal

pub bounds-s-p-else-s-p : goal.bounds-s-p-else-s-p
bounds-s-p-else-s-p g c = search (rules, second_here)

pub exclusive-requires-clause-branches_here : goal.exclusive-requires-clause-branches_here
exclusive-requires-clause-branches_here g c = search item_branches

pub returns-then-s-p : goal.returns-then-s-p
returns-then-s-p g c = ap not (ne_eqb _ _ c.if-s-p.true) ∙ item_other _ _ _ _ _ c.if-s-p.true

pub returns-else-s-p : goal.returns-else-s-p
returns-else-s-p g c = search item_branching
