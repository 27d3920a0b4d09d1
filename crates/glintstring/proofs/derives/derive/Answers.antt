-- A refusal is told as it is; a settled request is at hand, without guards and in mode 0.
use borrow.Author.Rules.{rules}
use Rattle.glintstring.proofs.DeriveLaws.{derive_refused, derive_so}
use Rattle.glintstring.proofs.SettledAtHand.{settled_at_hand, settled_known, settled_sized, settled_unguarded}
use Rattle.verdicts.proofs.ReleasingLaws.{blank_is}
use Rattle.glintstring.proofs.derives.derive.Goals as goal

pub settle-requires : goal.settle-requires
settle-requires c = search (rules, blank_is)

pub derive_at_hand-requires-clause-at_hand : goal.derive_at_hand-requires-clause-at_hand
derive_at_hand-requires-clause-at_hand c = search (rules, settled_at_hand, blank_is)

pub derive_at_hand-requires-clause-t_value : goal.derive_at_hand-requires-clause-t_value
derive_at_hand-requires-clause-t_value c = search (rules, settled_unguarded, blank_is)

pub derive_at_hand-requires-clause-t_value_2 : goal.derive_at_hand-requires-clause-t_value_2
derive_at_hand-requires-clause-t_value_2 c = search (rules, settled_known, blank_is)

pub derive_at_hand-requires-clause-t_len : goal.derive_at_hand-requires-clause-t_len
derive_at_hand-requires-clause-t_len c = search (rules, settled_sized, blank_is)

pub returns-in-Ok : goal.returns-in-Ok
returns-in-Ok c = search (rules, derive_so, blank_is)

pub returns-in-Err : goal.returns-in-Err
returns-in-Err c = search (rules, derive_refused)
