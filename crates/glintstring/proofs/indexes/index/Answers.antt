-- A refusal, or what is written of a settled request.
use borrow.Author.Rules.{rules}
use Rattle.glintstring.proofs.SettledAtHand.{settled_table}
use Rattle.glintstring.proofs.IndexedLaws.{built_refused, built_so}
use Rattle.verdicts.proofs.ReleasingLaws.{blank_is}
use Rattle.glintstring.proofs.indexes.index.Goals as goal

pub settle-requires : goal.settle-requires
settle-requires c = search (rules, blank_is)

pub write_index-requires : goal.write_index-requires
write_index-requires c = search (rules, settled_table, blank_is)

pub returns-in-Ok : goal.returns-in-Ok
returns-in-Ok c = search (rules, built_so, blank_is)

pub returns-in-Err : goal.returns-in-Err
returns-in-Err c = search (rules, built_refused)
