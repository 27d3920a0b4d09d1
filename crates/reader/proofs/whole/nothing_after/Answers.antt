-- Bytes after what was read are refused where they start; else the end is the answer.
use borrow.Author.Rules.{rules}
use Rattle.reader.proofs.WholeLaws.{more_after, none_after}
use Rattle.reader.proofs.whole.nothing_after.Goals as goal

pub returns-then-e-s : goal.returns-then-e-s
returns-then-e-s c = search (rules, more_after)

pub returns : goal.returns
returns c = search (rules, none_after)
