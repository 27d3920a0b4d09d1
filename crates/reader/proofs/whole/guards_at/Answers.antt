-- A fault in the list is the answer; else its place is noted, and the answer is what comes after the list.
use borrow.Author.Rules.{rules}
use Rattle.reader.proofs.WholeLaws.{guards_there, guards_fault}
use Rattle.reader.proofs.whole.guards_at.Goals as goal

pub returns-in_err-end : goal.returns-in_err-end
returns-in_err-end c = search (rules, guards_fault)

pub returns : goal.returns
returns c = guards_there _ _ _ c.from-n.ensures _ _ c.list_at.ensures _ _ _ c.in_ok-end.was c.put.ensures c.nothing_after.ensures
