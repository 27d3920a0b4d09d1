-- `read_guarded` meets its contract: each return is one of the definition's own, before the sections, in them, and behind them.
use borrow.Author.Rules.{rules}
use Rattle.reader.proofs.WholeLaws.{guarded_long, sections_fit, first_in, first_most, guarded_there, guarded_fault}
use Rattle.reader.proofs.whole.read_guarded.Goals as goal

pub returns-then-s-gt-REQUEST : goal.returns-then-s-gt-REQUEST
returns-then-s-gt-REQUEST c = search (rules, guarded_long)

pub returns-in_err-guards : goal.returns-in_err-guards
returns-in_err-guards c = search (rules, guarded_fault)

pub guards_at-requires : goal.guards_at-requires
guards_at-requires c = search (rules, sections_fit, first_in, first_most)

pub returns : goal.returns
returns c = search (rules, guarded_there)
