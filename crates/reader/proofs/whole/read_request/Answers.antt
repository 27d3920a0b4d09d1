-- `read_request` meets its contract: each return is one of the definition's own, before the sections, in them, and after them. What the sections are is known from `read_sections` alone, whose parameters are plain, so this proof has no walk.
use borrow.Author.Rules.{rules}
use Rattle.reader.proofs.WholeLaws.{request_long, request_there, request_fault}
use Rattle.reader.proofs.whole.read_request.Goals as goal

pub returns-then-s-gt-REQUEST : goal.returns-then-s-gt-REQUEST
returns-then-s-gt-REQUEST g c = search (rules, request_long)

pub returns-in_err-end : goal.returns-in_err-end
returns-in_err-end g c = search (rules, request_fault)

pub returns : goal.returns
returns g c = search (rules, request_there)
