-- A place is before the input's end or not, and the definition goes by the same test.
use Rattle.parsing.proofs.ByteLaws.{byte_missing, byte_there}
use Rattle.parsing.proofs.bytes.byte_at.Goals as goal

pub returns-then-s-p : goal.returns-then-s-p
returns-then-s-p c = search byte_missing

pub returns : goal.returns
returns c = search byte_there
