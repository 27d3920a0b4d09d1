-- What stands after each count, up to the list's end, is the list.
use Rattle.comparing.proofs.SamePartLaws.{lists_same}
use Rattle.comparing.proofs.parts.same_lists.Goals as goal

pub returns : goal.returns
returns c = search lists_same
