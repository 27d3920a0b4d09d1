-- The index is put into a room that holds any, so the first bytes of the room are compared with the other.
use borrow.Author.Rules.{rules}
use Rattle.indexing.proofs.BuildLaws.{index_short}
use Rattle.indexing.proofs.DifferLaws.{put_inside, put_differs}
use Rattle.indexing.proofs.differing.differs.Goals as goal

pub put_index-requires : goal.put_index-requires
put_index-requires c = search (rules, index_short)

pub difference-requires : goal.difference-requires
difference-requires c = search (index_short, put_inside)

pub returns : goal.returns
returns c = search (index_short, put_differs)
