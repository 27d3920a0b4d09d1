-- Whatever lines stand where the places say, the first overlap in all of them is the first in those from line k on: those before line k have
-- none.
use Rattle.derivation.proofs.DerivedLaws.{sought_start, sought_done, sought_next, sought_at, line_list}
use Rattle.derivation.proofs.derived.overlap_in_lines.Goals as goal

pub loop-k-init : goal.loop-k-init
loop-k-init c = search sought_start

pub overlap_in_line-requires-clause-list_here : goal.overlap_in_line-requires-clause-list_here
overlap_in_line-requires-clause-list_here c = search line_list

pub loop-k-preserved : goal.loop-k-preserved
loop-k-preserved c = search sought_next

pub returns-in-Some : goal.returns-in-Some
returns-in-Some c = search sought_at

pub returns : goal.returns
returns c = search sought_done
