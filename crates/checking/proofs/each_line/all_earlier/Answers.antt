-- Whether all numbers are below i is whether those from number k on are: those before it were.
use Rattle.checking.proofs.EachLineLaws.{earlier_start, earlier_done, earlier_not, earlier_next}
use Rattle.checking.proofs.each_line.all_earlier.Goals as goal

pub loop-k-init : goal.loop-k-init
loop-k-init c = search earlier_start

pub returns-then-i-two : goal.returns-then-i-two
returns-then-i-two c = search earlier_not

pub loop-k-preserved : goal.loop-k-preserved
loop-k-preserved c = search earlier_next

pub returns : goal.returns
returns c = search earlier_done
