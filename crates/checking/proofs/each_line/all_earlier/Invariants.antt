-- Whether all numbers are below i is whether those from number k on are: those before it were.
use Rattle.checking.proofs.EachLineLaws.{Earlier}
use Rattle.checking.proofs.each_line.all_earlier.Given as goal

abbrev pub invariant-loop-k : goal.invariant-loop-k
invariant-loop-k l = Earlier l.d l.cites l.count l.i l.k
