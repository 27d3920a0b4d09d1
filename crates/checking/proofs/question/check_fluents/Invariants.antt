-- What all entries give is what those from number k on give.
use Prim.Native.Nat.{◌+◌, ◌*◌}
use lib.ListN.{get_or}
use Rattle.checking.proofs.ClosingLaws.{SoFar}
use Rattle.checking.proofs.question.check_fluents.Given as goal

abbrev pub invariant-loop-k : goal.invariant-loop-k
invariant-loop-k l = SoFar l.r.bytes.now l.r.notes.now l.d l.places l.lines l.whether l.first (l.whether + get_or l.r.bytes.now l.whether 0) (l.whether + l.k) (l.first + 2 * l.k)
