use Rattle.std.proofs.Common.{◌-◌, ◌≤◌, length}
use Rattle.programs.proofs.read_all.Given as goal

-- What was read stands in the buffer.
abbrev pub invariant-loop-done : goal.invariant-loop-done
invariant-loop-done g l = l.done ≤ length l.buf

abbrev pub decreases-loop-done : goal.decreases-loop-done
decreases-loop-done g l = length l.buf - l.done
