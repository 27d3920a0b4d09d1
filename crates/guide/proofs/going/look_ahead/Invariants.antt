-- What comes from the position now is what comes from the first, and a branching leads to a later one. An action, the plan's end, or a branching with no condition known true is what comes next.
use Prim.Native.Nat.{◌-◌}
use Rattle.meaning.specs.Limits.{format}
use Rattle.guide.proofs.LookAheadLaws.{Looking}
use Rattle.guide.proofs.going.look_ahead.Given as goal

abbrev pub invariant-loop-i : goal.invariant-loop-i
invariant-loop-i l = Looking l.r.bytes.now l.r.notes.now l.at l.marks l.i

abbrev pub decreases-loop-i : goal.decreases-loop-i
decreases-loop-i l = format.items - l.i
