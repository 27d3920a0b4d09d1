-- A loop's whole is at every step what the rest gives from the notes now. A branch is one branching less deep, so the cycle ends.
use Rattle.std.proofs.Common.{◌+◌, ◌-◌, ◌*◌}
use Rattle.reading.proofs.NotingLaws.{Going}
use Rattle.reading.proofs.BranchLaws.{branching_whole, branching_rest}
use Rattle.reading.proofs.SequenceLaws.{sequence_whole, sequence_rest}
use Rattle.reading.proofs.plan.+branch_at_branching_at_item_at_sequence_at.Given as goal

abbrev pub decreases-branch_at : goal.decreases-branch_at
decreases-branch_at g l = l.deep * 4 + 3

abbrev pub decreases-branching_at : goal.decreases-branching_at
decreases-branching_at g l = l.deep * 4 + 0

abbrev pub decreases-item_at : goal.decreases-item_at
decreases-item_at g l = l.deep * 4 + 1

abbrev pub decreases-sequence_at : goal.decreases-sequence_at
decreases-sequence_at g l = l.deep * 4 + 2

abbrev pub invariant-branching_at-loop : goal.invariant-branching_at-loop
invariant-branching_at-loop g l = Going l.input.bytes.now (branching_whole g.S.Shape.FORM l.input.fluents l.input.actions l.deep l.input.bytes.now l.start l.i l.initial.t) (branching_rest g.S.Shape.FORM l.input.fluents l.input.actions l.deep l.input.bytes.now l.start l.i l.initial.t (l.count - l.counter) l.p l.met l.t) l.p l.met

abbrev pub invariant-sequence_at-loop-i : goal.invariant-sequence_at-loop-i
invariant-sequence_at-loop-i g l = Going l.input.bytes.now (sequence_whole g.S.Shape.FORM l.input.fluents l.input.actions l.deep l.up l.input.bytes.now l.start l.before l.initial.t) (sequence_rest g.S.Shape.FORM l.input.fluents l.input.actions l.deep l.up l.input.bytes.now l.before l.p l.met l.t (l.count - l.i)) l.p l.met
