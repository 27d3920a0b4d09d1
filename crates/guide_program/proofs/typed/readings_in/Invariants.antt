use Rattle.std.proofs.Common.{◌≤◌, length}
use Rattle.guide_program.proofs.typed.readings_in.Given as goal

-- The readings stand in the row.
abbrev pub invariant-loop-word : goal.invariant-loop-word
invariant-loop-word l = l.count ≤ length l.row
