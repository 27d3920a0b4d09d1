use Rattle.std.proofs.Common.{◌≤◌, length}
use Rattle.guide_program.proofs.leading.run.Given as goal

-- The readings stand in the row.
abbrev pub invariant-loop : goal.invariant-loop
invariant-loop g l = l.count ≤ length l.row
