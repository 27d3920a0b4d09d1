use Rattle.std.proofs.Common.{◌≤◌, length}
use Rattle.guide_program.proofs.typed.read_bytes.Given as goal

-- The bytes stand in the room.
abbrev pub invariant-loop : goal.invariant-loop
invariant-loop g l = l.count ≤ length l.room
