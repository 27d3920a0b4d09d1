-- A turn flags the body of the first of the action's lines that are left; what is left then gives what the whole gives, and line numbers rise in
-- file order.
use Rattle.finding.proofs.AheadLaws.{to_go}
use Rattle.steps.specs.Flags.{flagged_at, places_of}
use Rattle.steps.proofs.FlagLaws.{Flagging}
use Rattle.steps.proofs.opening.flag_lines.Given as goal

abbrev pub invariant-loop-k : goal.invariant-loop-k
invariant-loop-k l = Flagging l.r.bytes.now l.r.notes.now l.lines l.behind l.marks l.flags (flagged_at l.r.bytes.now l.marks l.behind (places_of l.lines l.r.bytes.now l.a) l.initial.flags) l.k

abbrev pub decreases-loop-k : goal.decreases-loop-k
decreases-loop-k l = to_go l.k
