use Rattle.std.proofs.Common.{◌≤◌}
use Rattle.review.proofs.review_all.Given as goal

-- Each answer takes a file, so that the sums are no larger than the count of arguments.
abbrev pub invariant-loop-i : goal.invariant-loop-i
invariant-loop-i g l = (l.tally.asked ≤ l.i) × (l.tally.passed ≤ l.tally.asked) × (l.tally.unanswered ≤ l.tally.asked)
