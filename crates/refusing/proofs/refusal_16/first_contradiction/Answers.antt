-- At each turn no effect so far contradicts one before it, and the links lead to all of them.
use Rattle.refusing.proofs.Laws16.{linked_none, effects_start, here_first, line_here, line_bucket, linked_next, effects_met, effects_next, effects_done}
use borrow.Author.Rules.{rules}
use Rattle.refusing.proofs.refusal_16.first_contradiction.Goals as goal

pub loop-k-init : goal.loop-k-init
loop-k-init g c = search (linked_none, effects_start)

pub contradicted-requires-clause-effects_here : goal.contradicted-requires-clause-effects_here
contradicted-requires-clause-effects_here g c = search here_first

pub returns-then-contradicted : goal.returns-then-contradicted
returns-then-contradicted g c = search effects_met

pub bucket_at-requires : goal.bucket_at-requires
bucket_at-requires g c = search (rules, line_here)

pub link_bucket-requires : goal.link_bucket-requires
link_bucket-requires g c = search (rules, line_bucket)

pub loop-k-preserved : goal.loop-k-preserved
loop-k-preserved g c = let bucket = rw c.FORM.ensures at c.bucket_at.ensures in search (linked_next, effects_next)

pub returns : goal.returns
returns g c = search effects_done
