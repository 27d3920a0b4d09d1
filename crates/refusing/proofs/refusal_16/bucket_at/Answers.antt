-- The action and the fluent stand at p, and small enough for their number to fit.
use Rattle.refusing.proofs.Laws16.{bucket_got, effect_there, effect_second, effect_fits, bucket_fits}
use borrow.Author.Rules.{rules}
use Rattle.refusing.proofs.refusal_16.bucket_at.Goals as goal

pub overflow_add-p : goal.overflow_add-p
overflow_add-p c = search effect_fits

pub bounds-s-p : goal.bounds-s-p
bounds-s-p c = search (rules, effect_there)

pub bounds-s-p-2 : goal.bounds-s-p-2
bounds-s-p-2 c = search (rules, effect_second)

pub overflow_add-result : goal.overflow_add-result
overflow_add-result c = search bucket_fits

pub returns : goal.returns
returns c = search bucket_got
