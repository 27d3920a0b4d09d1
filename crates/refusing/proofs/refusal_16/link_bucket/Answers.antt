-- Two slots are set, as the definition's link has it.
use Rattle.refusing.specs.Refusal16.{bucket_linked}
use mathlib.Core.Path.{refl}
use Rattle.refusing.proofs.refusal_16.link_bucket.Goals as goal

pub returns : goal.returns
unfolding bucket_linked
returns c = refl
