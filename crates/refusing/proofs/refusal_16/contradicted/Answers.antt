-- The links lead to each earlier effect in the same bucket, and no other can be contradicted; they fall, so the loop ends.
use Rattle.refusing.proofs.Clashes.{body_fits}
use Rattle.refusing.proofs.Laws16.{new_fit, last_there, last_fits, none_sought, sought_starts, sought_done, sought_less, sought_fit, sought_met, sought_next}
use Rattle.refusing.proofs.refusal_16.contradicted.Goals as goal

pub bucket_at-requires : goal.bucket_at-requires
bucket_at-requires g c = rw c.FORM.ensures (search new_fit)

pub overflow_add-bucket_at : goal.overflow_add-bucket_at
overflow_add-bucket_at g c = let bucket = rw c.FORM.ensures at c.bucket_at.ensures in search last_fits

pub bounds-same-bucket_at : goal.bounds-same-bucket_at
bounds-same-bucket_at g c = let bucket = rw c.FORM.ensures at c.bucket_at.ensures in search last_there

pub returns-then-i-eq0 : goal.returns-then-i-eq0
returns-then-i-eq0 g c = let bucket = rw c.FORM.ensures at c.bucket_at.ensures in search none_sought

pub overflow_add-p : goal.overflow_add-p
overflow_add-p g c =
    let here = new_fit g.H.Held.FORM _ _ _ c.requires.effects_here _ c.line_place-p.ensures in
    let at = g.met.H.Held.body_law c.line_place-p.result in
    rw c.BODY.ensures (search body_fits)

pub loop-i-init : goal.loop-i-init
loop-i-init g c = let bucket = rw c.FORM.ensures at c.bucket_at.ensures in search sought_starts

pub contradicts-requires-clause-effect_here_2 : goal.contradicts-requires-clause-effect_here_2
contradicts-requires-clause-effect_here_2 g c = search sought_fit

pub returns-then-contradicts : goal.returns-then-contradicts
returns-then-contradicts g c = search sought_met

pub loop-i-smaller : goal.loop-i-smaller
loop-i-smaller g c = search sought_less

pub loop-i-preserved : goal.loop-i-preserved
loop-i-preserved g c = search sought_next

pub returns : goal.returns
returns g c = search sought_done
