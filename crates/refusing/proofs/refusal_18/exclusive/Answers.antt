-- At each turn every two conditions are exclusive exactly where every two of those left are.
use Rattle.std.proofs.Common.{ℕ}
use Rattle.refusing.proofs.Laws18.{left_starts, left_condition, left_branch, left_others, apart_not, apart_next, apart_done}
use Rattle.refusing.proofs.refusal_18.exclusive.Goals as goal

pub loop-k-init : goal.loop-k-init
loop-k-init g c = search left_starts

pub of-held-requires : goal.of-held-requires
of-held-requires g c = search left_condition

pub next_place-requires : goal.next_place-requires
next_place-requires g c = rw c.FORM.ensures (search left_branch)

pub next_item-requires : goal.next_item-requires
next_item-requires g c = rw c.FORM-in-loop-k.ensures (search left_branch)

pub excludes-requires-clause-branches_here : goal.excludes-requires-clause-branches_here
excludes-requires-clause-branches_here g c =
    let place = rw c.FORM.ensures at c.next_place.ensures in
    let item = rw c.FORM-in-loop-k.ensures at c.next_item.ensures in
    search left_others

pub returns-then-not-excludes : goal.returns-then-not-excludes
returns-then-not-excludes g c =
    let place = rw c.FORM.ensures at c.next_place.ensures in
    let item = rw c.FORM-in-loop-k.ensures at c.next_item.ensures in
    let law = λ (q : ℕ). g.met.H.Held.meets_law _ _ _ q c.of-held.ensures c.requires.counted in
    search apart_not

pub loop-k-preserved : goal.loop-k-preserved
loop-k-preserved g c =
    let place = rw c.FORM.ensures at c.next_place.ensures in
    let item = rw c.FORM-in-loop-k.ensures at c.next_item.ensures in
    let law = λ (q : ℕ). g.met.H.Held.meets_law _ _ _ q c.of-held.ensures c.requires.counted in
    search apart_next

pub returns : goal.returns
returns g c = search apart_done
