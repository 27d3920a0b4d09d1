-- The sets are what the literals so far leave, and those with the literals that are left say what all of them say.
use Rattle.valuing.proofs.PairsLaws.{pairs_start, pairs_whole, pairs_on, pairs_over, pair_turn, pair_near, pair_second}
use Rattle.valuing.proofs.LeftLaws.{allowed_starts, allowed_on, allowed_over}
use Rattle.valuing.proofs.sets.allowed_by.Goals as goal

pub loop-pair-init : goal.loop-pair-init
loop-pair-init c =
    let whole = pairs_whole _ _ _ c.listed_in_twos.ensures.entries _ _ c.into_iter-pair-iterator.ensures.into_iter_gives c.chunks_exact-pair-items.ensures.rest in
    record { pairs = search pairs_start; narrow = search allowed_starts }

pub narrow-requires : goal.narrow-requires
narrow-requires c =
    record { l_bound = pair_near _ _ _ _ c.loop-pair.invariant.pairs _ _ _ c.in-Some.ensures.steps _ c.two.ensures c.requires; l_bound_2 = pair_second _ _ _ _ c.loop-pair.invariant.pairs _ _ _ c.in-Some.ensures.steps _ c.two.ensures c.requires }

pub loop-pair-preserved : goal.loop-pair-preserved
loop-pair-preserved c =
    let turn = pair_turn _ _ _ _ c.loop-pair.invariant.pairs _ _ _ c.in-Some.ensures.steps _ c.two.ensures in
    let near = pair_near _ _ _ _ c.loop-pair.invariant.pairs _ _ _ c.in-Some.ensures.steps _ c.two.ensures c.requires in
    let second = pair_second _ _ _ _ c.loop-pair.invariant.pairs _ _ _ c.in-Some.ensures.steps _ c.two.ensures c.requires in
    record { pairs = pairs_on _ _ _ _ c.loop-pair.invariant.pairs _ _ _ c.in-Some.ensures.steps _ c.two.ensures; narrow = search allowed_on }

pub returns : goal.returns
returns c =
    let none = pairs_over _ _ _ _ c.loop-pair.invariant.pairs c.in-None.ensures.steps in
    search allowed_over
