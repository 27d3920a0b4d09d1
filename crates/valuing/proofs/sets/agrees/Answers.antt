-- Each literal so far leaves its fluent a value; one that leaves none at some literal leaves none at the end.
use Rattle.parsing.proofs.ValueReaderLaws.{few_enough}
use Rattle.valuing.proofs.PairsLaws.{pairs_start, pairs_whole, pairs_on, pairs_over, pair_turn, pair_near, pair_second, pair_fluent}
use Rattle.valuing.proofs.LeftLaws.{agree_starts, agree_on, agree_none, agree_over}
use Rattle.valuing.proofs.sets.agrees.Goals as goal

pub loop-pair-init : goal.loop-pair-init
loop-pair-init c =
    let whole = pairs_whole _ _ _ c.listed_in_twos.ensures.entries _ _ c.into_iter-pair-iterator.ensures.into_iter_gives c.chunks_exact-pair-items.ensures.rest in
    record { pairs = search pairs_start; agree = search agree_starts }

pub narrow-requires : goal.narrow-requires
narrow-requires c =
    record { l_bound = pair_near _ _ _ _ c.loop-pair.invariant.pairs _ _ _ c.in-Some.ensures.steps _ c.two-l.ensures c.requires.values_here; l_bound_2 = pair_second _ _ _ _ c.loop-pair.invariant.pairs _ _ _ c.in-Some.ensures.steps _ c.two-l.ensures c.requires.values_here }

pub values_in-requires : goal.values_in-requires
values_in-requires c = pair_fluent _ _ _ _ c.loop-pair.invariant.pairs _ _ _ c.in-Some.ensures.steps _ c.two-l.ensures c.requires.values_here

pub bounds-both-f : goal.bounds-both-f
bounds-both-f c = pair_fluent _ _ _ _ c.loop-pair.invariant.pairs _ _ _ c.in-Some.ensures.steps _ c.two-l.ensures c.requires.values_here

pub some_left-requires : goal.some_left-requires
some_left-requires c = search few_enough

pub loop-pair-preserved : goal.loop-pair-preserved
loop-pair-preserved c =
    let turn = pair_turn _ _ _ _ c.loop-pair.invariant.pairs _ _ _ c.in-Some.ensures.steps _ c.two-l.ensures in
    let near = pair_near _ _ _ _ c.loop-pair.invariant.pairs _ _ _ c.in-Some.ensures.steps _ c.two-l.ensures c.requires.values_here in
    let second = pair_second _ _ _ _ c.loop-pair.invariant.pairs _ _ _ c.in-Some.ensures.steps _ c.two-l.ensures c.requires.values_here in
    record { pairs = pairs_on _ _ _ _ c.loop-pair.invariant.pairs _ _ _ c.in-Some.ensures.steps _ c.two-l.ensures; agree = search agree_on }

pub returns-then-not-some_left : goal.returns-then-not-some_left
returns-then-not-some_left c =
    let turn = pair_turn _ _ _ _ c.loop-pair.invariant.pairs _ _ _ c.in-Some.ensures.steps _ c.two-l.ensures in
    let near = pair_near _ _ _ _ c.loop-pair.invariant.pairs _ _ _ c.in-Some.ensures.steps _ c.two-l.ensures c.requires.values_here in
    let second = pair_second _ _ _ _ c.loop-pair.invariant.pairs _ _ _ c.in-Some.ensures.steps _ c.two-l.ensures c.requires.values_here in
    search agree_none

pub returns : goal.returns
returns c =
    let none = pairs_over _ _ _ _ c.loop-pair.invariant.pairs c.in-None.ensures.steps in
    search agree_over
