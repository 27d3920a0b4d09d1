-- What the literals that are left say is what all of them say.
use mathlib.Core.Path.{sym, ap}
use Rattle.meaning.specs.Tests.{each_of}
use Rattle.valuing.proofs.PairsLaws.{pairs_start, pairs_whole, pairs_on, pairs_over, pair_turn, pair_near, pair_second}
use Rattle.valuing.proofs.ValuedMarks.{each_over, each_on, each_fails}
use Rattle.valuing.proofs.states.each_known.Goals as goal

pub loop-pair-init : goal.loop-pair-init
loop-pair-init c =
    record {
      pairs = search pairs_start;
      same = ap (each_of _) (sym (pairs_whole _ _ _ c.listed_in_twos.ensures.entries _ _ c.into_iter-pair-iterator.ensures.into_iter_gives c.chunks_exact-pair-items.ensures.rest));
    }

pub known-requires-clause-l_bound : goal.known-requires-clause-l_bound
known-requires-clause-l_bound c = pair_near _ _ _ _ c.loop-pair.invariant.pairs _ _ _ c.in-Some.ensures.steps _ c.two.ensures c.requires.values_here

pub known-requires-clause-l_bound_2 : goal.known-requires-clause-l_bound_2
known-requires-clause-l_bound_2 c = pair_second _ _ _ _ c.loop-pair.invariant.pairs _ _ _ c.in-Some.ensures.steps _ c.two.ensures c.requires.values_here

pub returns-then-not-known : goal.returns-then-not-known
returns-then-not-known c =
    let turn = pair_turn _ _ _ _ c.loop-pair.invariant.pairs _ _ _ c.in-Some.ensures.steps _ c.two.ensures in search each_fails

pub loop-pair-preserved : goal.loop-pair-preserved
loop-pair-preserved c =
    let turn = pair_turn _ _ _ _ c.loop-pair.invariant.pairs _ _ _ c.in-Some.ensures.steps _ c.two.ensures in
    record { pairs = pairs_on _ _ _ _ c.loop-pair.invariant.pairs _ _ _ c.in-Some.ensures.steps _ c.two.ensures; same = search each_on }

pub returns : goal.returns
returns c = each_over _ _ _ c.loop-pair.invariant.same (pairs_over _ _ _ _ c.loop-pair.invariant.pairs c.in-None.ensures.steps)
