-- A plan is a sequence with no item before it, in which branchings may be nested as deep as the limit.
use Rattle.reading.proofs.SequenceLaws.{plan_whole}
use Rattle.reading.proofs.plan.plan_at.Goals as goal

pub returns : goal.returns
returns g c =
    let of = c.new-input.ensures in
    let read = rw (of.bytes, of.fluents, of.actions) at c.sequence_at.ensures in
    plan_whole g.S.Shape.FORM c.args.n c.args.m c.args.s.now c.args.start c.args.t.now _ _ read
