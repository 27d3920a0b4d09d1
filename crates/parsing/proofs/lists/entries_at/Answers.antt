-- At each turn what the whole list gives is what the entries left give, after those so far.
use Rattle.std.proofs.lemmas.Result.{err_from_is_err_and}
use Rattle.parsing.proofs.ListLaws.{entry_fits, entries_first, entries_next, entries_stop, entries_over}
use Rattle.parsing.proofs.lists.entries_at.Goals as goal

pub loop-init : goal.loop-init
loop-init g c = entries_first _ _ _ _ c.requires.none_yet

pub overflow_add-floor : goal.overflow_add-floor
overflow_add-floor g c = entry_fits _ _ _ _ _ _ _ (c.entry_at.ensures c.args.first) c.in_ok-x.was

pub loop-preserved : goal.loop-preserved
loop-preserved g c =
    let law = g.met.E.Entry.more_law c.args.first c.args.n c.args.s.now in
    entries_next (g.E.Entry.entry c.args.first c.args.n c.args.s.now) (g.E.Entry.entries c.args.first c.args.n c.args.s.now) law _ _ _ _ _ _ _ _ c.loop.invariant c.loop-test.true (c.entry_at.ensures c.args.first) _ _ c.in_ok-x.was

pub returns-in_err-x : goal.returns-in_err-x
returns-in_err-x g c =
    let law = g.met.E.Entry.more_law c.args.first c.args.n c.args.s.now in
    let told = err_from_is_err_and c.from_residual.result c.from_residual.ensures.1 in
    rw (told.1, told.2)
    (entries_stop (g.E.Entry.entry c.args.first c.args.n c.args.s.now) (g.E.Entry.entries c.args.first c.args.n c.args.s.now) law _ _ _ _ _ _ _ _ c.loop.invariant c.loop-test.true (c.entry_at.ensures c.args.first) _ c.in_err-x.was)

pub returns : goal.returns
returns g c = entries_over _ _ _ _ _ _ _ (g.met.E.Entry.none_law c.args.first c.args.n c.args.s.now) c.loop.invariant c.loop-test.false
