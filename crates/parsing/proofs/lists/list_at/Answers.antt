-- A list is its count and then its entries; a fault of the count is the list's.
use Rattle.std.proofs.lemmas.Result.{err_from_is_err_and}
use Rattle.parsing.proofs.ListLaws.{list_entries, list_fault}
use Rattle.parsing.proofs.lists.list_at.Goals as goal

pub returns-in_err-count : goal.returns-in_err-count
returns-in_err-count g c =
    let law = g.met.E.Entry.list_law c.args.first c.args.n c.args.most c.args.s.now c.args.p in
    let told = err_from_is_err_and c.from_residual.result c.from_residual.ensures.1 in
    rw (told.1, told.2) (list_fault _ _ _ (g.E.Entry.entries c.args.first c.args.n c.args.s.now) _ law c.in_err-count.ensures)

pub returns : goal.returns
returns g c =
    let law = g.met.E.Entry.list_law c.args.first c.args.n c.args.most c.args.s.now c.args.p in
    list_entries _ _ _ (g.E.Entry.entries c.args.first c.args.n c.args.s.now) _ law _ _ _ c.in_ok-count.ensures c.entries_at.ensures
