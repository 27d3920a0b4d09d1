-- What 16 and 17 refuse is refused; else the answer is that of 18.
use borrow.Author.Rules.{rules}
use Rattle.std.proofs.lemmas.Result.{err_from_is_err_and}
use Rattle.refusing.proofs.SettleLaws.{table_read_here, table_ends, refused_then, refused_first}
use Rattle.refusing.proofs.settled.refused.Goals as goal

pub table_refused-requires : goal.table_refused-requires
table_refused-requires c = search (table_read_here, table_ends, c.shared_slice_known-1.given)

pub returns : goal.returns
returns c = refused_then _ _ c.type_inv.s _ c.requires _ c.get-plan.ensures _ _ c.table_refused.ensures _ _ c.in_ok-table_refused.was c.plan_refused.ensures

pub returns-in_err-table_refused : goal.returns-in_err-table_refused
returns-in_err-table_refused c =
    let told = err_from_is_err_and c.from_residual.result c.from_residual.ensures.1 in
    rw (told.1, told.2) (refused_first _ _ c.type_inv.s _ c.requires _ c.get-plan.ensures _ _ c.table_refused.ensures _ c.in_err-table_refused.was)
