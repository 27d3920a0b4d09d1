-- An entry is missing or too large, not above the one before, its complement, or good: one law for each, in that order. Nothing is kept of the entries, so what is read goes by the floor alone.
use Rattle.std.proofs.lemmas.Result.{err_from_is_err_and}
use Rattle.parsing.proofs.ListLaws.{entry_low, entry_beside, entry_good, entry_fault, kind_read}
use Rattle.parsing.proofs.lists.KindEntry.entry_at.Goals as goal

pub returns-in_err-x : goal.returns-in_err-x
returns-in_err-x c =
    let told = err_from_is_err_and c.from_residual.result c.from_residual.ensures.1 in
    λ first. rw (told.1, told.2) (kind_read _ _ _ _ _ _ c.requires.n_le_fluents (entry_fault _ _ _ _ _ _ c.first_too_large.ensures c.in_err-x.ensures) first)

pub returns-then-x-floor : goal.returns-then-x-floor
returns-then-x-floor c = kind_read _ _ _ _ _ _ c.requires.n_le_fluents (entry_low _ _ _ _ _ _ c.first_too_large.ensures _ _ c.in_ok-x.ensures _ c.if-x-floor.true c.at.ensures)

pub returns-then-beside : goal.returns-then-beside
returns-then-beside c =
    kind_read _ _ _ _ _ _ c.requires.n_le_fluents
    (entry_beside _ _ _ _ _ _ c.first_too_large.ensures _ _ c.in_ok-x.ensures _ _ c.if-x-floor.false c.beside.ensures c.if-beside.true c.at-then-beside.ensures)

pub returns : goal.returns
returns c = kind_read _ _ _ _ _ _ c.requires.n_le_fluents (entry_good _ _ _ _ _ _ c.first_too_large.ensures _ _ c.in_ok-x.ensures _ c.if-x-floor.false c.beside.ensures c.if-beside.false)
