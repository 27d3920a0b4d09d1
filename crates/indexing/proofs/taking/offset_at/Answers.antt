-- The two bytes as one number, high byte first.
use Rattle.indexing.proofs.TakeLaws.{offset_read}
use Rattle.indexing.proofs.taking.offset_at.Goals as goal

pub returns : goal.returns
returns c =
    let both = offset_read c.args.index.now c.type_inv.index _ _ c.two.ensures in
    record { value = both.0; upper_bound = both.1 }
