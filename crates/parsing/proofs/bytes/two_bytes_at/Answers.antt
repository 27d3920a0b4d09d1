-- None, one or both of the two bytes are there: one law for each.
use native.Mathlib.Omega.{arith}
use borrow.Author.Rules.{rules}
use Rattle.parsing.proofs.ByteLaws.{byte_fits, high_fault, low_fault, two_bytes_there}
use Rattle.parsing.proofs.bytes.two_bytes_at.Goals as goal

pub returns-in_err-high : goal.returns-in_err-high
returns-in_err-high c = search (rules, high_fault)

pub returns-in_err-low : goal.returns-in_err-low
returns-in_err-low c = search (rules, low_fault)

pub overflow_mul-result : goal.overflow_mul-result
overflow_mul-result c =
    let high = byte_fits _ _ _ _ c.type_inv.s c.in_ok-high.ensures in
    let low = byte_fits _ _ _ _ c.type_inv.s c.in_ok-low.ensures in
    record { fits = omega arith }

pub overflow_add-result : goal.overflow_add-result
overflow_add-result c =
    let high = byte_fits _ _ _ _ c.type_inv.s c.in_ok-high.ensures in
    let low = byte_fits _ _ _ _ c.type_inv.s c.in_ok-low.ensures in
    record { fits = omega arith }

pub returns : goal.returns
returns c = search (rules, two_bytes_there)
