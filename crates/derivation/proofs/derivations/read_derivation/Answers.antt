-- Too long, without its count or with one outside, with a faulty line, with a fault in what closes it, with bytes after that, or whole: a law for each
-- way.
use native.Mathlib.Omega.{arith}
use mathlib.Core.Logic.{inl, inr}
use borrow.Author.Rules.{rules}
use Rattle.derivation.proofs.DerivationLaws.{derivation_long, derivation_fault, derivation_none, derivation_many, lines_fault, lines_fit, closing_fault, closing_before, closing_whole}
use Rattle.derivation.proofs.derivations.read_derivation.Goals as goal

pub returns-then-s-gt-DERIVATION : goal.returns-then-s-gt-DERIVATION
returns-then-s-gt-DERIVATION c = search (rules, derivation_long)

pub returns-in_err-count : goal.returns-in_err-count
returns-in_err-count c = search (rules, derivation_fault)

pub returns-then-count-lt1 : goal.returns-then-count-lt1
returns-then-count-lt1 c =
    elim c.then-count-lt1.either [
      | inl low ↦ derivation_none _ _ _ _ _ _ c.if-s-gt-DERIVATION.false c.two_bytes_at.ensures _ _ c.in_ok-count.was _ _ low c.at-then-count-lt1.ensures
      | inr high ↦ derivation_many _ _ _ _ _ _ c.if-s-gt-DERIVATION.false c.two_bytes_at.ensures _ _ c.in_ok-count.was _ _ high.1 c.at-then-count-lt1.ensures
    ]

pub returns-in_err-lines_end : goal.returns-in_err-lines_end
returns-in_err-lines_end c = search (rules, lines_fault)

pub note_place-requires : goal.note_place-requires
note_place-requires c = search (rules, lines_fit)

pub returns-in_err-end : goal.returns-in_err-end
returns-in_err-end c = search (rules, closing_fault)

pub returns-then-end-s : goal.returns-then-end-s
returns-then-end-s c = closing_before _ _ _ _ _ _ c.if-s-gt-DERIVATION.false c.two_bytes_at.ensures _ _ c.in_ok-count.was _ _ (omega arith) (omega arith) c.read_lines.ensures _ c.in_ok-lines_end.was _ c.note_place.new.places c.closing_at.ensures _ c.in_ok-end.was _ _ c.if-end-s.true c.at-then-end-s.ensures

pub returns : goal.returns
returns c = search (rules, closing_whole)
