-- What both derivation calls promise of one derivation in two layouts (FORMAT 17.42, 17.43): of answers that meet the calls' own contracts, and
-- of the numbers that the exported calls return. Assumes nothing.
use Prim.Native.Nat.{ℕ, ◌%◌, ◌≤◌}
use mathlib.Core.Path.{◌≡◌, sym, ◌∙◌, ap, ap₂, subst}
use mathlib.Core.Bool.{true}
use mathlib.Core.List.{List}
use lib.ListN.{length}
use contract.Lifetimes.{Lfts}
use borrow.Fn.Kinds.{Dens, ended_of}
use denote.Triple.Clauses.{AtExit}
use Rattle.meaning.specs.declared.Answer.{Answer}
use Rattle.meaning.specs.declared.Layout.{Layout}
use Rattle.meaning.specs.declared.Layout.TheVariants.{Plain, Closing}
use Rattle.meaning.specs.Limits
use Rattle.meaning.specs.Limits.{format}
use Rattle.meaning.specs.Reading.{got}
use Rattle.meaning.specs.Derivations.{Derivation, check}
use Rattle.meaning.specs.Layouts.{Bytes, written, plain_rules, names_last, closed_by_last, read_for, InClosingLayout, InPlainLayout}
use Rattle.demands.proofs.LayoutLaws.{plain_to_closing, closing_to_plain}
use Rattle.promises.proofs.DerivationPromises
use Rattle.promises.proofs.WhetherPromises
use Rattle.promises.proofs.ExportedDerivationPromises
use Rattle.promises.proofs.ExportedWhetherPromises
use Rattle.glintstring.proofs.check_calls.check.Kinds as plain-kinds
use Rattle.glintstring.proofs.check_calls.check.Reads as plain-reads
use Rattle.glintstring.proofs.check_calls.check_whether.Kinds as closing-kinds
use Rattle.glintstring.proofs.check_calls.check_whether.Reads as closing-reads
use Rattle.glintstring.proofs.exports.glintstring_check.Kinds as plain-export-kinds
use Rattle.glintstring.proofs.exports.glintstring_check.Reads as plain-export-reads
use Rattle.glintstring.proofs.exports.glintstring_check_whether.Kinds as closing-export-kinds
use Rattle.glintstring.proofs.exports.glintstring_check_whether.Reads as closing-export-reads

-- The number for inputs that are said otherwise.
same_inputs : (layout : Layout) (request request' d d' : List ℕ) → request' ≡ request → d' ≡ d → (check format layout request' d').number ≡ (check format layout request d).number
same_inputs layout request request' d d' r e = ap₂ {C = ℕ} (λ x y. (check format layout x y).number) r e

-- FROM THE PLAIN LAYOUT, where the derivation call has accepted: what the derivation says, written in the closing layout with the closing list
-- that names its last line, is three bytes longer, and the whether call accepts it where it is not too long.
module _ (κs : Lfts 2) (given : Dens κs plain-kinds.ps) (answer : Answer) (exit : AtExit (ended_of 2 plain-kinds.ps plain-kinds.r) κs) (meets : plain-reads.Post κs given answer exit)
    (bytes : Bytes (DerivationPromises.derivation κs given)) (accepts : answer.number ≡ Limits.verified) where
  pub in_closing_layout : InClosingLayout format (DerivationPromises.request κs given) (DerivationPromises.derivation κs given)
  in_closing_layout = plain_to_closing format _ _ bytes (ap (λ (a : Answer). a.number) (sym meets) ∙ accepts)

  pub whether_call_accepts : (κs' : Lfts 2) (given' : Dens κs' closing-kinds.ps) (answer' : Answer) (exit' : AtExit (ended_of 2 closing-kinds.ps closing-kinds.r) κs') → closing-reads.Post κs' given' answer' exit'
      → WhetherPromises.request κs' given' ≡ DerivationPromises.request κs given
      → WhetherPromises.derivation κs' given' ≡ written Closing (closed_by_last in_closing_layout.says)
      → length (WhetherPromises.derivation κs' given') ≤ format.derivation → answer'.number ≡ Limits.verified
  whether_call_accepts κs' given' answer' exit' meets' request derivation short =
      ap (λ (a : Answer). a.number) meets'
      ∙ same_inputs Closing _ _ _ _ request derivation
      ∙ in_closing_layout.accepted (subst (λ (d : List ℕ). length d ≤ format.derivation) derivation short)

-- The same of the exported calls.
module _ (κs : Lfts 2) (given : Dens κs plain-export-kinds.ps) (n : ℕ) (exit : AtExit (ended_of 2 plain-export-kinds.ps plain-export-kinds.r) κs) (meets : plain-export-reads.Post κs given n exit)
    (bytes : Bytes (ExportedDerivationPromises.derivation κs given)) (accepts : n % 256 ≡ Limits.verified) where
  pub exported_in_closing_layout : InClosingLayout format (ExportedDerivationPromises.request κs given) (ExportedDerivationPromises.derivation κs given)
  exported_in_closing_layout = plain_to_closing format _ _ bytes (sym (ExportedDerivationPromises.number_is κs given n exit meets) ∙ accepts)

  pub exported_whether_call_accepts : (κs' : Lfts 2) (given' : Dens κs' closing-export-kinds.ps) (n' : ℕ) (exit' : AtExit (ended_of 2 closing-export-kinds.ps closing-export-kinds.r) κs') → closing-export-reads.Post κs' given' n' exit'
      → ExportedWhetherPromises.request κs' given' ≡ ExportedDerivationPromises.request κs given
      → ExportedWhetherPromises.derivation κs' given' ≡ written Closing (closed_by_last exported_in_closing_layout.says)
      → length (ExportedWhetherPromises.derivation κs' given') ≤ format.derivation → n' % 256 ≡ Limits.verified
  exported_whether_call_accepts κs' given' n' exit' meets' request derivation short =
      ExportedWhetherPromises.number_is κs' given' n' exit' meets'
      ∙ same_inputs Closing _ _ _ _ request derivation
      ∙ exported_in_closing_layout.accepted (subst (λ (d : List ℕ). length d ≤ format.derivation) derivation short)

-- FROM THE CLOSING LAYOUT, where the whether call has accepted a derivation by rules 1 to 6 whose closing list names its last line: what it says,
-- written in the plain layout, is three bytes shorter, and the derivation call accepts it.
module _ (κs : Lfts 2) (given : Dens κs closing-kinds.ps) (answer : Answer) (exit : AtExit (ended_of 2 closing-kinds.ps closing-kinds.r) κs) (meets : closing-reads.Post κs given answer exit)
    (bytes : Bytes (WhetherPromises.derivation κs given)) (accepts : answer.number ≡ Limits.verified)
    (says : Derivation) (end : ℕ) (read : read_for format Closing (WhetherPromises.request κs given) (WhetherPromises.derivation κs given) ≡ got says end)
    (rules : plain_rules says.lines ≡ true) (last : says.closing ≡ names_last says.lines) where
  pub in_plain_layout : InPlainLayout format (WhetherPromises.request κs given) (WhetherPromises.derivation κs given) says
  in_plain_layout = closing_to_plain format _ _ bytes says end read rules last (ap (λ (a : Answer). a.number) (sym meets) ∙ accepts)

  pub derivation_call_accepts : (κs' : Lfts 2) (given' : Dens κs' plain-kinds.ps) (answer' : Answer) (exit' : AtExit (ended_of 2 plain-kinds.ps plain-kinds.r) κs') → plain-reads.Post κs' given' answer' exit'
      → DerivationPromises.request κs' given' ≡ WhetherPromises.request κs given
      → DerivationPromises.derivation κs' given' ≡ written Plain says → answer'.number ≡ Limits.verified
  derivation_call_accepts κs' given' answer' exit' meets' request derivation =
      ap (λ (a : Answer). a.number) meets' ∙ same_inputs Plain _ _ _ _ request derivation ∙ in_plain_layout.accepted

-- The same of the exported calls.
module _ (κs : Lfts 2) (given : Dens κs closing-export-kinds.ps) (n : ℕ) (exit : AtExit (ended_of 2 closing-export-kinds.ps closing-export-kinds.r) κs) (meets : closing-export-reads.Post κs given n exit)
    (bytes : Bytes (ExportedWhetherPromises.derivation κs given)) (accepts : n % 256 ≡ Limits.verified)
    (says : Derivation) (end : ℕ) (read : read_for format Closing (ExportedWhetherPromises.request κs given) (ExportedWhetherPromises.derivation κs given) ≡ got says end)
    (rules : plain_rules says.lines ≡ true) (last : says.closing ≡ names_last says.lines) where
  pub exported_in_plain_layout : InPlainLayout format (ExportedWhetherPromises.request κs given) (ExportedWhetherPromises.derivation κs given) says
  exported_in_plain_layout = closing_to_plain format _ _ bytes says end read rules last (sym (ExportedWhetherPromises.number_is κs given n exit meets) ∙ accepts)

  pub exported_derivation_call_accepts : (κs' : Lfts 2) (given' : Dens κs' plain-export-kinds.ps) (n' : ℕ) (exit' : AtExit (ended_of 2 plain-export-kinds.ps plain-export-kinds.r) κs') → plain-export-reads.Post κs' given' n' exit'
      → ExportedDerivationPromises.request κs' given' ≡ ExportedWhetherPromises.request κs given
      → ExportedDerivationPromises.derivation κs' given' ≡ written Plain says → n' % 256 ≡ Limits.verified
  exported_derivation_call_accepts κs' given' n' exit' meets' request derivation =
      ExportedDerivationPromises.number_is κs' given' n' exit' meets' ∙ same_inputs Plain _ _ _ _ request derivation ∙ exported_in_plain_layout.accepted
