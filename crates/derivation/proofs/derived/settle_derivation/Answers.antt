-- Reading left the place of line k in slot k, so the lines that were read are those that are searched; their number stands in the first two
-- bytes, and is within its limit. The places are not written again.
use Rattle.derivation.proofs.DerivedLaws.{count_first, count_second, derivation_short, lines_few, lines_stand, lines_past_18, lines_at_18, derived_fault}
use borrow.Author.Rules.{rules}
use Rattle.derivation.proofs.derived.settle_derivation.Goals as goal

pub bounds-s-0 : goal.bounds-s-0
bounds-s-0 c = search (rules, count_first)

pub bounds-s-1 : goal.bounds-s-1
bounds-s-1 c = search (rules, count_second)

pub overlap_in_lines-requires-clause-s_len_bound : goal.overlap_in_lines-requires-clause-s_len_bound
overlap_in_lines-requires-clause-s_len_bound c = search (rules, derivation_short)

pub overlap_in_lines-requires-clause-count_le_lines : goal.overlap_in_lines-requires-clause-count_le_lines
overlap_in_lines-requires-clause-count_le_lines c = search (rules, lines_few)

pub overlap_in_lines-requires-clause-some_lines : goal.overlap_in_lines-requires-clause-some_lines
overlap_in_lines-requires-clause-some_lines c = search (rules, lines_stand)

pub returns-in-None : goal.returns-in-None
returns-in-None c = search (rules, lines_past_18)

pub returns-in-Some : goal.returns-in-Some
returns-in-Some c = search (rules, lines_at_18)

pub returns-in_err-end : goal.returns-in_err-end
returns-in_err-end c = search (rules, derived_fault)
