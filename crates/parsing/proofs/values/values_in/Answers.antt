-- No byte, no such fluent, no byte for it, or its byte.
use borrow.Author.Rules.{rules}
use Rattle.parsing.proofs.ValueReaderLaws.{no_byte_at_all, no_such_fluent, count_missing, count_there}
use Rattle.parsing.proofs.values.values_in.Goals as goal
use Rattle.parsing.proofs.values.values_in.Goals.{then-s-eq0-via-then-s-eq0, then-s-eq0-via-else-s-eq0+then-from-f}

pub returns-then-s-eq0-clause-value : goal.returns-then-s-eq0-clause-value
returns-then-s-eq0-clause-value c =
    elim c.then-s-eq0.branch [
      | then-s-eq0-via-then-s-eq0 w ↦ search (rules, no_byte_at_all)
      | then-s-eq0-via-else-s-eq0+then-from-f w ↦ search (rules, no_such_fluent)
    ]

pub returns-then-s-f-clause-value : goal.returns-then-s-f-clause-value
returns-then-s-f-clause-value c = search (rules, count_missing)

pub returns-clause-value : goal.returns-clause-value
returns-clause-value c = search (rules, count_there)
