-- The rule, the count and the numbers that are cited stand where the line's spot says, and are judged in the definition's order.
use Rattle.checking.proofs.EachLineLaws.{cited_there, cites_fit, cites_room, rule_mapped, not_said, not_known, not_taken, not_earlier, cites_earlier, not_following, following}
use Rattle.checking.proofs.each_line.line_refused.Goals as goal

pub returns-in_default : goal.returns-in_default
returns-in_default c = search not_said

pub returns-then-not-is_rule : goal.returns-then-not-is_rule
returns-then-not-is_rule c = search not_known

pub bounds-d-l : goal.bounds-d-l
bounds-d-l c = search cited_there

pub returns-then-not-takes : goal.returns-then-not-takes
returns-then-not-takes c = search not_taken

pub overflow_add-l : goal.overflow_add-l
overflow_add-l c = search cites_fit

pub all_earlier-requires : goal.all_earlier-requires
all_earlier-requires c = search cites_room

pub returns-then-not-all_earlier : goal.returns-then-not-all_earlier
returns-then-not-all_earlier c = search not_earlier

pub gives-requires-clause-rule_value : goal.gives-requires-clause-rule_value
gives-requires-clause-rule_value c = search rule_mapped

pub gives-requires-clause-cites_earlier : goal.gives-requires-clause-cites_earlier
gives-requires-clause-cites_earlier c = search cites_earlier

pub returns-then-not-gives : goal.returns-then-not-gives
returns-then-not-gives c = search not_following

pub returns : goal.returns
returns c = search following
