-- The lines that are cited stand where their slots say, and each rule says what it gives of the lines that stand there.
use borrow.Author.Rules.{rules}
use Rattle.checking.proofs.EachLineLaws.{own_some, own_read, cited_below, one_there, one_below, one_some, first_there, first_below, first_some, second_there, second_below, second_some, by_empty, by_action, by_sensing, by_branching, by_composition, by_consequence, by_look, by_literal}
use Rattle.checking.proofs.each_line.gives.Goals as goal

pub rule_1-requires : goal.rule_1-requires
rule_1-requires c = search own_some

pub rule_2-requires : goal.rule_2-requires
rule_2-requires c = search own_some

pub rule_3-requires-clause-some_line : goal.rule_3-requires-clause-some_line
rule_3-requires-clause-some_line c = search own_some

pub rule_3-requires-clause-cited_below : goal.rule_3-requires-clause-cited_below
rule_3-requires-clause-cited_below c = search cited_below

pub cited_of-cited-requires-clause-number_there : goal.cited_of-cited-requires-clause-number_there
cited_of-cited-requires-clause-number_there c = one_there _ _ _ _ _ _ _ c.requires.numbered _ c.requires.l_value c.requires.cites_earlier _ c.requires.rule_value (search rules)

pub cited_of-cited-requires-clause-number_below : goal.cited_of-cited-requires-clause-number_below
cited_of-cited-requires-clause-number_below c = one_below _ _ _ _ _ _ _ c.requires.numbered _ c.requires.l_value c.requires.cites_earlier _ c.requires.rule_value (search rules)

pub rule_4-requires-clause-some_line : goal.rule_4-requires-clause-some_line
rule_4-requires-clause-some_line c = one_some _ _ _ _ _ _ _ c.requires.numbered _ c.requires.l_value c.requires.cites_earlier _ c.requires.rule_value (search rules) _ c.cited_of-cited.ensures

pub rule_4-requires-clause-some_read : goal.rule_4-requires-clause-some_read
rule_4-requires-clause-some_read c = search own_read

pub cited_of-first-requires-clause-number_there : goal.cited_of-first-requires-clause-number_there
cited_of-first-requires-clause-number_there c = search first_there

pub cited_of-first-requires-clause-number_below : goal.cited_of-first-requires-clause-number_below
cited_of-first-requires-clause-number_below c = search first_below

pub cited_of-second-requires-clause-number_there : goal.cited_of-second-requires-clause-number_there
cited_of-second-requires-clause-number_there c = search second_there

pub cited_of-second-requires-clause-number_below : goal.cited_of-second-requires-clause-number_below
cited_of-second-requires-clause-number_below c = search second_below

pub rule_5-requires-clause-some_line : goal.rule_5-requires-clause-some_line
rule_5-requires-clause-some_line c = search first_some

pub rule_5-requires-clause-some_line_2 : goal.rule_5-requires-clause-some_line_2
rule_5-requires-clause-some_line_2 c = search second_some

pub rule_5-requires-clause-some_line_3 : goal.rule_5-requires-clause-some_line_3
rule_5-requires-clause-some_line_3 c = search own_some

pub cited_of-cited-requires-in-Consequence-clause-number_there : goal.cited_of-cited-requires-in-Consequence-clause-number_there
cited_of-cited-requires-in-Consequence-clause-number_there c = one_there _ _ _ _ _ _ _ c.requires.numbered _ c.requires.l_value c.requires.cites_earlier _ c.requires.rule_value (search rules)

pub cited_of-cited-requires-in-Consequence-clause-number_below : goal.cited_of-cited-requires-in-Consequence-clause-number_below
cited_of-cited-requires-in-Consequence-clause-number_below c = one_below _ _ _ _ _ _ _ c.requires.numbered _ c.requires.l_value c.requires.cites_earlier _ c.requires.rule_value (search rules)

pub rule_6-requires-clause-some_line : goal.rule_6-requires-clause-some_line
rule_6-requires-clause-some_line c = one_some _ _ _ _ _ _ _ c.requires.numbered _ c.requires.l_value c.requires.cites_earlier _ c.requires.rule_value (search rules) _ c.cited_of-cited-in-Consequence.ensures

pub rule_6-requires-clause-some_line_2 : goal.rule_6-requires-clause-some_line_2
rule_6-requires-clause-some_line_2 c = search own_some

pub rule_7-requires : goal.rule_7-requires
rule_7-requires c = search own_some

pub cited_of-cited-requires-in_default-clause-number_there : goal.cited_of-cited-requires-in_default-clause-number_there
cited_of-cited-requires-in_default-clause-number_there c = one_there _ _ _ _ _ _ _ c.requires.numbered _ c.requires.l_value c.requires.cites_earlier _ c.requires.rule_value (search rules)

pub cited_of-cited-requires-in_default-clause-number_below : goal.cited_of-cited-requires-in_default-clause-number_below
cited_of-cited-requires-in_default-clause-number_below c = one_below _ _ _ _ _ _ _ c.requires.numbered _ c.requires.l_value c.requires.cites_earlier _ c.requires.rule_value (search rules)

pub rule_8-requires-clause-some_line : goal.rule_8-requires-clause-some_line
rule_8-requires-clause-some_line c = one_some _ _ _ _ _ _ _ c.requires.numbered _ c.requires.l_value c.requires.cites_earlier _ c.requires.rule_value (search rules) _ c.cited_of-cited-in_default.ensures

pub rule_8-requires-clause-some_line_2 : goal.rule_8-requires-clause-some_line_2
rule_8-requires-clause-some_line_2 c = search own_some

pub returns-in-Empty : goal.returns-in-Empty
returns-in-Empty c = search by_empty

pub returns-in-Action : goal.returns-in-Action
returns-in-Action c = search by_action

pub returns-in-Sensing : goal.returns-in-Sensing
returns-in-Sensing c = search by_sensing

pub returns-in-Branching : goal.returns-in-Branching
returns-in-Branching c = search (rules, by_branching)

pub returns-in-Composition : goal.returns-in-Composition
returns-in-Composition c = search by_composition

pub returns-in-Consequence : goal.returns-in-Consequence
returns-in-Consequence c = search (rules, by_consequence)

pub returns-in-Look : goal.returns-in-Look
returns-in-Look c = search by_look

pub returns-in_default : goal.returns-in_default
returns-in_default c = search (rules, by_literal)
