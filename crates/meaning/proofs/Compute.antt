-- Opens every definition that an answer computes by: a proof that computes one says `unfolding all_open`.
use Rattle.meaning.specs.Tests.{both, either, fails, pick, some_of, each_of, those_of}
use Rattle.meaning.specs.Literals.{says_true, says_false, fluent_of, positive, complement, among, exclusive}
use Rattle.meaning.specs.Requests.{values}
use Rattle.meaning.specs.Reading.{next, byte_at, two_bytes_at, count_at, below_at, bound_of, have_complements, entry_at, entries_at, list_at, values_in, value_at, leaves_one, floor_after, value_entry_at, value_entries_at, value_list_at, set_value_at, value_counts_at, repeated, section_at, body_at, effect_at, executability_at, knowledge_at, item_at, items_at, sequence_at, branches_at, branching_at, plan_at, table_at, placed, placed_twos, request_at, read_request}
use Rattle.meaning.specs.Refusals.{failing_in, or_else, clashing, runs_with, contradictory, first_against, contradiction_in, mixed_in, conditions_of, all_exclusive, refuse, settled}
use Rattle.meaning.specs.Lines.{effects_of, executability_of, knowledge_of, allowed, given, sensing, senses}
use Rattle.meaning.specs.States.{mark_of, known, possible, known_whether, told, told_all, state_of, first_state, can_be_run, known_after, mark_after, marks_after, state_after, unknown_from, unknown_sensed, readings, outcome}
use Rattle.meaning.specs.Walk.{stopped_at, counted, keep_miss, after_miss, after_end, and_then, each_reading, after_step, run_action, walk, table_does, table_step, first_missed, missed_in, end_of, judged, walked, guarded_step, walked_guarded}
use Rattle.meaning.specs.Values
use Rattle.meaning.specs.ValueStates
use Rattle.meaning.specs.Judging.{written_over, reported, count_told, ended, within, judge_got, judge}
use Rattle.meaning.specs.Valued
use Rattle.meaning.specs.Guards.{read_guarded, settled_guarded, walk_of, judge_guarded, line_guarded}
use Rattle.meaning.specs.ByCases.{upward, fillings, complete, runs_by_cases, shared_mark, shared_marks, after_each, after_cases, in_body, in_bodies, open_fluents, too_many, cases_does, cases_step, walked_by_cases, judge_by_cases, line_by_cases}
use Rattle.meaning.specs.Indexes.{effect_places, run_places, offsets, counted_offsets, action_index, index_from, index_of, offset_at, offsets_at, counted_at, after_counted, effects_start, runs_start, and_line, lines_at, each_action, by_index, difference_from, first_difference, difference_in, build_got, build, unless_differs, judge_indexed, line_indexed}
use Rattle.meaning.specs.Releases.{opening, plans_at, byte_after, plan_answer, unreached, after_plan, answers_at, in_row, rows, settled_plans, own_answer, released, release_opened, release, plans_of, plans_in}
use Rattle.meaning.specs.Asking
use Rattle.meaning.specs.Derivations.{concludes_fluent, list_concluded, fluent_concluded, conclusion_at, concluded_at, line_at, closing_at, read_derivation, overlap_in_lines, same_list, same_plan, join, included, known_from, literals_of, same_conclusion, says, states_of, of_one, of_two, rule_1, takes_branch, branches_first, rule_4, rule_5, part_of, rule_6, one_literal, settles, rule_8, each_reads, acts, one_action, rule_2, reads, senses_first, rule_3, looks_for, one_look, rule_7, given_by, for_lists, follows, citations_taken, citations_of, a_rule, cited_by, check_lines, asks_for, goals_of, check_last, all_asked, names, check_entries, check_closing, check_end, check_derivation, answer, accepted_if, beyond, check_settled, check}
use Rattle.meaning.specs.Layouts.{list_written, number_written, numbers_written, items_in, branches_in, items_written, plan_written, conclusion_written, concluded_written, line_written, lines_written, closing_written, written}
use Rattle.meaning.specs.Schemes.{line_of, empty_lines, and_cites, one_read, both_read, then_read, read_lines, rule_for, sensing_lines, acting_lines, action_lines, branching_lines, lines, lines_from, derivation_of, derivation_bytes, too_wide, narrow_does, narrow_step, walked_narrow, unwritten, write_bytes, write_lines, unless_refused, derive_got, derive}
use Rattle.meaning.specs.Showing.{part_from, show}

unfoldable pub all_open : Type 0
unfolding both either fails pick some_of each_of those_of says_true says_false fluent_of positive complement among exclusive next byte_at two_bytes_at count_at below_at bound_of have_complements entry_at entries_at list_at values_in value_at leaves_one floor_after value_entry_at value_entries_at value_list_at set_value_at value_counts_at repeated section_at body_at effect_at executability_at knowledge_at item_at items_at sequence_at branches_at branching_at plan_at table_at placed placed_twos request_at read_request or_else clashing runs_with contradictory first_against contradiction_in mixed_in conditions_of all_exclusive failing_in refuse settled mark_of known possible known_whether told told_all state_of first_state effects_of executability_of knowledge_of allowed given can_be_run known_after mark_after marks_after state_after sensing senses unknown_from unknown_sensed readings outcome stopped_at counted keep_miss after_miss after_end and_then each_reading after_step run_action walk table_does table_step first_missed missed_in end_of judged walked guarded_step walked_guarded written_over reported count_told ended within judge_got judge read_guarded settled_guarded walk_of judge_guarded line_guarded upward fillings complete runs_by_cases shared_mark shared_marks after_each after_cases in_body in_bodies open_fluents too_many cases_does cases_step walked_by_cases judge_by_cases line_by_cases effect_places run_places offsets counted_offsets action_index index_from index_of offset_at offsets_at counted_at after_counted effects_start runs_start and_line lines_at each_action by_index difference_from first_difference difference_in build_got build unless_differs judge_indexed line_indexed opening plans_at byte_after plan_answer unreached after_plan answers_at in_row rows settled_plans own_answer released release_opened release plans_of plans_in Asking.short_by Asking.fewest Asking.nearest Asking.first_allowing Asking.asked Asking.line_of Asking.line_at Asking.line_told Asking.line_got Asking.line values concludes_fluent list_concluded fluent_concluded conclusion_at concluded_at line_at closing_at read_derivation overlap_in_lines same_list same_plan join included known_from literals_of same_conclusion says states_of of_one of_two rule_1 takes_branch branches_first rule_4 rule_5 part_of rule_6 one_literal settles rule_8 each_reads acts one_action rule_2 reads senses_first rule_3 looks_for one_look rule_7 given_by for_lists follows citations_taken citations_of a_rule cited_by check_lines asks_for goals_of check_last all_asked names check_entries check_closing check_end check_derivation answer accepted_if beyond check_settled check list_written number_written numbers_written items_in branches_in items_written plan_written conclusion_written concluded_written line_written lines_written closing_written written line_of empty_lines and_cites one_read both_read then_read read_lines rule_for sensing_lines acting_lines action_lines branching_lines lines lines_from derivation_of derivation_bytes too_wide narrow_does narrow_step walked_narrow unwritten write_bytes write_lines unless_refused derive_got derive part_from show Values.numbers Values.first_such ValueStates.mark_left ValueStates.told ValueStates.is_known ValueStates.each_value Values.values_of ValueStates.known_as ValueStates.known ValueStates.possible ValueStates.known_whether Values.fits ValueStates.first_state ValueStates.can_be_run Values.set_by ValueStates.known_after ValueStates.mark_after ValueStates.state_after ValueStates.unknown_sensed ValueStates.readings ValueStates.outcome ValueStates.table_does ValueStates.table_step ValueStates.missed_in ValueStates.judged ValueStates.walked Values.disagree Values.exclusive Values.clashing Values.runs_with Values.contradictory Values.all_exclusive Valued.settled_values Valued.walk_of Valued.judge_values
all_open = Unit {0}
