-- Each return is one law that says what was put by what was there before. At each call the position rises, or in the readings the fluent does, so the cycle ends.
use borrow.Author.Rules.{rules}
use Rattle.steps.proofs.LookLaws.{first_marked, second_marked, after_marked}
use Rattle.steps.proofs.OnwardLaws.{item_inside, place_fits, place_there}
use Rattle.schemes.proofs.CitedLaws.{line_there, line_near, last_near}
use Rattle.schemes.proofs.SchemeFalls.{item_falls, item_here, follow_falls, sensing_falls, chosen_falls, reading_falls, readings_fall, followed_position, chosen_position, item_position, opens_branching, action_here, acts_here, byte_acts, acts_there, acts_small, told_sensing, told_unsensing}
use Rattle.schemes.proofs.NarrowLaws.{action_runs, action_moves, action_reads, sensing_few, readings_none, readings_first, readings_second, chosen_good}
use Rattle.schemes.proofs.SchemeArms.{put_over, end_there, branch_put, branch_there, acting_put, sensing_put, cites_few, reading_put, first_few, second_few, readings_put}
use Rattle.schemes.proofs.scheme.+put_acting_put_branching_put_from_put_readings_put_sensing.Goals as goal

pub put_acting-state_after-after-requires-clause-a_lt_actions : goal.put_acting-state_after-after-requires-clause-a_lt_actions
put_acting-state_after-after-requires-clause-a_lt_actions t c = search acts_small

pub put_acting-state_after-after-requires-clause-marks_value : goal.put_acting-state_after-after-requires-clause-marks_value
put_acting-state_after-after-requires-clause-marks_value t c = search action_runs

pub put_acting-put_action-requires-clause-marked_2 : goal.put_acting-put_action-requires-clause-marked_2
put_acting-put_action-requires-clause-marked_2 t c = search after_marked

pub put_acting-follow-at-requires : goal.put_acting-follow-at-requires
put_acting-follow-at-requires t c = search acts_there

pub put_acting-put_from-requires : goal.put_acting-put_from-requires
put_acting-put_from-requires t c = (search follow_falls, (search followed_position, (search after_marked, (search action_moves, search rules))))

pub put_acting-put_composed-requires-clause-position : goal.put_acting-put_composed-requires-clause-position
put_acting-put_composed-requires-clause-position t c = item_position _ _ c.args.r.now.at_hand _ (acts_there _ _ _ _ c.requires.acts)

pub put_acting-put_composed-requires-clause-marked : goal.put_acting-put_composed-requires-clause-marked
put_acting-put_composed-requires-clause-marked t c = c.requires.marked

pub put_acting-put_composed-requires-clause-first_bound : goal.put_acting-put_composed-requires-clause-first_bound
put_acting-put_composed-requires-clause-first_bound t c = line_near _ c.requires.underway

pub put_acting-returns : goal.put_acting-returns
put_acting-returns t c = acting_put _ _ _ _ c.requires.acts _ c.follow-at.ensures _ c.requires.a_value _ c.wide-action.ensures _ c.state_after-after.ensures _ _ _ _ _ _ _ _ c.put_action.ensures.stands c.put_from.ensures c.put_composed.ensures

pub put_branching-put_from-requires : goal.put_branching-put_from-requires
put_branching-put_from-requires t c = (search chosen_falls, (search chosen_position, (search rules, (search chosen_good, search rules))))

pub put_branching-put_next-requires-clause-position : goal.put_branching-put_next-requires-clause-position
put_branching-put_next-requires-clause-position t c = search item_position

pub put_branching-returns-in-Some : goal.put_branching-returns-in-Some
put_branching-returns-in-Some t c = search branch_put

pub put_branching-returns-in_default : goal.put_branching-returns-in_default
put_branching-returns-in_default t c = search branch_there

pub put_from-returns-then-progress-gt-LINES : goal.put_from-returns-then-progress-gt-LINES
put_from-returns-then-progress-gt-LINES t c = search put_over

pub put_from-returns-then-at-eq-ITEMS : goal.put_from-returns-then-at-eq-ITEMS
put_from-returns-then-at-eq-ITEMS t c = search end_there

pub put_from-overflow_add-at : goal.put_from-overflow_add-at
put_from-overflow_add-at t c = search (place_fits, item_here)

pub put_from-get-p-requires : goal.put_from-get-p-requires
put_from-get-p-requires t c = search (place_there, item_here)

pub put_from-bounds-r-p : goal.put_from-bounds-r-p
put_from-bounds-r-p t c = search (item_inside, item_here)

pub put_from-put_branching-requires : goal.put_from-put_branching-requires
put_from-put_branching-requires t c = (search item_falls, (search item_here, (search opens_branching, (search rules, (search rules, search rules)))))

pub put_from-bounds-r-p-2 : goal.put_from-bounds-r-p-2
put_from-bounds-r-p-2 t c = search (item_inside, item_here)

pub put_from-is_sensing-requires : goal.put_from-is_sensing-requires
put_from-is_sensing-requires t c = search (action_here, item_here)

pub put_from-put_sensing-requires : goal.put_from-put_sensing-requires
put_from-put_sensing-requires t c = (search item_falls, (acts_here _ _ c.args.r.now.at_hand _ (item_here _ _ _ c.requires.position c.if-at-eq-ITEMS.false) _ c.get-p.ensures c.if-r-p.false _ c.wide-a.ensures, (search told_sensing, (search rules, (search rules, search rules)))))

pub put_from-put_acting-requires : goal.put_from-put_acting-requires
put_from-put_acting-requires t c = (search item_falls, (search (byte_acts, item_here), (search told_unsensing, (search rules, (search rules, search rules)))))

pub put_readings-next_unknown-g-requires-clause-marked_as : goal.put_readings-next_unknown-g-requires-clause-marked_as
put_readings-next_unknown-g-requires-clause-marked_as t c = search first_marked

pub put_readings-put_readings-requires : goal.put_readings-put_readings-requires
put_readings-put_readings-requires t c = (search readings_fall, (search rules, (search rules, (search first_marked, (search readings_first, (search first_few, search rules))))))

pub put_readings-put_readings-requires-then-f-lt-FLUENTS : goal.put_readings-put_readings-requires-then-f-lt-FLUENTS
put_readings-put_readings-requires-then-f-lt-FLUENTS t c = (search readings_fall, (search rules, (search rules, (search second_marked, (readings_second _ _ _ _ c.if-f-lt-FLUENTS.true c.requires.marked _ c.next_unknown-g.ensures _ _ c.requires.narrow_readings, (second_few _ _ _ _ _ _ c.if-f-lt-FLUENTS.true c.requires.marked _ c.next_unknown-g.ensures _ c.requires.marks_bound _ _ _ _ _ c.put_readings.ensures, search rules))))))

pub put_readings-returns-then-f-lt-FLUENTS : goal.put_readings-returns-then-f-lt-FLUENTS
put_readings-returns-then-f-lt-FLUENTS t c = readings_put _ _ _ _ _ _ c.if-f-lt-FLUENTS.true c.requires.marked _ c.next_unknown-g.ensures _ c.requires.marks_bound _ _ _ _ _ c.put_readings.ensures _ _ _ c.put_readings-then-f-lt-FLUENTS.ensures

pub put_readings-put_from-requires : goal.put_readings-put_from-requires
put_readings-put_from-requires t c = (search reading_falls, (search rules, (search rules, (search readings_none, search rules))))

pub put_readings-overflow_sub-progress : goal.put_readings-overflow_sub-progress
put_readings-overflow_sub-progress t c = search line_there

pub put_readings-push-requires-clause-room : goal.put_readings-push-requires-clause-room
put_readings-push-requires-clause-room t c = search cites_few

pub put_readings-push-requires-clause-line_bound : goal.put_readings-push-requires-clause-line_bound
put_readings-push-requires-clause-line_bound t c = search last_near

pub put_readings-returns : goal.put_readings-returns
put_readings-returns t c = search reading_put

pub put_sensing-follow-at-requires : goal.put_sensing-follow-at-requires
put_sensing-follow-at-requires t c = search acts_there

pub put_sensing-first_unknown-f-requires-clause-a_lt_actions : goal.put_sensing-first_unknown-f-requires-clause-a_lt_actions
put_sensing-first_unknown-f-requires-clause-a_lt_actions t c = search acts_small

pub put_sensing-put_readings-requires : goal.put_sensing-put_readings-requires
put_sensing-put_readings-requires t c = (search sensing_falls, (search acts_small, (search followed_position, (search rules, (search action_reads, (search sensing_few, search rules))))))

pub put_sensing-put_goals-requires-clause-position : goal.put_sensing-put_goals-requires-clause-position
put_sensing-put_goals-requires-clause-position t c = search item_position

pub put_sensing-returns : goal.put_sensing-returns
put_sensing-returns t c = sensing_put _ _ _ _ c.requires.acts _ c.follow-at.ensures _ c.requires.a_value c.requires.marked _ c.first_unknown-f.ensures _ _ _ c.none-cites.ensures _ _ _ _ _ c.put_readings.ensures _ c.from.ensures c.put_goals.ensures.stands c.put_goals.ensures.going
