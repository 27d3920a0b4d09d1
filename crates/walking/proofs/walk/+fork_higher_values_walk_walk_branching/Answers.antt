-- Each return is one law that adds what was walked to how the walk stood. At each call the position rises, or in a fork the fluent does, so
-- the cycle ends.
use Rattle.walking.proofs.FitLaws.{fit_after}
use Rattle.walking.proofs.FallLaws.{fork_falls, fork_walk_falls, fork_higher_falls, higher_falls, higher_walk_falls, walk_branching_falls, walk_fork_falls, followed_position, followed_as, near_far, opens_branching, is_branching, action_here}
use Rattle.walking.proofs.WalkArms.{Walking, going_again, action_low, item_stuck, item_many, run_spent, run_moves, run_forks, run_sees, branch_taken, none_taken, walking_here, walking_there, walking_marked, walking_later, walking_broken, walking_passed, walking_ends, walking_judged, walking_on, passed_lacks}
use Rattle.walking.proofs.ForkLaws.{next_rises, first_fits, second_fits, forks_once, forks_twice, forks_all, walks_once, walks_twice, walks_all, forking_starts, forking_going, forking_fits, forking_fit, forking_less, forking_forks, forking_walks, forking_ends}
use Rattle.steps.proofs.OnwardLaws.{item_inside, action_small}
use borrow.Author.Rules.{rules}
use Rattle.std.proofs.Common.{sym, subst, ◌∙◌}
use Rattle.meaning.specs.States.{State}
use Rattle.walking.proofs.walk.+fork_higher_values_walk_walk_branching.Goals.{walk-then-is_sensing+else-f-lt-FLUENTS, walk-else-is_sensing, higher_values-then-g-lt-FLUENTS, higher_values-else-g-lt-FLUENTS}
use Rattle.walking.proofs.walk.+fork_higher_values_walk_walk_branching.Goals as goal

pub fork-bounds-r-p : goal.fork-bounds-r-p
fork-bounds-r-p g t c = search item_inside

pub fork-next_unknown-g-requires-clause-a_lt_actions : goal.fork-next_unknown-g-requires-clause-a_lt_actions
fork-next_unknown-g-requires-clause-a_lt_actions g t c = search action_here

pub fork-next_unknown-g-requires-clause-marked_as : goal.fork-next_unknown-g-requires-clause-marked_as
fork-next_unknown-g-requires-clause-marked_as g t c = search first_fits

pub fork-fork-requires : goal.fork-fork-requires
fork-fork-requires g t c κs lives = let next = c.next_unknown-g.ensures in (search (fork_falls, next_rises, first_fits), (lives, (search rules, (search rules, (search rules, (search first_fits, search rules))))))

pub fork-fork-requires-then-goes_on : goal.fork-fork-requires-then-goes_on
fork-fork-requires-then-goes_on g t c κs lives = let next = c.next_unknown-g.ensures in (search (fork_falls, next_rises, first_fits), (lives, (search rules, (search rules, (search rules, (search second_fits, search going_again))))))

pub fork-higher_values-requires : goal.fork-higher_values-requires
fork-higher_values-requires g t c κs lives = (search fork_higher_falls, (lives, (search rules, (search rules, (search rules, search second_fits)))))

pub fork-returns-in-Valued : goal.fork-returns-in-Valued
fork-returns-in-Valued g t c = let next = c.next_unknown-g.ensures in forks_all _ _ _ c.args.r.now.at_hand _ _ c.requires.f_lt_fluents _ c.requires.marked_as _ _ c.get-p.ensures c.wide-a.ensures _ next _ _ c.if-g-lt-FLUENTS.true c.fork.ensures _ _ c.fork-then-goes_on.ensures c.higher_values.ensures

pub fork-returns-in_default : goal.fork-returns-in_default
fork-returns-in_default g t c = let next = c.next_unknown-g.ensures in forks_twice _ _ _ c.args.r.now.at_hand _ _ c.requires.f_lt_fluents _ c.requires.marked_as _ _ c.get-p.ensures c.wide-a.ensures _ next _ _ c.if-g-lt-FLUENTS.true c.fork.ensures (sym c.in_default.is ∙ c.FORM.ensures) _ c.fork-then-goes_on.ensures

pub fork-returns-else-goes_on : goal.fork-returns-else-goes_on
fork-returns-else-goes_on g t c = let next = c.next_unknown-g.ensures in search forks_once

pub fork-walk-requires : goal.fork-walk-requires
fork-walk-requires g t c κs lives = let follows = c.follow-at.ensures in (search fork_walk_falls, (lives, (search followed_position, (search first_fits, search rules))))

pub fork-walk-requires-then-goes_on-2 : goal.fork-walk-requires-then-goes_on-2
fork-walk-requires-then-goes_on-2 g t c κs lives = let follows = c.follow-at.ensures in (search fork_walk_falls, (lives, (search followed_position, (search second_fits, search going_again))))

pub fork-higher_values-requires-in-Valued-FORM : goal.fork-higher_values-requires-in-Valued-FORM
fork-higher_values-requires-in-Valued-FORM g t c κs lives = (search fork_higher_falls, (lives, (search rules, (search rules, (search rules, search second_fits)))))

pub fork-returns-in-Valued-FORM : goal.fork-returns-in-Valued-FORM
fork-returns-in-Valued-FORM g t c = let next = c.next_unknown-g.ensures in let follows = c.follow-at.ensures in walks_all _ _ _ c.args.r.now.at_hand _ _ c.requires.f_lt_fluents _ c.requires.marked_as _ _ c.get-p.ensures c.wide-a.ensures _ next _ _ c.if-g-lt-FLUENTS.false _ follows c.walk.ensures _ _ c.walk-then-goes_on-2.ensures c.higher_values-in-Valued-FORM.ensures

pub fork-returns-in_default-FORM : goal.fork-returns-in_default-FORM
fork-returns-in_default-FORM g t c = let next = c.next_unknown-g.ensures in let follows = c.follow-at.ensures in walks_twice _ _ _ c.args.r.now.at_hand _ _ c.requires.f_lt_fluents _ c.requires.marked_as _ _ c.get-p.ensures c.wide-a.ensures _ next _ _ c.if-g-lt-FLUENTS.false _ follows c.walk.ensures (sym c.in_default-FORM.is ∙ c.FORM-then-goes_on-2.ensures) _ c.walk-then-goes_on-2.ensures

pub fork-returns-else-goes_on-2 : goal.fork-returns-else-goes_on-2
fork-returns-else-goes_on-2 g t c = let next = c.next_unknown-g.ensures in let follows = c.follow-at.ensures in search walks_once

pub higher_values-returns-then-not-has_more : goal.higher_values-returns-then-not-has_more
higher_values-returns-then-not-has_more g t c = forking_ends _ _ _ _ _ _ _ _ _ (forking_starts _ _ _ _ _ _ _ c.requires.marked_as) _ c.has_more.ensures c.if-not-has_more.true

pub higher_values-bounds-r-p : goal.higher_values-bounds-r-p
higher_values-bounds-r-p g t c = search item_inside

pub higher_values-next_unknown-g-requires-clause-a_lt_actions : goal.higher_values-next_unknown-g-requires-clause-a_lt_actions
higher_values-next_unknown-g-requires-clause-a_lt_actions g t c = search action_here

pub higher_values-loop-state-init : goal.higher_values-loop-state-init
higher_values-loop-state-init g t c = search forking_starts

pub higher_values-overflow_add-state : goal.higher_values-overflow_add-state
higher_values-overflow_add-state g t c = search forking_fits

pub higher_values-higher_values-requires : goal.higher_values-higher_values-requires
higher_values-higher_values-requires g t c κs lives = let next = c.next_unknown-g.ensures in (search (higher_falls, next_rises), (lives, (search rules, (search rules, (search rules, search forking_fit)))))

pub higher_values-loop-state-smaller-then-g-lt-FLUENTS-2 : goal.higher_values-loop-state-smaller-then-g-lt-FLUENTS-2
higher_values-loop-state-smaller-then-g-lt-FLUENTS-2 g t c = search forking_less

pub higher_values-loop-state-preserved-then-g-lt-FLUENTS-2 : goal.higher_values-loop-state-preserved-then-g-lt-FLUENTS-2
higher_values-loop-state-preserved-then-g-lt-FLUENTS-2 g t c = let next = c.next_unknown-g.ensures in search forking_forks

pub higher_values-walk-requires : goal.higher_values-walk-requires
higher_values-walk-requires g t c κs lives =
    elim c.if-g-lt-FLUENTS.branch [
      | higher_values-then-g-lt-FLUENTS w ↦ absurd (near_far _ _ w.if-g-lt-FLUENTS.true c.if-g-lt-FLUENTS-2.false)
      | higher_values-else-g-lt-FLUENTS w ↦
          let follows = followed_as _ _ _ _ _ w.at-is w.follow-at.ensures in
          (search higher_walk_falls, (lives, (search followed_position, (search forking_fit, search forking_going))))
    ]

pub higher_values-loop-state-smaller : goal.higher_values-loop-state-smaller
higher_values-loop-state-smaller g t c = search forking_less

pub higher_values-loop-state-preserved : goal.higher_values-loop-state-preserved
higher_values-loop-state-preserved g t c =
    let next = c.next_unknown-g.ensures in
    elim c.if-g-lt-FLUENTS.branch [
      | higher_values-then-g-lt-FLUENTS w ↦ absurd (near_far _ _ w.if-g-lt-FLUENTS.true c.if-g-lt-FLUENTS-2.false)
      | higher_values-else-g-lt-FLUENTS w ↦ let follows = followed_as _ _ _ _ _ w.at-is w.follow-at.ensures in search forking_walks
    ]

pub higher_values-returns : goal.higher_values-returns
higher_values-returns g t c = search forking_ends

pub walk-returns-then-breaks : goal.walk-returns-then-breaks
walk-returns-then-breaks g t c = search walking_broken

pub walk-bounds-r-p : goal.walk-bounds-r-p
walk-bounds-r-p g t c = search (item_inside, walking_there)

pub walk-walk_branching-requires : goal.walk-walk_branching-requires
walk-walk_branching-requires g t c κs lives = (search (walk_branching_falls, walking_later), (lives, (search passed_lacks, (search walking_there, (search is_branching, (search walking_marked, search walking_passed))))))

pub walk-bounds-r-p-in-loop-i : goal.walk-bounds-r-p-in-loop-i
walk-bounds-r-p-in-loop-i g t c = search (item_inside, walking_there)

pub walk-tried-requires-clause-a_lt_actions : goal.walk-tried-requires-clause-a_lt_actions
walk-tried-requires-clause-a_lt_actions g t c = search (action_small, walking_there)

pub walk-returns-then-not-goes_on : goal.walk-returns-then-not-goes_on
walk-returns-then-not-goes_on g t c = let asked = c.tried.ensures in search (walking_ends, run_spent, walking_there, walking_passed)

pub walk-is_sensing-requires : goal.walk-is_sensing-requires
walk-is_sensing-requires g t c = search (action_small, walking_there)

pub walk-first_unknown-f-requires-clause-a_lt_actions : goal.walk-first_unknown-f-requires-clause-a_lt_actions
walk-first_unknown-f-requires-clause-a_lt_actions g t c = search (action_small, walking_there)

pub walk-fork-requires : goal.walk-fork-requires
walk-fork-requires g t c κs lives = (search (walk_fork_falls, walking_later), (lives, (search walking_there, (action_low g.S.Shape.FORM _ _ c.args.r.now.at_hand _ (search walking_there) _ c.get-p.ensures c.if-r-p.false, (search rules, (search walking_marked, search going_again))))))

pub walk-returns-then-f-lt-FLUENTS : goal.walk-returns-then-f-lt-FLUENTS
walk-returns-then-f-lt-FLUENTS g t c = let asked = c.tried.ensures in let senses = c.is_sensing.ensures in let first = c.first_unknown-f.ensures in walking_ends _ _ _ _ _ _ _ _ _ c.loop-i.invariant _ _ c.breaks.ensures c.if-breaks.false _ (run_forks _ _ _ (walking_here _ _ _ _ _ _ _ _ _ c.loop-i.invariant) _ (walking_there _ _ _ _ _ _ _ _ _ c.loop-i.invariant c.loop-i-test.true) _ c.get-p.ensures c.if-r-p.false _ c.wide-a.ensures _ _ (walking_passed _ _ _ _ _ _ _ _ _ c.loop-i.invariant _ _ c.breaks.ensures c.if-breaks.false) _ asked c.in-Runs.is _ c.count_one.ensures _ senses (walking_marked _ _ _ _ _ _ _ _ _ c.loop-i.invariant) _ first c.if-is_sensing.true c.if-f-lt-FLUENTS.true _ c.fork.ensures)

pub walk-after-state-requires-clause-a_lt_actions : goal.walk-after-state-requires-clause-a_lt_actions
walk-after-state-requires-clause-a_lt_actions g t c = search (action_small, walking_there)

pub walk-loop-i-preserved : goal.walk-loop-i-preserved
walk-loop-i-preserved g t c =
    let asked = c.tried.ensures in
    let senses = c.is_sensing.ensures in
    let follows = c.follow-i.ensures in
    elim c.if-is_sensing.branch [
      | walk-then-is_sensing+else-f-lt-FLUENTS w ↦
          let first = w.first_unknown-f.ensures in
          subst (λ (u : State). Walking g.S.Shape.FORM c.args.r.now.bytes.now c.args.r.now.notes.now c.args.at c.args.marks c.args.tally.now c.count_one.new.self c.follow-i.result u) (sym w.state-is)
          (walking_on _ _ _ _ _ _ _ _ _ c.loop-i.invariant _ _ c.breaks.ensures c.if-breaks.false _ (going_again _ _ c.goes_on.ensures c.if-not-goes_on.false) _ (walking_marked _ _ _ _ _ _ _ _ _ c.loop-i.invariant) _ follows
          (run_sees _ _ _ (walking_here _ _ _ _ _ _ _ _ _ c.loop-i.invariant) _ (walking_there _ _ _ _ _ _ _ _ _ c.loop-i.invariant c.loop-i-test.true) _ c.get-p.ensures c.if-r-p.false _ c.wide-a.ensures _ _ (walking_passed _ _ _ _ _ _ _ _ _ c.loop-i.invariant _ _ c.breaks.ensures c.if-breaks.false) _ asked c.in-Runs.is _ c.count_one.ensures _ senses (walking_marked _ _ _ _ _ _ _ _ _ c.loop-i.invariant) _ first w.if-is_sensing.true w.if-f-lt-FLUENTS.false _ follows))
      | walk-else-is_sensing w ↦
          let moved = w.after-state.ensures in
          walking_on _ _ _ _ _ _ _ _ _ c.loop-i.invariant _ _ c.breaks.ensures c.if-breaks.false _ (going_again _ _ c.goes_on.ensures c.if-not-goes_on.false) _ (fit_after _ _ _ _ (walking_marked _ _ _ _ _ _ _ _ _ c.loop-i.invariant) _ _ (w.state-is ∙ moved)) _ follows
          (run_moves _ _ _ (walking_here _ _ _ _ _ _ _ _ _ c.loop-i.invariant) _ (walking_there _ _ _ _ _ _ _ _ _ c.loop-i.invariant c.loop-i-test.true) _ c.get-p.ensures c.if-r-p.false _ c.wide-a.ensures _ _ (walking_passed _ _ _ _ _ _ _ _ _ c.loop-i.invariant _ _ c.breaks.ensures c.if-breaks.false) _ asked c.in-Runs.is _ c.count_one.ensures _ senses w.if-is_sensing.false _ (w.state-is ∙ moved) _ follows)
    ]

pub walk-returns-in-Stuck : goal.walk-returns-in-Stuck
walk-returns-in-Stuck g t c = let asked = c.tried.ensures in search (walking_ends, item_stuck, walking_there, walking_passed)

pub walk-returns-in-Many : goal.walk-returns-in-Many
walk-returns-in-Many g t c = let asked = c.tried.ensures in search (walking_ends, item_many, walking_there, walking_passed)

pub walk-returns-then-breaks-2 : goal.walk-returns-then-breaks-2
walk-returns-then-breaks-2 g t c = search walking_broken

pub walk-returns : goal.walk-returns
walk-returns g t c = search walking_judged

pub walk_branching-chosen-requires-clause-i_value : goal.walk_branching-chosen-requires-clause-i_value
walk_branching-chosen-requires-clause-i_value g t c = search opens_branching

pub walk_branching-returns-in-Some : goal.walk_branching-returns-in-Some
walk_branching-returns-in-Some g t c = let took = c.chosen.ensures in search branch_taken

pub walk_branching-returns-in-None : goal.walk_branching-returns-in-None
walk_branching-returns-in-None g t c = let took = c.chosen.ensures in search none_taken
