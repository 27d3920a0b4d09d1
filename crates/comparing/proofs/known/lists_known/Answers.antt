-- The entries left are the literals left exactly where the list is what the state knows; each known fluent takes one entry.
use Rattle.comparing.proofs.KnownLaws.{known_starts, known_none, known_short, known_differs, known_same, known_done}
use Rattle.comparing.proofs.known.lists_known.Goals as goal

pub loop-f-init : goal.loop-f-init
loop-f-init c = known_starts _ _ _ _ c.listed.ensures.entries c.iter-entries.ensures.rest

pub loop-f-preserved-then-mark-eq-UNKNOWN_MARK : goal.loop-f-preserved-then-mark-eq-UNKNOWN_MARK
loop-f-preserved-then-mark-eq-UNKNOWN_MARK c = search known_none

pub returns-in_default : goal.returns-in_default
returns-in_default c = let none = c.in_default.ensures.steps.0 in search known_short

pub returns-then-wide-f : goal.returns-then-wide-f
returns-then-wide-f c =
    known_differs _ c.requires.marked _ _ _ c.loop-f.invariant c.loop-f-test.true c.if-mark-eq-UNKNOWN_MARK.false _ c.wide-in-loop-f.ensures _ _ _ c.in-Some.ensures.steps c.wide.ensures c.if-wide-f.true

pub loop-f-preserved : goal.loop-f-preserved
loop-f-preserved c =
    known_same _ c.requires.marked _ _ _ c.loop-f.invariant c.loop-f-test.true c.if-mark-eq-UNKNOWN_MARK.false _ c.wide-in-loop-f.ensures _ _ _ c.in-Some.ensures.steps c.wide.ensures c.if-wide-f.false

pub returns : goal.returns
returns c = known_done _ c.requires.marked _ _ _ c.loop-f.invariant c.loop-f-test.false _ _ c.is_none.ensures _ _ c.next-2.ensures.steps
