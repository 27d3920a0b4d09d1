-- Without a count byte the section is at fault there; with one, at each turn what the section gives is what the lines left give, and the notes have those read.
use mathlib.Core.Path.{◌∙◌}
use borrow.Author.Rules.{rules}
use Rattle.std.proofs.lemmas.Result.{err_from_is_err_and}
use Rattle.reading.proofs.SectionLaws.{section_none, section_starts, slot_there, lines_done, lines_fault, lines_next, second_there, second_fits, place_fits, action_fits, fluent_fits}
use Rattle.reading.proofs.sections.section_at.Goals as goal

pub returns-then-s-start : goal.returns-then-s-start
returns-then-s-start g c = search (rules, section_none)

pub put-requires-clause-slot_lt_slots : goal.put-requires-clause-slot_lt_slots
put-requires-clause-slot_lt_slots g c = slot_there g.C.Section.section _ (c.COUNT.ensures ∙ g.met.C.Section.count_law)

pub loop-k-init : goal.loop-k-init
loop-k-init g c = section_starts _ _ _ _ _ _ _ _ _ _ (search rules) c.from-count.ensures (c.COUNT.ensures ∙ g.met.C.Section.count_law) c.put.ensures

pub returns-in_err-a : goal.returns-in_err-a
returns-in_err-a g c =
    let told = err_from_is_err_and c.from_residual.result c.from_residual.ensures.1 in
    rw (told.1, told.2) (lines_fault g.S.Shape.FORM g.C.Section.section c.args.input.now.fluents c.args.input.now.actions c.args.input.now.bytes.now _ _ _ _ _ _ c.loop-k.invariant _ c.loop-k-test.true c.line_at.ensures _ c.in_err-a.was)

pub overflow_add-p-in-loop-k : goal.overflow_add-p-in-loop-k
overflow_add-p-in-loop-k g c = second_fits _ _ _ _ _ _ _ _ _ c.line_at.ensures c.in_ok-a.was c.requires.s_len_bound

pub bounds-s-p : goal.bounds-s-p
bounds-s-p g c = second_there _ _ _ _ _ _ _ _ _ c.line_at.ensures c.in_ok-a.was

pub bounds-last-a : goal.bounds-last-a
bounds-last-a g c = action_fits _ _ _ _ _ _ _ _ _ c.line_at.ensures c.in_ok-a.was c.requires.m_le_actions

pub invariant_of-line-clause-place_fits : goal.invariant_of-line-clause-place_fits
invariant_of-line-clause-place_fits g c = place_fits _ _ _ _ _ _ _ _ _ c.line_at.ensures c.in_ok-a.was c.requires.s_len_bound

pub invariant_of-line-clause-acts : goal.invariant_of-line-clause-acts
invariant_of-line-clause-acts g c = action_fits _ _ _ _ _ _ _ _ _ c.line_at.ensures c.in_ok-a.was c.requires.m_le_actions

pub note_line-requires : goal.note_line-requires
note_line-requires g c = fluent_fits _ _ _ _ _ _ _ _ _ c.line_at.ensures c.in_ok-a.was _ c.args.input.now.few c.from.ensures

pub bounds-last-a-in-loop-k : goal.bounds-last-a-in-loop-k
bounds-last-a-in-loop-k g c = action_fits _ _ _ _ _ _ _ _ _ c.line_at.ensures c.in_ok-a.was c.requires.m_le_actions

pub loop-k-preserved : goal.loop-k-preserved
loop-k-preserved g c = lines_next g.S.Shape.FORM g.C.Section.section c.args.input.now.fluents c.args.input.now.actions c.args.input.now.bytes.now _ _ _ _ _ _ c.loop-k.invariant _ c.loop-k-test.true c.line_at.ensures _ _ c.in_ok-a.was _ _ c.from.ensures c.note_line.ensures

pub returns : goal.returns
returns g c = lines_done g.S.Shape.FORM g.C.Section.section c.args.input.now.fluents c.args.input.now.actions c.args.input.now.bytes.now _ _ _ _ _ _ c.loop-k.invariant c.loop-k-test.false
