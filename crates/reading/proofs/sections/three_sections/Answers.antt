-- The three sections in order: the first fault is theirs.
use Rattle.std.proofs.lemmas.Result.{err_from_is_err_and}
use Rattle.reading.proofs.SectionLaws.{three_first, three_second, three_whole}
use Rattle.reading.proofs.sections.three_sections.Goals as goal

pub returns-in_err-executability : goal.returns-in_err-executability
returns-in_err-executability g c =
    let told = err_from_is_err_and c.from_residual.result c.from_residual.ensures.1 in
    rw (told.1, told.2) (three_first _ _ _ _ _ _ _ _ c.section_at.ensures _ _ c.in_err-executability.was)

pub returns-in_err-knowledge : goal.returns-in_err-knowledge
returns-in_err-knowledge g c =
    let told = err_from_is_err_and c.from_residual-in_err-knowledge.result c.from_residual-in_err-knowledge.ensures.1 in
    rw (told.1, told.2) (three_second _ _ _ _ _ _ _ _ c.section_at.ensures _ c.in_ok-executability.was _ _ c.section_at-2.ensures _ _ c.in_err-knowledge.was)

pub returns : goal.returns
returns g c = three_whole _ _ _ _ _ _ _ _ c.section_at.ensures _ c.in_ok-executability.was _ _ c.section_at-2.ensures _ _ _ c.in_ok-knowledge.was c.section_at-3.ensures
