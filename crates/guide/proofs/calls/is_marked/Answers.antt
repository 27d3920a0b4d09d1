-- All marks pass where each does.
use mathlib.Core.Path.{◌∙◌}
use lib.Dec.{leb}
use borrow.Author.Rules.{rules}
use borrow.Author.Tests.{tests}
use Rattle.std.proofs.lemmas.Iterator.{YieldsList-from_slice}
use Rattle.std.proofs.lemmas.Iterator.Search.{all_from_yields_List}
use Rattle.guide.proofs.GuideTestLaws.{all_marked}
use Rattle.guide.proofs.calls.is_marked.Goals as goal

pub returns : goal.returns
returns c =
    all_from_yields_List (λ m. leb m 2) _ _ _ c.all.ensures.ran (YieldsList-from_slice c.args.marks.now (search rules)) (λ x b q k. search (rules, tests))
    ∙ all_marked c.args.marks.now
