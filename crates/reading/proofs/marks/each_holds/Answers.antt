-- Each entry is asked, and what `all` tells is what is said of each.
use mathlib.Core.Path.{◌∙◌}
use borrow.Author.Rules.{rules}
use borrow.Author.Tests.{tests}
use Rattle.std.proofs.lemmas.Iterator.{YieldsList-from_slice}
use Rattle.std.proofs.lemmas.Iterator.Adapters.{serves_from_places}
use Rattle.std.proofs.lemmas.Iterator.Search.{all_from_yields_List}
use Rattle.meaning.specs.Limits.{all_literals}
use Rattle.reading.specs.Listed.{listed, holds_as}
use Rattle.reading.proofs.ListedLaws.{all_each, entry_below}
use Rattle.reading.proofs.marks.each_holds.Goals as goal

pub all-requires-clause-callable : goal.all-requires-clause-callable
all-requires-clause-callable c =
    serves_from_places (YieldsList-from_slice (listed c.args.s.now c.args.p) (search rules)) (λ x q h. search rules)
    (λ x k h e. let below = entry_below all_literals _ _ c.requires x.now k h e in search rules)

pub returns : goal.returns
returns c =
    all_from_yields_List (holds_as c.args.test c.args.marks.now) _ _ _ c.all.ensures.ran
    (YieldsList-from_slice (listed c.args.s.now c.args.p) (search rules)) (λ x b q k. search (rules, tests))
    ∙ all_each _ _
