-- Those that are not known true are counted.
use Rattle.std.proofs.lemmas.Iterator.{YieldsList-from_slice}
use Rattle.std.proofs.lemmas.Iterator.Adapters.{serves_from_places}
use Rattle.std.proofs.lemmas.Iterator.Consumers.{YieldsList-at, YieldsList-from_filter, count_from_yields_List}
use Rattle.meaning.specs.Limits.{all_literals}
use Rattle.reading.specs.Listed.{listed, holds_as}
use Rattle.reading.specs.declared.marks.Test.TheVariants.{Known}
use Rattle.reading.proofs.ListedLaws.{entry_below}
use Rattle.reading.proofs.MarkLaws.{short_filtered}
use mathlib.Core.Path.{◌∙◌}
use mathlib.Core.Bool.{not}
use borrow.Author.Rules.{rules}
use borrow.Author.Tests.{tests}
use Rattle.reading.proofs.marks.short_by.Goals as goal

pub count-requires-clause-can : goal.count-requires-clause-can
count-requires-clause-can c =
    (tt, tt, serves_from_places (YieldsList-from_slice (listed c.args.s.now c.args.p) (search rules)) (λ x q h. search rules) (λ x k h e. let below = entry_below all_literals _ _ c.requires x.now k h e in search rules))

pub returns : goal.returns
returns c =
    count_from_yields_List c.filter.result _ c.count.ensures.ran
    (YieldsList-from_filter _ (λ l. not (holds_as Known c.args.marks.now l)) (YieldsList-at c.filter.ensures.source (YieldsList-from_slice (listed c.args.s.now c.args.p) (search rules))) c.filter.ensures.closure (λ x b q k. search (rules, tests)))
    ∙ short_filtered _ _
