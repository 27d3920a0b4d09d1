-- Each value is asked for, and what `any` tells of them is what is said of some.
use native.Mathlib.Omega.{arith}
use mathlib.Core.Path.{◌∙◌, refl}
use borrow.Author.Rules.{rules}
use borrow.Author.Tests.{tests}
use Rattle.std.proofs.lemmas.Iterator.{YieldsList-from_range, serves_from_Range}
use Rattle.std.proofs.lemmas.Iterator.Search.{any_from_yields_List}
use Rattle.parsing.specs.Bits.{bit_of}
use Rattle.parsing.proofs.MaskLaws.{left_any}
use Rattle.parsing.proofs.values.some_left.Goals as goal

pub any-requires-clause-callable : goal.any-requires-clause-callable
any-requires-clause-callable c = serves_from_Range (λ x q h. search rules) (λ v from to. let few = c.requires in search rules)

pub returns : goal.returns
returns c =
    any_from_yields_List (bit_of c.args.m) _ _ _ c.any.ensures.ran (YieldsList-from_range 0 c.args.values c.args.values refl (omega arith)) (λ x b q k. search (rules, tests))
    ∙ left_any c.args.m c.args.values
