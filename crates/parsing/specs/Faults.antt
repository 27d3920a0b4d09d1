-- The number of each refusal (FORMAT 4.8 to 4.25, 17.35, 17.36, 26.8).
use Rattle.std.specs.Prelude.{ℕ}
use Rattle.meaning.specs.Limits
use Rattle.parsing.specs.declared.faults.Refusal.{Refusal}
use Rattle.parsing.specs.declared.faults.Refusal.TheVariants.{TooLong, EndsTooSoon, CountOutside, TooLarge, NotAbove, ComplementBeside, ContradictoryEffects, EffectAndKnowledge, NotExclusive, NestedTooDeep, BytesAfter, TooManyItems, NoSuchRule, NotEarlier, CitationsNotTaken, DoesNotFollow, NotTheQuestion, ClosingNotRight, SaysIsNot}

abbrev pub number_of : Refusal → ℕ
number_of TooLong = Limits.too_long
number_of EndsTooSoon = Limits.ends_too_soon
number_of CountOutside = Limits.count_outside
number_of TooLarge = Limits.too_large
number_of NotAbove = Limits.not_above
number_of ComplementBeside = Limits.complement_beside
number_of ContradictoryEffects = Limits.contradictory_effects
number_of EffectAndKnowledge = Limits.effect_and_knowledge
number_of NotExclusive = Limits.not_exclusive
number_of NestedTooDeep = Limits.nested_too_deep
number_of BytesAfter = Limits.bytes_after
number_of TooManyItems = Limits.too_many_items
number_of NoSuchRule = Limits.no_such_rule
number_of NotEarlier = Limits.not_earlier
number_of CitationsNotTaken = Limits.citations_not_taken
number_of DoesNotFollow = Limits.does_not_follow
number_of NotTheQuestion = Limits.not_the_question
number_of ClosingNotRight = Limits.closing_not_right
number_of SaysIsNot = Limits.says_is_not
