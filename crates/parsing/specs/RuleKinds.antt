-- The number of each rule of a derivation, and the rule that a number says (FORMAT 10.12 to 10.17, 17.21 to 17.25).
use Rattle.std.specs.Prelude.{ℕ, Option, Some, None, eqb}
use Rattle.meaning.specs.Tests.{pick}
use Rattle.meaning.specs.Limits
use Rattle.parsing.specs.declared.rule_kinds.Rule.{Rule}
use Rattle.parsing.specs.declared.rule_kinds.Rule.TheVariants.{Empty, Action, Sensing, Branching, Composition, Consequence, Look, Literal, SensingWhether, CompositionWhether, BranchingWhether}

abbrev pub rule_number : Rule → ℕ
rule_number Empty = Limits.empty_rule
rule_number Action = Limits.action_rule
rule_number Sensing = Limits.sensing_rule
rule_number Branching = Limits.branching_rule
rule_number Composition = Limits.composition_rule
rule_number Consequence = Limits.consequence_rule
rule_number Look = Limits.look_rule
rule_number Literal = Limits.literal_rule
rule_number SensingWhether = Limits.sensing_whether_rule
rule_number CompositionWhether = Limits.composition_whether_rule
rule_number BranchingWhether = Limits.branching_whether_rule

-- None where the number is that of no rule.
unfoldable pub rule_of : ℕ → Option Rule
rule_of number =
    pick (eqb number Limits.empty_rule) (λ _. Some Empty) λ _.
    pick (eqb number Limits.action_rule) (λ _. Some Action) λ _.
    pick (eqb number Limits.sensing_rule) (λ _. Some Sensing) λ _.
    pick (eqb number Limits.branching_rule) (λ _. Some Branching) λ _.
    pick (eqb number Limits.composition_rule) (λ _. Some Composition) λ _.
    pick (eqb number Limits.consequence_rule) (λ _. Some Consequence) λ _.
    pick (eqb number Limits.look_rule) (λ _. Some Look) λ _.
    pick (eqb number Limits.literal_rule) (λ _. Some Literal) λ _.
    pick (eqb number Limits.sensing_whether_rule) (λ _. Some SensingWhether) λ _.
    pick (eqb number Limits.composition_whether_rule) (λ _. Some CompositionWhether) λ _.
    pick (eqb number Limits.branching_whether_rule) (λ _. Some BranchingWhether) λ _.
    None

-- The number of a rule, and 0 where there is none, which no rule has.
abbrev pub number_or_none : Option Rule → ℕ
number_or_none None = 0
number_or_none (Some rule) = rule_number rule
