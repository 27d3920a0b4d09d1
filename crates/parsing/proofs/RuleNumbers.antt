-- The rules of derivations and their numbers: which numbers are those of no rule, and that the rule of a number has that number. Assumes nothing.
use Prim.Native.Nat.{ℕ, ◌≤◌}
use native.Mathlib.Omega.{arith}
use mathlib.Core.Path.{◌≡◌, refl, sym, ◌∙◌, ap}
use mathlib.Core.Bool.{Bool, true, false}
use lib.Dec.{eqb}
use borrow.Author.Tests.{eqb-true, ne_eqb}
use Rattle.std.specs.Prelude.{Option, Some, None}
use Rattle.meaning.specs.Tests.{pick}
use Rattle.meaning.proofs.TestLaws.{by-test, clash, pick_true, pick_false}
use Rattle.parsing.specs.declared.rule_kinds.Rule.{Rule}
use Rattle.parsing.specs.declared.rule_kinds.Rule.TheVariants.{Empty, Action, Sensing, Branching, Composition, Consequence, Look, Literal, SensingWhether, CompositionWhether, BranchingWhether}
use Rattle.parsing.specs.RuleKinds.{rule_number, rule_of, number_or_none}

-- NO RULE.
pub no_rule : (k : ℕ) → (1 ≤ k → k ≤ 8 → ⊥) → (10 ≤ k → k ≤ 12 → ⊥) → None ≡ rule_of k
unfolding rule_of
no_rule k early late =
    let first : (n : ℕ) → 1 ≤ n → n ≤ 8 → eqb k n ≡ false = λ n least most. ne_eqb k n (λ e. early (omega (arith, e, least)) (omega (arith, e, most))) in
    let last : (n : ℕ) → 10 ≤ n → n ≤ 12 → eqb k n ≡ false = λ n least most. ne_eqb k n (λ e. late (omega (arith, e, least)) (omega (arith, e, most))) in
    sym (
    pick_false _ _ _ (first 1 (omega arith) (omega arith))
    ∙ pick_false _ _ _ (first 2 (omega arith) (omega arith))
    ∙ pick_false _ _ _ (first 3 (omega arith) (omega arith))
    ∙ pick_false _ _ _ (first 4 (omega arith) (omega arith))
    ∙ pick_false _ _ _ (first 5 (omega arith) (omega arith))
    ∙ pick_false _ _ _ (first 6 (omega arith) (omega arith))
    ∙ pick_false _ _ _ (first 7 (omega arith) (omega arith))
    ∙ pick_false _ _ _ (first 8 (omega arith) (omega arith))
    ∙ pick_false _ _ _ (last 10 (omega arith) (omega arith))
    ∙ pick_false _ _ _ (last 11 (omega arith) (omega arith))
    ∙ pick_false _ _ _ (last 12 (omega arith) (omega arith))
    )

-- THE NUMBER of the rule that a number says is that number.
abbrev is_some_rule : Option Rule → Bool
is_some_rule None = false
is_some_rule (Some rule) = true

one_more : (k n : ℕ) (one rule : Rule) → rule_number one ≡ n → (rest : Option Rule) → (rest ≡ Some rule → rule_number rule ≡ k) → pick (eqb k n) (λ _. Some one) (λ _. rest) ≡ Some rule → rule_number rule ≡ k
one_more k n one rule is rest else said =
    by-test (eqb k n)
    (λ t. ap number_or_none (sym said ∙ pick_true _ _ _ t) ∙ is ∙ sym (eqb-true k n t))
    (λ f. else (sym (pick_false _ _ _ f) ∙ said))

pub rule_has : (k : ℕ) (rule : Rule) → rule_of k ≡ Some rule → rule_number rule ≡ k
unfolding rule_of
rule_has k rule =
    one_more k 1 Empty rule refl _ (
    one_more k 2 Action rule refl _ (
    one_more k 3 Sensing rule refl _ (
    one_more k 4 Branching rule refl _ (
    one_more k 5 Composition rule refl _ (
    one_more k 6 Consequence rule refl _ (
    one_more k 7 Look rule refl _ (
    one_more k 8 Literal rule refl _ (
    one_more k 10 SensingWhether rule refl _ (
    one_more k 11 CompositionWhether rule refl _ (
    one_more k 12 BranchingWhether rule refl None (λ none. clash (ap is_some_rule none) refl)))))))))))

-- A number that is that of no rule is none of theirs.
pub rule_of_number : (rule : Rule) → rule_of (rule_number rule) ≡ Some rule
unfolding rule_of pick
rule_of_number Empty = refl
rule_of_number Action = refl
rule_of_number Sensing = refl
rule_of_number Branching = refl
rule_of_number Composition = refl
rule_of_number Consequence = refl
rule_of_number Look = refl
rule_of_number Literal = refl
rule_of_number SensingWhether = refl
rule_of_number CompositionWhether = refl
rule_of_number BranchingWhether = refl

pub none_has : (k : ℕ) → rule_of k ≡ None → (rule : Rule) → k ≡ rule_number rule → ⊥
none_has k none rule is = clash (ap is_some_rule (sym none ∙ ap rule_of is ∙ rule_of_number rule)) refl

pub number_says : (k : ℕ) (rule : Rule) → k ≡ rule_number rule → Some rule ≡ rule_of k
number_says k rule is = sym (ap rule_of is ∙ rule_of_number rule)
