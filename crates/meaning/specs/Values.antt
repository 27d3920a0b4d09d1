-- Fluents with any number of values: literals as a structure, what lines say over it, and the refusals. The format's requests are the instance
-- `flags`, two values for every fluent with true as value 0; `proofs/TwoValues` has that what Lines, Refusals, States, Walk and Worlds
-- define of them is what is defined here, in ValueStates and in ValueWorlds.
use Rattle.std.specs.Prelude.{ℕ, zero, suc, ◌+◌, ◌/◌, ◌%◌, Bool, true, List, [], ◌∷◌, eqb}
use Rattle.meaning.specs.Tests.{both, either, fails, pick, some_of, each_of}
use Rattle.meaning.specs.Literals.{fluent_of, positive}
use Rattle.meaning.specs.Requests.{EffectOver, ExecutabilityOver, TableOver}
use Rattle.meaning.specs.Lines.{executability_of}

-- Literals of a type L: the fluent that one speaks of, the values that satisfy it, the value that an effect with it sets, and how many values
-- a fluent has. These are the numbers below their count.
pub record Literals (L : Type 0) : Type 0 where
  pub fluent : L → ℕ
  pub satisfied : L → (value : ℕ) → Bool
  pub sets : L → ℕ
  pub count : (fluent : ℕ) → ℕ

-- The format's literals: the even one of a fluent says "is 0" and sets 0, and the odd one says "is not 0" and sets 1 (FORMAT 2.2, 2.3).
abbrev pub flags : Literals ℕ
flags = record {
  fluent = fluent_of;
  satisfied = λ l v. pick (positive l) (λ _. eqb v 0) (λ _. fails (eqb v 0));
  sets = λ l. pick (positive l) (λ _. 0) (λ _. 1);
  count = λ f. 2;
}

-- The literals of fluents with as many values as a function says: a literal is the number of two bytes, the fluent, and then 2v for "is v" or 2v + 1 for "is not v", and
-- sets v (FORMAT 26.5).
abbrev pub valued : (fluent-values : ℕ → ℕ) → Literals ℕ
valued fluent-values = record {
  fluent = λ l. l / 256;
  satisfied = λ l v. pick (positive l) (λ _. eqb v (l % 256 / 2)) (λ _. fails (eqb v (l % 256 / 2)));
  sets = λ l. l % 256 / 2;
  count = fluent-values;
}

-- Ascending numbers, a given number of them from the first on.
unfoldable pub numbers : (first many : ℕ) → List ℕ
numbers first zero = []
numbers first (suc many) = first ∷ numbers (first + 1) many

-- What is made of the first number that passes the test, and else the last argument.
unfoldable pub first_such : (ℕ → Bool) → (ℕ → ℕ) → List ℕ → (otherwise : ℕ) → ℕ
first_such test made [] otherwise = otherwise
first_such test made (n ∷ ns) otherwise = pick (test n) (λ _. made n) (λ _. first_such test made ns otherwise)

module _ {L : Type 0} (ls : Literals L) where
  -- The values of a fluent, ascending.
  unfoldable pub values_of : ℕ → List ℕ
  values_of f = numbers 0 (ls.count f)

  -- Some effect sets the fluent, to a value that passes the second test, by a body each of whose literals passes the first.
  unfoldable pub set_by : (L → Bool) → (ℕ → Bool) → List (EffectOver L) → (fluent : ℕ) → Bool
  set_by body value es f =
      some_of (λ (e : EffectOver L). both (both (eqb (ls.fluent e.literal) f) (value (ls.sets e.literal))) (each_of body e.body)) es

  -- The value satisfies each literal of the list that speaks of the fluent.
  unfoldable pub fits : List L → (fluent value : ℕ) → Bool
  fits b f v = each_of (λ (l : L). either (fails (eqb (ls.fluent l) f)) (ls.satisfied l v)) b

  -- No value satisfies what the two lists say of the fluent.
  unfoldable pub disagree : List L → List L → (fluent : ℕ) → Bool
  disagree b c f = fails (some_of (λ (v : ℕ). both (fits b f v) (fits c f v)) (values_of f))

  -- The two disagree on a fluent of which both speak (FORMAT 7.28).
  unfoldable pub exclusive : List L → List L → Bool
  exclusive b c = some_of (λ (l : L). both (some_of (λ (k : L). eqb (ls.fluent k) (ls.fluent l)) c) (disagree b c (ls.fluent l))) b

  -- Two effects of one action that set two values of one fluent, and whose bodies do not exclude each other.
  unfoldable pub clashing : EffectOver L → EffectOver L → Bool
  clashing e g =
      both (eqb e.action g.action)
      (both (both (eqb (ls.fluent g.literal) (ls.fluent e.literal)) (fails (eqb (ls.sets e.literal) (ls.sets g.literal))))
      (fails (exclusive e.body g.body)))

  -- Some one executability line of the action has a body that excludes neither of the two (FORMAT 7.32).
  unfoldable pub runs_with : TableOver L → (action : ℕ) → (one other : List L) → Bool
  runs_with t a one other =
      some_of (λ (x : ExecutabilityOver L). both (fails (exclusive one x.body)) (fails (exclusive other x.body))) (executability_of t a)

  -- Two effects that clash where their action can be run (FORMAT 7.31).
  unfoldable pub contradictory : TableOver L → EffectOver L → EffectOver L → Bool
  contradictory t e g = both (clashing e g) (runs_with t e.action e.body g.body)

  -- Every two of the conditions are exclusive (FORMAT 5.18).
  unfoldable pub all_exclusive : List (List L) → Bool
  all_exclusive [] = true
  all_exclusive (c ∷ cs) = both (each_of (exclusive c) cs) (all_exclusive cs)
