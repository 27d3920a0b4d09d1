-- Partial states, when an action can be run in one, and what comes after it (FORMAT section 7).
use Rattle.std.specs.Prelude.{ℕ, ◌+◌, Bool, List, [], ◌∷◌, get_or, set, replicate, eqb}
use Rattle.meaning.specs.Tests.{both, either, fails, pick}
use Rattle.meaning.specs.Limits
use Rattle.meaning.specs.Limits.{Limits}
use Rattle.meaning.specs.Literals.{says_true, says_false, fluent_of, positive, complement}
use Rattle.meaning.specs.Requests.{Effect, Knowledge, Table}
use Rattle.meaning.specs.Lines.{effects_of, executability_of, knowledge_of, allowed, given, sensing, senses}

-- A mark for each fluent (FORMAT 7.1).
abbrev pub State : Type 0
State = List ℕ

unfoldable pub mark_of : ℕ → ℕ
mark_of l = pick (positive l) (λ _. Limits.true_mark) (λ _. Limits.false_mark)

-- The literal is known true (FORMAT 7.2).
unfoldable pub known : State → ℕ → Bool
known s l = eqb (get_or s (fluent_of l) Limits.unknown_mark) (mark_of l)

-- The literal is not known false (FORMAT 7.3, 7.4).
unfoldable pub possible : State → ℕ → Bool
possible s l = fails (known s (complement l))

-- The fluent is known, true or false.
unfoldable pub known_whether : State → ℕ → Bool
known_whether s f = either (known s (says_true f)) (known s (says_false f))

-- The state with the literal known true.
unfoldable pub told : ℕ → State → State
told l s = set s (fluent_of l) (mark_of l)

unfoldable pub told_all : List ℕ → State → State
told_all [] s = s
told_all (l ∷ ls) s = told_all ls (told l s)

-- The state that holds these literals and nothing else.
unfoldable pub state_of : Limits → List ℕ → State
state_of lim ls = told_all ls (replicate lim.state Limits.unknown_mark)

-- The first state holds the initial facts and nothing else (FORMAT 7.7).
unfoldable pub first_state : Limits → Table → State
first_state lim t = state_of lim t.facts

-- FORMAT 7.8, 7.9.
unfoldable pub can_be_run : Table → ℕ → State → Bool
can_be_run t a s = allowed (known s) (executability_of t a)

-- The literal is known true afterwards: it was, or is given by a body known true (e), and no possible body gives its complement (F)
-- (FORMAT 7.17 to 7.21).
unfoldable pub known_after : List Effect → State → ℕ → Bool
known_after es s l = both (either (known s l) (given (known s) es l)) (fails (given (possible s) es (complement l)))

-- FORMAT 7.20 to 7.22.
unfoldable pub mark_after : List Effect → State → ℕ → ℕ
mark_after es s f =
    pick (known_after es s (says_true f)) (λ _. Limits.true_mark) λ _.
    pick (known_after es s (says_false f)) (λ _. Limits.false_mark) λ _.
    Limits.unknown_mark

-- The marks of as many fluents as the last list has entries, from fluent f up.
unfoldable pub marks_after : List Effect → State → (f : ℕ) → List ℕ → List ℕ
marks_after es s f [] = []
marks_after es s f (m ∷ ms) = mark_after es s f ∷ marks_after es s (f + 1) ms

unfoldable pub state_after : Table → ℕ → State → State
state_after t a s = marks_after (effects_of t a) s 0 s

-- The sensed fluents that are unknown, ascending (FORMAT 7.12, 7.13), from fluent f up, as many as the last list has entries.
unfoldable pub unknown_from : List Knowledge → State → (f : ℕ) → List ℕ → List ℕ
unknown_from ks s f [] = []
unknown_from ks s f (m ∷ ms) =
    pick (both (senses ks f) (fails (known_whether s f)))
    (λ _. f ∷ unknown_from ks s (f + 1) ms)
    (λ _. unknown_from ks s (f + 1) ms)

unfoldable pub unknown_sensed : Table → ℕ → State → List ℕ
unknown_sensed t a s = unknown_from (knowledge_of t a) s 0 s

-- What an action leads to: one state, or two readings of a fluent, the first before the second, which waits.
pub data Outcome (S : Type 0) : Type 0 where
  single : S → Outcome S
  fork : Outcome S → (Unit {0} → Outcome S) → Outcome S

-- Each of the fluents is read, true before false; the second reading starts where the first did (FORMAT 7.12, 7.15, 8.3).
unfoldable pub readings : List ℕ → State → Outcome State
readings [] s = single s
readings (f ∷ fs) s = fork (readings fs (told (says_true f) s)) (λ _. readings fs (told (says_false f) s))

-- Where an action that does not sense leads to the last state.
abbrev pub outcome_to : Table → ℕ → State → State → Outcome State
outcome_to t a s after = pick (sensing t a) (λ _. readings (unknown_sensed t a s) s) (λ _. single after)

unfoldable pub outcome : Table → ℕ → State → Outcome State
outcome t a s = outcome_to t a s (state_after t a s)
