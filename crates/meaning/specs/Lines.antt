-- The lines of an action, and what they say where a test tells which literals pass: the test may be "known true", "possible" or "holds in
-- a world".
use Rattle.std.specs.Prelude.{ℕ, Bool, true, List, eqb}
use Rattle.meaning.specs.Tests.{both, some_of, each_of, those_of}
use Rattle.meaning.specs.Requests.{EffectOver, ExecutabilityOver, Knowledge, TableOver, Effect}

-- The lines of an action.
unfoldable pub effects_of : {L : Type 0} → TableOver L → ℕ → List (EffectOver L)
effects_of {L} t a = those_of (λ (e : EffectOver L). eqb e.action a) t.effects

unfoldable pub executability_of : {L : Type 0} → TableOver L → ℕ → List (ExecutabilityOver L)
executability_of {L} t a = those_of (λ (x : ExecutabilityOver L). eqb x.action a) t.executability

unfoldable pub knowledge_of : {L : Type 0} → TableOver L → ℕ → List Knowledge
knowledge_of t a = those_of (λ (k : Knowledge). eqb k.action a) t.knowledge

-- Some executability line has a body each of whose literals passes the test.
unfoldable pub allowed : {L : Type 0} → (L → Bool) → List (ExecutabilityOver L) → Bool
allowed {L} test = some_of (λ (x : ExecutabilityOver L). each_of test x.body)

-- Some effect gives the literal by a body each of whose literals passes the test.
unfoldable pub given : (ℕ → Bool) → List Effect → ℕ → Bool
given test es l = some_of (λ (e : Effect). both (eqb e.literal l) (each_of test e.body)) es

-- A sensing action has a knowledge line (FORMAT 7.10).
unfoldable pub sensing : {L : Type 0} → TableOver L → ℕ → Bool
sensing t a = some_of (λ (k : Knowledge). true) (knowledge_of t a)

unfoldable pub senses : List Knowledge → ℕ → Bool
senses ks f = some_of (λ (k : Knowledge). eqb k.fluent f) ks
