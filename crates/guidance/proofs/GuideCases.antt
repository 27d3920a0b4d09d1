-- The cases of a guide (FORMAT section 25), computed by the definitions: what its start answers, and what each call is told, one after another. Assumes nothing.
use Prim.Native.Nat.{ℕ}
use mathlib.Core.Path.{◌≡◌, refl}
use mathlib.Core.List.{List, [], ◌∷◌, ◌++◌, map}
use lib.ListN.{set, take}
use Rattle.meaning.specs.declared.Answer.{Answer}
use Rattle.meaning.specs.Limits.{format}
use Rattle.meaning.proofs.Cases.{usual, table_A, file_A}
use Rattle.guidance.specs.declared.Told.{Told}
use Rattle.guidance.specs.declared.Told.TheVariants.{Do, Done, Refused}
use Rattle.guidance.specs.Guides.{start, told_by}
use Rattle.guidance.proofs.GuideCompute.{guide_open}

-- What a start answers, and what the calls are told.
pub record Heard : Type 0 where
  pub answer : Answer
  pub told : List Told

-- A request, the budget, the readings of each call, and what is heard.
pub record GuideCase : Type 0 where
  pub request : List ℕ
  pub budget : ℕ
  pub calls : List (List ℕ)
  pub hears : Heard

-- What is heard of a request, a budget and some calls.
unfoldable pub heard_in : (request : List ℕ) → (budget : ℕ) → (calls : List (List ℕ)) → Heard
heard_in request budget calls = let started = start format request budget in record { answer = started.answer; told = told_by format started.guide calls }

-- ROWS. A call is the readings that it brings and what it is told.
pub record Call : Type 0 where
  pub readings : List ℕ
  pub told : Told

abbrev answers : (number input place count : ℕ) → Answer
answers n i p c = record { number = n; input = i; place = p; count = c }

infixr 40 ◌gives◌
abbrev ◌gives◌ : List ℕ → Told → Call
readings gives told = record { readings = readings; told = told }

abbrev refuses : ℕ → Told
refuses n = Refused (answers n 0 0 0)

abbrev row : (request : List ℕ) → (budget : ℕ) → Answer → List Call → GuideCase
row request budget x calls =
    record { request = request; budget = budget; calls = map (λ (c : Call). c.readings) calls; hears = record { answer = x; told = map (λ (c : Call). c.told) calls } }

-- A request that is verified with a count.
abbrev guided : (request : List ℕ) → (count : ℕ) → List Call → GuideCase
guided request count = row request usual (answers 0 0 0 count)

-- One that is not verified, and one that is refused: whatever the readings are.
abbrev unguided : (request : List ℕ) → (budget : ℕ) → GuideCase
unguided request budget = row request budget (answers 40 0 0 0) (([] gives refuses 40) ∷ ((0 ∷ 1 ∷ []) gives refuses 40) ∷ [])

abbrev refused : (request : List ℕ) → (number place : ℕ) → GuideCase
refused request n p = row request usual (answers n 1 p 0) (([] gives Refused (answers n 1 p 0)) ∷ ((0 ∷ 1 ∷ []) gives Refused (answers n 1 p 0)) ∷ [])

-- Two fluents, the first a fact; the action senses both, and its line of the second is the first. It is done twice.
senses_both : List ℕ
senses_both = 2 ∷ 1 ∷ 1 ∷ 0 ∷ 0 ∷ 1 ∷ 0 ∷ 0 ∷ 2 ∷ 0 ∷ 1 ∷ 0 ∷ 0 ∷ 0 ∷ 2 ∷ 0 ∷ 0 ∷ 0 ∷ 1 ∷ 1 ∷ []

-- One fluent, and an action with two lines that say that it senses it.
senses_twice : List ℕ
senses_twice = 1 ∷ 1 ∷ 0 ∷ 0 ∷ 1 ∷ 0 ∷ 0 ∷ 2 ∷ 0 ∷ 0 ∷ 0 ∷ 0 ∷ 0 ∷ 1 ∷ 0 ∷ 0 ∷ 1 ∷ 0 ∷ []

-- The flight of the paper on IndiGolog: the departures are checked, and gate A or gate B is gone to.
airport : List ℕ
airport = 6 ∷ 5 ∷ 5 ∷ 0 ∷ 3 ∷ 5 ∷ 7 ∷ 11 ∷ 13 ∷ 0 ∷ 2 ∷ 0 ∷ 0 ∷ 1 ∷ 0 ∷ 0 ∷ 5 ∷ 0 ∷ 0 ∷ 7 ∷ 0 ∷ 1 ∷ 4 ∷ 0 ∷ 1 ∷ 1 ∷ 0 ∷ 1 ∷ 3 ∷ 0 ∷ 1 ∷ 7 ∷ 0 ∷ 2 ∷ 6 ∷ 0 ∷ 2 ∷ 1 ∷ 0 ∷ 2 ∷ 3 ∷ 0 ∷ 2 ∷ 5 ∷ 0 ∷ 4 ∷ 10 ∷ 0 ∷ 6 ∷ 0 ∷ 0 ∷ 1 ∷ 1 ∷ 2 ∷ 2 ∷ 1 ∷ 2 ∷ 3 ∷ 1 ∷ 2 ∷ 4 ∷ 2 ∷ 4 ∷ 8 ∷ 4 ∷ 2 ∷ 6 ∷ 9 ∷ 1 ∷ 3 ∷ 4 ∷ 0 ∷ 3 ∷ 0 ∷ 3 ∷ 255 ∷ 2 ∷ 1 ∷ 8 ∷ 0 ∷ 2 ∷ 1 ∷ 4 ∷ 1 ∷ 9 ∷ 0 ∷ 2 ∷ 2 ∷ 4 ∷ 1 ∷ 10 ∷ 0 ∷ []

-- The table of File A with other plans: look twice; and look, then open where the bit is clear and look where it is set, then look.
look_twice : List ℕ
look_twice = table_A ++ (0 ∷ 2 ∷ 0 ∷ 0 ∷ 0 ∷ 0 ∷ [])

look_behind : List ℕ
look_behind = table_A ++ (0 ∷ 3 ∷ 0 ∷ 255 ∷ 2 ∷ 1 ∷ 1 ∷ 0 ∷ 1 ∷ 1 ∷ 1 ∷ 0 ∷ 0 ∷ 0 ∷ 0 ∷ 0 ∷ 0 ∷ [])

-- A branching within a branch, the first item of all.
nested : List ℕ
nested = table_A ++ (0 ∷ 2 ∷ 255 ∷ 1 ∷ 1 ∷ 3 ∷ 0 ∷ 2 ∷ 255 ∷ 2 ∷ 1 ∷ 2 ∷ 0 ∷ 0 ∷ 1 ∷ 3 ∷ 0 ∷ 1 ∷ 1 ∷ 2 ∷ 0 ∷ 0 ∷ 0 ∷ [])

pub guide_cases : List GuideCase
guide_cases =
    -- File A where the bit is set, and where it is clear; once it has ended, with readings that nobody asks for.
    guided file_A 5 (([] gives Do 0) ∷ ((1 ∷ []) gives Done) ∷ ([] gives Done) ∷ ((5 ∷ []) gives Done) ∷ []) ∷
    guided file_A 5 (([] gives Do 0) ∷ ((0 ∷ []) gives Do 1) ∷ ([] gives Do 2) ∷ ([] gives Done) ∷ ((3 ∷ 3 ∷ []) gives Done) ∷ []) ∷
    -- Any byte but 0 says yes.
    guided file_A 5 (([] gives Do 0) ∷ ((7 ∷ []) gives Done) ∷ []) ∷
    -- The plan without items.
    guided (table_A ++ (0 ∷ 0 ∷ 0 ∷ 0 ∷ [])) 1 (([] gives Done) ∷ []) ∷
    guided (table_A ++ (0 ∷ 0 ∷ 0 ∷ 0 ∷ [])) 1 (((5 ∷ []) gives refuses 41) ∷ ([] gives Done) ∷ []) ∷
    -- Another number of readings than the action asks for, and the same call again with the right one.
    guided file_A 5 (((1 ∷ []) gives refuses 41) ∷ ([] gives Do 0) ∷ ([] gives refuses 41) ∷ ((0 ∷ 0 ∷ []) gives refuses 41) ∷ ((0 ∷ []) gives Do 1) ∷ ((0 ∷ []) gives refuses 41) ∷ ([] gives Do 2) ∷ ([] gives Done) ∷ []) ∷
    -- A reading against what is known; 41 goes before 42.
    guided look_twice 5 (([] gives Do 0) ∷ ((1 ∷ []) gives Do 0) ∷ ((0 ∷ []) gives refuses 42) ∷ ((0 ∷ 0 ∷ []) gives refuses 41) ∷ ((1 ∷ []) gives Done) ∷ []) ∷
    -- A known fluent and an unknown one: both are asked for, in the order of the fluents, and a refusal takes over neither.
    guided senses_both 5 (([] gives Do 0) ∷ ((0 ∷ []) gives refuses 41) ∷ ((0 ∷ 1 ∷ []) gives refuses 42) ∷ ((1 ∷ 0 ∷ []) gives Do 0) ∷ ((1 ∷ 1 ∷ []) gives refuses 42) ∷ ((1 ∷ 0 ∷ []) gives Done) ∷ []) ∷
    -- One fluent with two lines is asked for once.
    guided senses_twice 3 (([] gives Do 0) ∷ ((0 ∷ 0 ∷ []) gives refuses 41) ∷ ((0 ∷ []) gives Done) ∷ []) ∷
    -- Either gate.
    guided airport 8 (([] gives Do 0) ∷ ([] gives Do 3) ∷ ((1 ∷ []) gives Do 1) ∷ ([] gives Do 4) ∷ ([] gives Done) ∷ []) ∷
    guided airport 8 (([] gives Do 0) ∷ ([] gives Do 3) ∷ ((0 ∷ []) gives Do 2) ∷ ([] gives Do 4) ∷ ([] gives Done) ∷ []) ∷
    -- What stands behind a branching follows the branch, with items or without.
    guided look_behind 6 (([] gives Do 0) ∷ ((0 ∷ []) gives Do 1) ∷ ([] gives Do 0) ∷ ((1 ∷ []) gives refuses 42) ∷ ((0 ∷ []) gives Done) ∷ []) ∷
    guided look_behind 6 (([] gives Do 0) ∷ ((1 ∷ []) gives Do 0) ∷ ((1 ∷ []) gives Done) ∷ []) ∷
    guided nested 5 (([] gives Do 1) ∷ ([] gives Do 2) ∷ ([] gives Do 0) ∷ ((0 ∷ []) gives Done) ∷ []) ∷
    -- A goal missed, an action that cannot be run, a branching without a condition known true, a budget that is spent.
    unguided (table_A ++ (0 ∷ 1 ∷ 1 ∷ 1 ∷ 7 ∷ 1 ∷ 2 ∷ [])) usual ∷
    unguided (table_A ++ (0 ∷ 1 ∷ 2 ∷ 0 ∷ 0 ∷ [])) usual ∷
    unguided (table_A ++ (0 ∷ 1 ∷ 255 ∷ 2 ∷ 1 ∷ 1 ∷ 0 ∷ 2 ∷ 1 ∷ 2 ∷ 1 ∷ 0 ∷ 0 ∷ 0 ∷ 1 ∷ 7 ∷ 1 ∷ 2 ∷ [])) usual ∷
    unguided file_A 4 ∷
    row file_A 5 (answers 0 0 0 5) [] ∷
    -- What the walk call refuses.
    refused [] 11 0 ∷
    refused (take 47 file_A) 11 47 ∷
    refused (set file_A 11 3) 16 10 ∷
    refused (set file_A 41 1) 18 32 ∷
    []

pub guide_cases_hold : map (λ (c : GuideCase). heard_in c.request c.budget c.calls) guide_cases ≡ map (λ (c : GuideCase). c.hears) guide_cases
unfolding guide_open table_A file_A senses_both senses_twice airport look_twice look_behind nested told_by heard_in guide_cases
guide_cases_hold = refl
