-- What is refused after reading: 16, 17 and 18, each a pass over the whole request (FORMAT 5.16).
use Rattle.std.specs.Prelude.{ℕ, Bool, true, List, [], ◌∷◌, eqb}
use Rattle.meaning.specs.Tests.{both, fails, pick, some_of, each_of}
use Rattle.meaning.specs.Limits
use Rattle.meaning.specs.Limits.{Limits}
use Rattle.meaning.specs.Literals.{complement, exclusive}
use Rattle.meaning.specs.Requests.{Effect, Executability, Knowledge, Table, Sequence, done, item, Item, act, branching, Branches, none, branch, Request}
use Rattle.meaning.specs.Lines.{executability_of}
use Rattle.meaning.specs.Reading.{Flags, Got, got, fault, next, read_request}

-- The place of the first thing sought, or none.
pub data Found : Type 0 where
  nowhere : Found
  at : (place : ℕ) → Found

unfoldable pub or_else : Found → (Unit {0} → Found) → Found
or_else nowhere k = k tt
or_else (at p) k = at p

-- Two effects of one action whose literals are complements, and whose bodies do not exclude each other.
unfoldable pub clashing : Effect → Effect → Bool
clashing e g =
    both (eqb e.action g.action)
    (both (eqb g.literal (complement e.literal)) (fails (exclusive e.body g.body)))

-- Some one executability line of the action has a body that excludes neither of the two (FORMAT 7.32).
unfoldable pub runs_with : Table → (action : ℕ) → (one other : List ℕ) → Bool
runs_with t a one other =
    some_of (λ (x : Executability). both (fails (exclusive one x.body)) (fails (exclusive other x.body))) (executability_of t a)

-- Two effects that clash where their action can be run (FORMAT 7.31).
unfoldable pub contradictory : Table → Effect → Effect → Bool
contradictory t e g = both (clashing e g) (runs_with t e.action e.body g.body)

-- The first effect that is against one before it.
unfoldable pub first_against : (against : Effect → Effect → Bool) (before : List Effect) → List Effect → Found
first_against against before [] = nowhere
first_against against before (e ∷ es) =
    pick (some_of (against e) before) (λ _. at e.place) (λ _. first_against against (e ∷ before) es)

-- The first effect that contradicts one before it (FORMAT 4.37).
unfoldable pub contradiction_in : Table → Found
contradiction_in t = first_against (contradictory t) [] t.effects

-- The first knowledge line whose action has an effect too (FORMAT 4.39).
unfoldable pub mixed_in : List Effect → List Knowledge → Found
mixed_in effects [] = nowhere
mixed_in effects (k ∷ ks) =
    pick (some_of (λ (e : Effect). eqb e.action k.action) effects) (λ _. at k.place) (λ _. mixed_in effects ks)

module _ {L : Type 0} where
  unfoldable pub conditions_of : Branches L → List (List L)
  conditions_of none = []
  conditions_of (branch c b bs) = c ∷ conditions_of bs

-- Every two of the conditions are exclusive (FORMAT 5.18).
unfoldable pub all_exclusive : List (List ℕ) → Bool
all_exclusive [] = true
all_exclusive (c ∷ cs) = both (each_of (exclusive c) cs) (all_exclusive cs)

-- The first branching whose conditions fail the test; an outer one stands before those inside it (FORMAT 4.40, 5.19).
module _ {L : Type 0} (test : List (List L) → Bool) where
  unfoldable mutual
    pub failing_in : Sequence L → Found
    failing_in done = nowhere
    failing_in (item i rest) = or_else (failing_at i) (λ _. failing_in rest)

    pub failing_at : Item L → Found
    failing_at (act p a) = nowhere
    failing_at (branching p bs) = pick (test (conditions_of bs)) (λ _. failing_below bs) (λ _. at p)

    pub failing_below : Branches L → Found
    failing_below none = nowhere
    failing_below (branch c b bs) = or_else (failing_in b) (λ _. failing_below bs)

-- The first branching with two conditions that are not exclusive.
abbrev pub overlap_in : Sequence ℕ → Found
overlap_in = failing_in all_exclusive

abbrev pub overlap_at : Item ℕ → Found
overlap_at = failing_at all_exclusive

abbrev pub overlap_below : Branches ℕ → Found
overlap_below = failing_below all_exclusive

module _ {A : Type 0} where
  -- Refuses with the number at the place found, or goes on.
  unfoldable pub refuse : (number : ℕ) → Found → (Unit {0} → Got A) → Got A
  refuse number nowhere k = k tt
  refuse number (at p) k = fault number p

-- What was read of a request, past the three (FORMAT 5.1, 5.16).
abbrev pub past_refusals : {A : Type 0} → Request → Got A → Got A
past_refusals r whole =
    refuse Limits.contradictory_effects (contradiction_in r.table) λ _.
    refuse Limits.effect_and_knowledge (mixed_in r.table.effects r.table.knowledge) λ _.
    refuse Limits.not_exclusive (overlap_in r.plan) λ _.
    whole

-- A request settled: read without a fault, and past the three (FORMAT 5.1).
unfoldable pub settled : Limits → List ℕ → Got Request
settled lim s = next (read_request lim Flags s) λ r e. past_refusals r (got r e)
