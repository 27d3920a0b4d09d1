-- A second instance: a fluent with three values, and literals that say "is v" or "is not v". Its rows are computed by the definitions of Values,
-- and demand 3 of it is the general theorem. Assumes nothing.
use Prim.Native.Nat.{ℕ, ◌-◌, ◌<◌}
use native.Mathlib.Omega.{arith}
use mathlib.Core.Path.{◌≡◌, refl, ap}
use mathlib.Core.Bool.{true, false}
use mathlib.Core.List.{List, [], ◌∷◌}
use lib.ListN.{get_or, replicate}
use lib.Dec.{eqb}
use Rattle.meaning.specs.Tests.{fails}
use Rattle.meaning.specs.Limits.{format}
use Rattle.meaning.specs.Requests.{EffectOver, TableOver, Sequence, done, item, act, EntryOver, RequestOver, values}
use Rattle.meaning.specs.Judging.{Judgement, within}
use Rattle.meaning.specs.Values.{Literals, exclusive, contradictory}
use Rattle.meaning.specs.ValueStates.{first_state, walked}
use Rattle.meaning.specs.ValueWorlds.{World, Facts, CarriedOut}
use Rattle.meaning.proofs.Compute.{all_open}
use Rattle.meaning.proofs.ValueSound.{walk_sound}

pub data Literal : Type 0 where
  is : (fluent value : ℕ) → Literal
  is_not : (fluent value : ℕ) → Literal

-- Three values for every fluent.
abbrev pub colours : Literals Literal
colours = record {
  fluent = λ l. elim l [ is f v ↦ f | is_not f v ↦ f ];
  satisfied = λ l u. elim l [ is f v ↦ eqb u v | is_not f v ↦ fails (eqb u v) ];
  sets = λ l. elim l [ is f v ↦ v | is_not f v ↦ v ];
  count = λ f. 3;
}

abbrev asked : TableOver Literal → Sequence Literal → (goals : List (EntryOver Literal)) → (whether : List (EntryOver ℕ)) → RequestOver Literal
asked table plan goals whether = record { table = table; plan = plan; goals = goals; whether = whether; whether_place = 9 }

-- The walk call's answer and the lent bytes afterwards.
abbrev judged : RequestOver Literal → Judgement
judged r = within (replicate format.state 9) 100000 (walked colours r (first_state colours format r.table))

-- A TRAFFIC LIGHT: action 0 looks at its colour.
abbrev light : TableOver Literal
light = record {
  fluents = 1;
  actions = 1;
  facts = [];
  effects = [];
  executability = record { place = 0; action = 0; body = [] } ∷ [];
  knowledge = record { place = 0; action = 0; fluent = 0 } ∷ [];
}

-- Whether the colour is known after a look: each of its three readings ends so.
abbrev pub traffic_light : RequestOver Literal
traffic_light = asked light (item (act 1 0) done) [] (record { place = 10; value = 0 } ∷ [])

pub traffic_light_verified : judged traffic_light ≡ record { answer = record { number = 0; input = 0; place = 0; count = 4 }; state = replicate format.state 9 }
unfolding all_open
traffic_light_verified = refl

pub traffic_light_carried_out : CarriedOut colours traffic_light
unfolding all_open
traffic_light_carried_out = walk_sound colours format traffic_light (tt, tt) refl

-- Without the look it is not: worlds with two colours are possible at the end.
pub unseen_not_carried_out : CarriedOut colours (asked light done [] (record { place = 10; value = 0 } ∷ [])) → ⊥
unfolding all_open values
unseen_not_carried_out c = let same : ◌≡◌ {A = ℕ} 0 1 = ap (λ (xs : List ℕ). get_or xs 0 0) ((c (all 0) (has 0 (omega arith))).whether (all 0) (all 1) (has 0 (omega arith)) (has 1 (omega arith))) in omega arith
  where
    all : ℕ → World
    all v f = v

    has : (v : ℕ) → v < 3 → Facts colours light (all v)
    has v low = (λ f. low, refl)

-- With the goal "is 0" instead, the first miss is where the colour is 1: its mark is 2.
pub traffic_light_missed : judged (asked light (item (act 1 0) done) (record { place = 8; value = is 0 0 } ∷ []) [])
    ≡ record { answer = record { number = 1; input = 1; place = 8; count = 4 }; state = 2 ∷ replicate (format.state - 1) 0 }
unfolding all_open
traffic_light_missed = refl

-- Action 0 CHANGES each colour to the next.
abbrev changing : (facts : List Literal) → TableOver Literal
changing facts = record {
  fluents = 1;
  actions = 1;
  facts = facts;
  effects = next 0 1 ∷ next 1 2 ∷ next 2 0 ∷ [];
  executability = record { place = 0; action = 0; body = [] } ∷ [];
  knowledge = [];
}
  where
    next : (from to : ℕ) → EffectOver Literal
    next from to = record { place = 0; action = 0; literal = is 0 to; body = is 0 from ∷ [] }

-- Facts that leave one value make it known, and each change then tells the next.
pub two_changes : judged (asked (changing (is_not 0 1 ∷ is_not 0 2 ∷ [])) (item (act 1 0) (item (act 2 0) done)) (record { place = 8; value = is 0 2 } ∷ []) [])
    ≡ record { answer = record { number = 0; input = 0; place = 0; count = 3 }; state = replicate format.state 9 }
unfolding all_open
two_changes = refl

-- Facts that leave two do not, and then no value is known afterwards: another may be set.
pub unknown_change : judged (asked (changing (is_not 0 1 ∷ [])) (item (act 1 0) done) [] (record { place = 10; value = 0 } ∷ []))
    ≡ record { answer = record { number = 1; input = 1; place = 10; count = 2 }; state = replicate format.state 0 }
unfolding all_open
unknown_change = refl

-- No two of these effects are contradictory, since their bodies disagree on the colour; two that look at different colours in the negative
-- are, but for a line that rules one of them out. A line that agrees with each of the two does not, though no colour satisfies all three.
abbrev setting : (value : ℕ) → (body : List Literal) → EffectOver Literal
setting value body = record { place = 0; action = 0; literal = is 0 value; body = body }

abbrev run_where : (body : List Literal) → TableOver Literal
run_where body = record { fluents = 1; actions = 1; facts = []; effects = []; executability = record { place = 0; action = 0; body = body } ∷ []; knowledge = [] }

pub changes_fit : contradictory colours (run_where []) (setting 1 (is 0 0 ∷ [])) (setting 2 (is 0 1 ∷ [])) ≡ false
unfolding all_open
changes_fit = refl

pub negatives_contradict : contradictory colours (run_where []) (setting 1 (is_not 0 0 ∷ [])) (setting 2 (is_not 0 1 ∷ [])) ≡ true
unfolding all_open
negatives_contradict = refl

pub ruled_out_by_the_line : contradictory colours (run_where (is 0 0 ∷ [])) (setting 1 (is_not 0 0 ∷ [])) (setting 2 (is_not 0 1 ∷ [])) ≡ false
unfolding all_open
ruled_out_by_the_line = refl

pub pair_by_pair : contradictory colours (run_where (is_not 0 2 ∷ [])) (setting 1 (is_not 0 0 ∷ [])) (setting 2 (is_not 0 1 ∷ [])) ≡ true
unfolding all_open
pair_by_pair = refl

-- What two lists say together counts: of three values, "is not 0" and "is not 1" leave one, and a third "is not" leaves none.
pub together_exclusive : exclusive colours (is_not 0 0 ∷ is_not 0 1 ∷ []) (is_not 0 2 ∷ []) ≡ true
unfolding all_open
together_exclusive = refl
