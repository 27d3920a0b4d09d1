-- The premises of `matched_alike` can be met: it is cited of a values request with a literal of each kind, a sensing action and a branching, and of the request that matches it, and both
-- calls answer 0 with count 4. Assumes nothing.
use Prim.Native.Nat.{ℕ}
use native.Mathlib.Omega.{arith}
use native.Mathlib.Decide.{ℕ_discrete}
use mathlib.Core.Path.{◌≡◌, refl}
use mathlib.Core.List.{List, [], ◌∷◌}
use mathlib.Core.Logic.{inl, inr}
use lib.Dec.{ltb}
use borrow.Author.Tests.{ltb-true}
use Rattle.meaning.specs.Limits
use Rattle.meaning.specs.Limits.{format}
use Rattle.meaning.specs.Reading.{values_in, value_at, leaves_one, floor_after, value_entry_at, value_entries_at, value_list_at, set_value_at, value_counts_at, placed_twos}
use Rattle.meaning.specs.Valued
use Rattle.meaning.specs.Valued.{settled_values, judge_values}
use Rattle.meaning.specs.Judging.{judge}
use Rattle.demands.specs.Matching.{placeless}
use Rattle.meaning.proofs.TestLaws.{by-test, pick_false}
use Rattle.meaning.proofs.Compute.{all_open}
use Rattle.meaning.proofs.Cases.{lent_room, usual}
use Rattle.demands.proofs.Matched.{matched_alike}

-- "0 is not 1" is known. Action 0 makes 1 be 0 where "0 is 0"; action 1 looks at 1. The plan looks, and where "1 is not 0" it runs action 0.
abbrev by_values : List ℕ
by_values =
    2 ∷ 2 ∷ 2 ∷ 2 ∷ 1 ∷ 0 ∷ 3 ∷ 1 ∷ 0 ∷ 1 ∷ 0 ∷ 1 ∷ 0 ∷ 0 ∷ 2 ∷ 0 ∷ 1 ∷ 0 ∷ 0 ∷ 1 ∷ 0 ∷ 1 ∷ 1 ∷ 1 ∷
    0 ∷ 2 ∷ 1 ∷ 255 ∷ 2 ∷ 1 ∷ 1 ∷ 1 ∷ 0 ∷ 1 ∷ 0 ∷ 1 ∷ 1 ∷ 0 ∷ 0 ∷ 0 ∷ 1 ∷ 1 ∷ 0 ∷ 1 ∷ 0 ∷ []

abbrev by_flags : List ℕ
by_flags =
    2 ∷ 2 ∷ 1 ∷ 0 ∷ 1 ∷ 0 ∷ 2 ∷ 1 ∷ 0 ∷ 2 ∷ 0 ∷ 1 ∷ 0 ∷ 1 ∷ 0 ∷ 1 ∷ 1 ∷ 1 ∷
    0 ∷ 2 ∷ 1 ∷ 255 ∷ 2 ∷ 1 ∷ 3 ∷ 0 ∷ 1 ∷ 0 ∷ 1 ∷ 2 ∷ 0 ∷ 0 ∷ 1 ∷ 2 ∷ 1 ∷ 0 ∷ []

two_each : (f : ℕ) → values_in by_values f ≡ 2
unfolding all_open values_in
two_each f =
    elim (ℕ_discrete f 0) [
      | yes q ↦ rw q
      | no not_0 ↦ elim (ℕ_discrete f 1) [
        | yes q ↦ rw q
        | no not_1 ↦ by-test (ltb f 2) (λ t. absurd (let less = ltb-true f 2 t in omega (arith, less, not_0, not_1))) (λ u. pick_false _ _ _ u)
      ]
    ]

pub met_alike : placeless (judge_values format by_values lent_room usual) ≡ placeless (judge format by_flags lent_room usual)
unfolding all_open values_in value_at leaves_one floor_after value_entry_at value_entries_at value_list_at set_value_at value_counts_at placed_twos
met_alike =
    matched_alike format by_values by_flags _ _ _ _ refl refl two_each
    (record {
      table = record {
        fluents = refl;
        actions = refl;
        facts = ((0, inl (refl, inr refl)), tt);
        effects = (record { action = refl; literal = (1, inl (refl, refl)); body = ((0, inl (refl, inl refl)), tt) }, tt);
        executability = (record { action = refl; body = ((0, inl (refl, inl refl)), tt) }, (record { action = refl; body = tt }, tt));
        knowledge = (record { action = refl; fluent = refl }, tt);
      };
      plan = (refl, ((((1, inr (refl, inr refl)), tt), (refl, tt), (((1, inl (refl, inl refl)), tt), tt, tt)), tt));
      goals = ((1, inl (refl, inl refl)), tt);
      whether = refl;
    })
    lent_room usual

-- They are verified, with count 4.
pub met_verified : ((judge_values format by_values lent_room usual).answer.number ≡ Limits.verified) × ((judge_values format by_values lent_room usual).answer.count ≡ 4)
unfolding all_open values_in value_at leaves_one floor_after value_entry_at value_entries_at value_list_at set_value_at value_counts_at placed_twos settled_values Valued.walk_of judge_values
met_verified = (refl, refl)
