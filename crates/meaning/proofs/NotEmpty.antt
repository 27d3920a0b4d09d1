-- The carried-out property is neither always true nor only true of what is verified: it fails for case 3's plan, for a branching unseen, for an
-- empty plan with a whether entry over an unknown fluent and for an action that drops a world, and it holds for case 10's plan, which gets
-- answer 1. With a guard it fails where the first worlds leave the guard open, and where an action breaks it. And the failed state of an action is in the set of every plan that starts with it. Assumes nothing.
use Prim.Native.Nat.{ℕ}
use mathlib.Core.Path.{◌≡◌, refl, ap, ◌∙◌}
use mathlib.Core.Bool.{Bool, true, false, false≢true}
use mathlib.Core.List.{List, [], ◌∷◌, ◌++◌}
use mathlib.Core.Logic.{inl, ⊎_elim}
use lib.ListN.{get_or, replicate}
use lib.Dec.{eqb}
use Rattle.meaning.specs.Tests.{both, either, fails, pick}
use Rattle.meaning.specs.Limits.{format}
use Rattle.meaning.specs.Requests.{Table, done, item, act, Request, values}
use Rattle.meaning.specs.Reading.{got}
use Rattle.meaning.specs.Refusals.{settled}
use Rattle.meaning.specs.Judging.{judge}
use Rattle.meaning.specs.Guards.{GuardedRequest, settled_guarded}
use Rattle.meaning.specs.Approximation.{executable, least, failed, Φ̂}
use Rattle.meaning.specs.Worlds.{World, holds, may_be_run, moved, table_domain, CarriedOut, CarriedOutUnder}
use Rattle.meaning.proofs.TestLaws.{both_true}
use Rattle.meaning.proofs.Compute.{all_open}
use Rattle.meaning.proofs.Cases.{table_A}

all_false : World
all_false f = false

bit_set : World
bit_set f = eqb f 0

-- Case 3: the branching has no condition that holds in every possible world.
abbrev pub case_3 : List ℕ
case_3 = table_A ++ (0 ∷ 1 ∷ 255 ∷ 2 ∷ 1 ∷ 1 ∷ 0 ∷ 2 ∷ 1 ∷ 2 ∷ 1 ∷ 0 ∷ 0 ∷ 0 ∷ 1 ∷ 7 ∷ 1 ∷ 2 ∷ [])

pub case_3_not_carried_out : (r : Request) × (e : ℕ) × (settled format case_3 ≡ got r e) × (CarriedOut r → ⊥)
unfolding table_A all_open all_false bit_set holds table_domain
case_3_not_carried_out = (
  _,
  _,
  refl,
  λ c. ⊎_elim (λ x. false≢true (x.0 bit_set refl)) (λ y. ⊎_elim (λ z. false≢true (z.0 all_false refl)) (λ z. z.1) y.1) (c all_false refl),
)

-- The same branching with nothing in its branches and nothing asked: what is true in the true world alone does not choose a branch.
abbrev pub branch_unseen : List ℕ
branch_unseen = table_A ++ (0 ∷ 1 ∷ 255 ∷ 2 ∷ 1 ∷ 1 ∷ 0 ∷ 0 ∷ 1 ∷ 0 ∷ 0 ∷ 0 ∷ 0 ∷ 0 ∷ [])

pub branch_unseen_not_carried_out : (r : Request) × (e : ℕ) × (settled format branch_unseen ≡ got r e) × (CarriedOut r → ⊥)
unfolding table_A all_open all_false bit_set holds table_domain
branch_unseen_not_carried_out = (_, _, refl, λ c. ⊎_elim (λ x. false≢true (x.0 bit_set refl)) (λ y. ⊎_elim (λ z. false≢true (z.0 all_false refl)) (λ z. z.1) y.1) (c all_false refl))

-- An empty plan over one unknown fluent, asked whether it holds.
abbrev pub unknown_whether : List ℕ
unknown_whether = 1 ∷ 1 ∷ 0 ∷ 0 ∷ 0 ∷ 0 ∷ 0 ∷ 0 ∷ 0 ∷ 1 ∷ 0 ∷ []

pub unknown_whether_not_carried_out : (r : Request) × (e : ℕ) × (settled format unknown_whether ≡ got r e) × (CarriedOut r → ⊥)
unfolding all_open all_false bit_set holds values
unknown_whether_not_carried_out = (_, _, refl, λ c. false≢true (ap (λ (xs : List Bool). get_or xs 0 false) ((c all_false refl).whether all_false bit_set refl refl)))

-- One action, which may be run in one of the two worlds: it drops the other, and so it is not carried out, though nothing is asked.
abbrev pub unsure_action : List ℕ
unsure_action = 1 ∷ 1 ∷ 0 ∷ 0 ∷ 1 ∷ 0 ∷ 1 ∷ 0 ∷ 0 ∷ 0 ∷ 1 ∷ 0 ∷ 0 ∷ 0 ∷ []

pub unsure_action_not_carried_out : (r : Request) × (e : ℕ) × (settled format unsure_action ≡ got r e) × (CarriedOut r → ⊥)
unfolding all_open all_false holds may_be_run table_domain
unsure_action_not_carried_out = (_, _, refl, λ c. false≢true ((c all_false refl).allowed all_false refl))

-- GUARDS. An empty plan over one unknown fluent, which is guarded: it holds in the true world and not in another.
abbrev pub guard_unknown : List ℕ
guard_unknown = 1 ∷ 1 ∷ 0 ∷ 0 ∷ 0 ∷ 0 ∷ 0 ∷ 0 ∷ 0 ∷ 0 ∷ 1 ∷ 0 ∷ []

pub guard_unknown_not_carried_out : (g : GuardedRequest) × (e : ℕ) × (settled_guarded format guard_unknown ≡ got g e) × (CarriedOutUnder (values g.guards) g.request → ⊥)
unfolding all_open all_false bit_set holds table_domain values
guard_unknown_not_carried_out = (_, _, refl, λ c. false≢true ((c bit_set refl).0 all_false refl))

-- What is wanted besides is left aside.
guards_of : {A B : Type 0} → A × B → A
guards_of both = both.0

-- One action, which makes true what is guarded as false, and nothing is asked.
abbrev pub guard_broken : List ℕ
guard_broken = 1 ∷ 1 ∷ 1 ∷ 1 ∷ 1 ∷ 0 ∷ 0 ∷ 0 ∷ 1 ∷ 0 ∷ 0 ∷ 0 ∷ 0 ∷ 1 ∷ 0 ∷ 0 ∷ 0 ∷ 1 ∷ 1 ∷ []

pub guard_broken_not_carried_out : (g : GuardedRequest) × (e : ℕ) × (settled_guarded format guard_broken ≡ got g e) × (CarriedOutUnder (values g.guards) g.request → ⊥)
unfolding all_open all_false holds may_be_run moved table_domain values
guard_broken_not_carried_out = (_, _, refl, λ c. false≢true (guards_of ((c all_false refl).1.done refl) _ (all_false, refl, refl, refl)))

-- Case 10: the fluent is made true by one effect or by the other.
abbrev pub case_10 : List ℕ
case_10 = 2 ∷ 1 ∷ 0 ∷ 2 ∷ 0 ∷ 0 ∷ 1 ∷ 2 ∷ 0 ∷ 0 ∷ 1 ∷ 3 ∷ 1 ∷ 0 ∷ 0 ∷ 0 ∷ 0 ∷ 1 ∷ 0 ∷ 1 ∷ 0 ∷ 0 ∷ []

abbrev pub table_10 : Table
table_10 = record {
  fluents = 2;
  actions = 1;
  facts = [];
  effects = record { place = 4; action = 0; literal = 0; body = 2 ∷ [] } ∷ record { place = 8; action = 0; literal = 0; body = 3 ∷ [] } ∷ [];
  executability = record { place = 13; action = 0; body = [] } ∷ [];
  knowledge = [];
}

abbrev pub request_10 : Request
request_10 = record { table = table_10; plan = item (act 18 0) done; goals = record { place = 20; value = 0 } ∷ []; whether = []; whether_place = 21 }

moved_to_true : (u : World) → moved table_10 0 u 0 ≡ true
unfolding all_open moved holds
moved_to_true u = by_value (u 1) (u 0)
  where
    by_value : (b x : Bool) → pick (either (both b true) (either (both (fails b) true) false)) (λ _. true) (λ _. x) ≡ true
    by_value true x = refl
    by_value false x = refl

pub case_10_missed : (judge format case_10 (replicate format.state 0) 100000).answer.number ≡ 1
unfolding all_open
case_10_missed = refl

pub case_10_settled : settled format case_10 ≡ got request_10 22
unfolding all_open
case_10_settled = refl

pub case_10_carried_out : CarriedOut request_10
unfolding all_open holds may_be_run table_domain values
case_10_carried_out v h =
    record {
      allowed = λ w p. refl;
      read = λ on. absurd (false≢true on);
      done = λ off. record {
        true_world = (v, h, refl, refl);
        goals = λ w p. both_true _ _ (ap (λ (x : World). x 0) p.3 ∙ moved_to_true p.0) refl;
        whether = λ w u p q. refl;
      };
    }

-- An action that can't be run, and then one that can: the failed state is in the plan's set.
pub failed_stays : Φ̂ table_10 (item (act 0 1) (item (act 1 0) done)) (least table_10) failed
unfolding all_open executable
failed_stays = inl (refl, refl)
