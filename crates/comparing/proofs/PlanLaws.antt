-- Plans compared by their counts and by the parts of an input that hold their items. Assumes nothing.
use Prim.Native.Nat.{ℕ, ◌+◌, ◌-◌, ◌*◌}
use native.Mathlib.Omega.{arith}
use mathlib.Core.Path.{◌≡◌, sym, ◌∙◌, ap}
use mathlib.Core.Bool.{Bool}
use mathlib.Core.List.{List, ◌++◌}
use lib.ListN.{get_or, take, drop}
use lib.Dec.{eqb}
use borrow.Author.Tests.{eq-eqb, ne_eqb}
use Rattle.meaning.specs.Tests.{both}
use Rattle.meaning.specs.Requests.{Sequence}
use Rattle.meaning.specs.Derivations.{same_list, same_plan, join}
use Rattle.meaning.proofs.TestLaws.{by-test}
use Rattle.reading.specs.Listed.{bytes_from}
use Rattle.meaning.specs.declared.Form.TheVariants.{Flags}
use Rattle.reading.specs.Planned.{bytes_of}
use Rattle.finding.specs.PlansHeld.{own_items}
use Rattle.comparing.specs.Coded.{coded}
use Rattle.comparing.specs.Stands.{PlanStands}
use Rattle.comparing.specs.RuleAnswers.{ItemsStand, SamePlans, JoinedPlans}
use Rattle.comparing.proofs.CodedLaws.{same_own, same_coded, own_join, same_to_joined}
use Rattle.comparing.proofs.SamePartLaws.{part_bytes}

-- PARTS. What stands after a plan's count, up to its end, is its items; and so are items that stand by themselves.
pub plan_part : (d : List ℕ) (q e : ℕ) (c : Sequence ℕ) → PlanStands d q e c → take (e - (q + 2)) (drop (q + 2) d) ≡ coded c
plan_part d q e c w =
    let ends = w.ends in
    let size : e - (q + 2) ≡ bytes_of Flags c = omega (arith, ends) in
    part_bytes d (q + 2) e (omega (arith, ends)) w.inside ∙ ap (bytes_from d (q + 2)) size ∙ w.bytes

pub items_part : (d : List ℕ) (a b count : ℕ) (c : Sequence ℕ) → ItemsStand d a b count c → take (b - a) (drop a d) ≡ coded c
items_part d a b count c w =
    let ends = w.ends in
    let size : b - a ≡ bytes_of Flags c = omega (arith, ends) in
    part_bytes d a b (omega (arith, ends)) w.inside ∙ ap (bytes_from d a) size ∙ w.bytes

-- TWO PLANS, with their counts.
module _ (d : List ℕ) (q e : ℕ) (u : List ℕ) (r f one other : ℕ) (first : one ≡ get_or d q 0 * 256 + get_or d (q + 1) 0) (second : other ≡ get_or u r 0 * 256 + get_or u (r + 1) 0) where
  pub plans_other : (one ≡ other → ⊥) → SamePlans d q e u r f (eqb one other)
  plans_other differ =
      record {
        holds = λ b c w v.
            ne_eqb one other differ
            ∙ by-test (same_plan b c) (λ t. absurd (differ (first ∙ w.count ∙ same_own b c t ∙ sym v.count ∙ sym second))) sym;
      }

  pub plans_parts : (answer : Bool) → one ≡ other → answer ≡ same_list (take (e - (q + 2)) (drop (q + 2) d)) (take (f - (r + 2)) (drop (r + 2) u)) → SamePlans d q e u r f answer
  unfolding both
  plans_parts answer same is =
      record {
        holds = λ b c w v.
            let own : own_items b ≡ own_items c = sym w.count ∙ sym first ∙ same ∙ second ∙ v.count in
            is
            ∙ rw (plan_part d q e b w, plan_part u r f c v)
            (sym (same_coded b c w.tellable v.tellable ∙ rw (eq-eqb (own_items b) (own_items c) own)));
      }

-- A PLAN against items of two parts, with its count.
module _ (d : List ℕ) (q e a b count g h more x : ℕ) (read : x ≡ get_or d q 0 * 256 + get_or d (q + 1) 0) where
  pub joined_other : (x ≡ count + more → ⊥) → JoinedPlans d q e a b count g h more (eqb x (count + more))
  joined_other differ =
      record {
        holds = λ c first rest w v z.
            ne_eqb x (count + more) differ
            ∙ by-test (same_plan c (join first rest))
            (λ t.
            let counted = w.count in let own = same_own c (join first rest) t in let sum = own_join first rest in
            let one = v.counted in let two = z.counted in
            absurd (differ (omega (arith, read, counted, own, sum, one, two))))
            sym;
      }

  pub joined_parts : (answer : Bool) → x ≡ count + more → answer ≡ same_list (take (e - (q + 2)) (drop (q + 2) d)) (take (b - a) (drop a d) ++ take (h - g) (drop g d))
      → JoinedPlans d q e a b count g h more answer
  unfolding both
  joined_parts answer same is =
      record {
        holds = λ c first rest w v z.
            let counted = w.count in let one = v.counted in let two = z.counted in
            let own : own_items c ≡ own_items first + own_items rest = omega (arith, read, same, counted, one, two) in
            is
            ∙ rw (plan_part d q e c w, items_part d a b count first v, items_part d g h more rest z)
            (sym (same_to_joined c first rest w.tellable v.tellable z.tellable ∙ rw (eq-eqb (own_items c) (own_items first + own_items rest) own)));
      }
