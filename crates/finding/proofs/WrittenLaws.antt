-- A plan that was read is held: its tree says what stands in the input, and the notes keep what was noted of it. Assumes nothing.
use Prim.Native.Nat.{ℕ, suc, ◌+◌, ◌*◌, ◌≤◌, ◌<◌}
use native.Mathlib.Omega.{arith}
use mathlib.Core.Path.{◌≡◌, refl, sym, ◌∙◌, ap, subst}
use mathlib.Core.List.{List}
use lib.ListN.{length, get_or}
use borrow.Author.Tests.{leb-false, eqb-true}
use Rattle.std.specs.Prelude.{Ok}
use Rattle.parsing.specs.Read.{Numbered}
use Rattle.meaning.specs.Limits.{format}
use Rattle.meaning.specs.Requests.{Sequence}
use Rattle.meaning.specs.declared.Form.{Form}
use Rattle.meaning.specs.Reading.{got, Met, byte_at, two_bytes_at, body_at, plan_at}
use Rattle.meaning.proofs.GotLaws.{On, got_on, next_on}
use Rattle.meaning.proofs.PlanReads.{Said, PassedAs, plan_on_as}
use Rattle.reading.specs.Listed.{span}
use Rattle.reading.specs.Planned.{items_of, bytes_of, plan_noted, noting_met, outcome_met}
use Rattle.finding.specs.Branches.{sequence_place, no_item}
use Rattle.finding.specs.PlansHeld.{own_items, branches_in, BranchWritten, Written, ItemWritten, BranchesWritten, PlanHeld, SomePlan}
use Rattle.reading.proofs.SectionLaws.{byte_got, count_got}
use Rattle.parsing.specs.Masks.{Counted}
use Rattle.finding.proofs.HereLaws.{literals_read, literals_length}
use Rattle.reading.proofs.PlanSizes.{body_through, sequence_read}
use Rattle.reading.proofs.NotingLaws.{with_items, met_value}
use Rattle.reading.specs.Noted.{effect_lines}
use Rattle.finding.proofs.PlanKept.{plan_kept}

-- A NUMBER in two bytes.
pub record TwoGot (s : List ℕ) (p c q : ℕ) : Type 0 where
  pub is : get_or s p 0 * 256 + get_or s (p + 1) 0 ≡ c
  pub after : q ≡ p + 2
  pub there : p + 1 < length s

pub two_is : (s : List ℕ) (p : ℕ) → On (two_bytes_at s p) (λ c q. TwoGot s p c q)
unfolding two_bytes_at
two_is s p =
    next_on (byte_at s p) _ (record { holds = byte_got s p }) λ x q one.
    next_on (byte_at s q) _ (record { holds = byte_got s q }) λ y r two.
    let a = one.2 in let b = two.2 in let c = two.0 in let high = one.1 in
    let low : get_or s (p + 1) 0 ≡ y = ap (λ (j : ℕ). get_or s j 0) a ∙ two.1 in
    got_on _ _ (record { is = omega arith; after = omega arith; there = omega arith })

-- PARTS OF A PLAN.
record SequenceGot (form : Form) (s : List ℕ) (p : ℕ) (b : Sequence ℕ) : Type 0 where
  written : Written form s b
  there : p + 1 < length s
  count : get_or s p 0 * 256 + get_or s (p + 1) 0 ≡ own_items b

module _ (form : Form) (n m : ℕ) (s : List ℕ) where
  -- As many items or branches as were to be read.
  abbrev plan_there : Said
  plan_there = record {
    item = λ deep p met x e. ItemWritten form s x.value;
    items = λ deep left p met x e. Written form s x.value × (own_items x.value ≡ left);
    sequence = λ deep p met x e. SequenceGot form s p x.value;
    branches = λ deep left p met x e. met ≤ format.items → BranchesWritten form s p x.value × (branches_in x.value ≡ left);
  }

  module _ (small : n ≤ format.fluents) (few : m ≤ format.actions) (values : Counted form s) where
    branch_written : (p : ℕ) (c : List ℕ) (q : ℕ) (b : Sequence ℕ) → body_at format form n s p ≡ got c q → SequenceGot form s q b → BranchWritten form s p c b
    unfolding body_at sequence_place
    branch_written p c q b read one =
        let list = literals_read form n 16 s small values p c q read in
        let after = ((body_through s form n p).holds c q read).after in
        let size : get_or s p 0 ≡ length c = sym (literals_length form s p) ∙ ap length list.is in
        let place : q ≡ p + 1 + span form (get_or s p 0) = rw size (omega arith) in
        record {
          here = list.here;
          condition = list.is;
          clear = list.apart;
          there = subst (λ (x : ℕ). x + 1 < length s) place one.there;
          count = subst (λ (x : ℕ). get_or s x 0 * 256 + get_or s (x + 1) 0 ≡ own_items b) place one.count;
        }

    written_passed : PassedAs format form n m s plan_there
    unfolding Written ItemWritten BranchesWritten own_items branches_in
    written_passed = record {
      an_action = λ deep p met x q read _ _ within.
          let one = byte_got s p x q read in
          let below = leb-false m x within in
          record { there = one.0; byte = one.1; below = omega (arith, below, few) };
      a_branching = λ deep p met x q c r bs e read met-few opens counted all.
          let below = leb-false format.items met met-few in
          let count = count_got 1 8 s (p + 1) c r counted in
          let rest = all (omega (arith, below)) in
          let after = count.2 in
          let first : r ≡ p + 2 = omega arith in (
            record { there = count.0; byte = (byte_got s p x q read).1 ∙ eqb-true x 255 opens; count = count.1 ∙ sym rest.1 },
            subst (λ (o : ℕ). BranchesWritten form s o bs.value) first rest.0,
          );
      no_item = λ deep p met. (tt, refl);
      an_item = λ deep left p met i q rest e one more. ((one, more.0), ap suc more.1);
      a_sequence = λ deep p met c q b e read all. let two = (two_is s p).holds c q read in record { written = all.0; there = two.there; count = two.is ∙ sym all.1 };
      no_branch = λ deep p met _. (tt, refl);
      a_branch = λ deep left p met c q b r rest e read body one more met-few.
          let sizes = (sequence_read form n m s deep q met met-few).holds b r body in
          let a = ((body_through s form n p).holds c q read).after in let d = sizes.through.after in
          let end : r ≡ p + (1 + span form (length c)) + (2 + bytes_of form b.value) = omega arith in
          let others = more sizes.most in
          ((branch_written p c q b.value read one, one.written, subst (λ (o : ℕ). BranchesWritten form s o rest.value) end others.0), ap suc others.1);
    }

    -- THE PLAN.
    module _ (p : ℕ) (t : List ℕ) (x : Met (Sequence ℕ)) (e : ℕ) (room : effect_lines ≤ length t) (read : plan_at format form n m s p ≡ got x e) where
      pub plan_items : items_of x.value ≡ x.items
      unfolding plan_at
      plan_items = let counted = ((sequence_read form n m s 8 p 0 (omega arith)).holds x e read).counted in omega arith

      pub plan_held : PlanHeld form s (plan_noted form p t x.value) x.value
      unfolding plan_at
      plan_held =
          let all = (sequence_read form n m s 8 p 0 (omega arith)).holds x e read in
          let counted = all.counted in let most = all.most in
          let small : items_of x.value ≤ format.items = omega arith in
          record {
            few = small;
            written = ((plan_on_as format form n m s plan_there written_passed p).holds x e read).written;
            kept = plan_kept form p t x.value small room;
          }

      -- The notes that reading left.
      pub plan_read : (u : List ℕ) → u ≡ plan_noted form p t x.value → SomePlan form s u x.items
      plan_read u is = record { plan = x.value; held = rw is plan_held; items = plan_items }

    -- What the code that reads a plan answers, and what is then found.
    module _ (p : ℕ) (t u : List ℕ) (r : Numbered) (count e : ℕ) (room : effect_lines ≤ length t) (left : outcome_met r u ≡ noting_met (plan_noted form p t) (plan_at format form n m s p)) (is : r ≡ Ok (count, e)) where
      pub plan_left : SomePlan form s u count
      plan_left =
          let w = met_value (plan_noted form p t) (plan_at format form n m s p) r u count e left is in
          plan_read p t (with_items w.0 count) e room w.1 u w.2
