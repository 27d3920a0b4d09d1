-- How far the readers of literals of values go: two bytes for each literal, within the input. Assumes nothing.
use Prim.Native.Nat.{ℕ, zero, suc, ◌+◌, ◌*◌, ◌≤◌, ◌<◌}
use native.Mathlib.Omega.{arith}
use mathlib.Core.Path.{◌≡◌, sym, ◌∙◌, ap, subst}
use mathlib.Core.List.{List, [], ◌∷◌}
use lib.ListN.{length, get_or}
use lib.Dec.{ltb}
use borrow.Author.Tests.{ltb-true}
use Rattle.meaning.specs.declared.Form.TheVariants.{Valued}
use Rattle.meaning.specs.Reading.{got, count_at, below_at, values_in, value_at, value_entry_at, value_entries_at, value_list_at, value_counts_at}
use Rattle.meaning.proofs.TestLaws.{by-test, pick_true, pick_false, pick-cases}
use Rattle.meaning.proofs.SettledLaws.{next_got, got_same, fault≢got}
use Rattle.meaning.proofs.RangeLaws.{count_within, count_least}
use Rattle.parsing.specs.Masks.{FewValues}
use Rattle.parsing.specs.Read.{values_first}
use Rattle.reading.proofs.SectionLaws.{got_place, number_got, count_got}

module _ (n : ℕ) (s : List ℕ) where
  pub value_far : (p x q : ℕ) → value_at n s p ≡ got x q → (q ≡ p + 2) × (q ≤ length s)
  unfolding value_at
  value_far p x q e =
      let w = next_got (below_at n s p) _ e in
      let v = next_got (below_at (2 * values_in s w.0) s w.1) _ w.3 in
      let first = number_got n s p w.0 w.1 w.2 in
      let then = number_got (2 * values_in s w.0) s w.1 v.0 v.1 v.2 in
      let a = first.2 in let b = then.2 in let c = then.0 in let d = got_place v.3 in
      (omega arith, omega arith)

  entry_far : (p : ℕ) (before : List ℕ) (x q : ℕ) → value_entry_at n s p before ≡ got x q → (q ≡ p + 2) × (q ≤ length s)
  unfolding value_entry_at
  entry_far p before x q e =
      let w = next_got (value_at n s p) _ e in
      let far = value_far p w.0 w.1 w.2 in
      pick-cases _ _ _ w.3 (λ _ f. absurd (fault≢got f)) λ _ g.
      pick-cases _ _ _ g (λ _ i. subst (λ (r : ℕ). (r ≡ p + 2) × (r ≤ length s)) (got_place i) far) (λ _ f. absurd (fault≢got f))

  entries_far : (left p : ℕ) (before xs : List ℕ) (q : ℕ) → p ≤ length s → value_entries_at n s left p before ≡ got xs q → (q ≡ p + 2 * length xs) × (q ≤ length s)
  unfolding value_entries_at
  entries_far zero p before xs q h e = let none = ap length (got_same e) in let place = got_place e in (omega (arith, none, place), omega (arith, place))
  entries_far (suc left) p before xs q h e =
      let w = next_got (value_entry_at n s p before) _ e in
      let v = next_got (value_entries_at n s left w.1 (w.0 ∷ before)) _ w.3 in
      let first = entry_far p before w.0 w.1 w.2 in
      let rest = entries_far left w.1 (w.0 ∷ before) v.0 v.1 first.1 v.2 in
      let long = ap length (got_same v.3) in let place = got_place v.3 in
      let a = first.0 in let b = rest.0 in let c = rest.1 in
      (omega (arith, long, place, a, b), omega (arith, place, c))

  pub value_list_far : (most p : ℕ) (xs : List ℕ) (q : ℕ) → value_list_at n most s p ≡ got xs q → (q ≡ p + (1 + 2 * length xs)) × (q ≤ length s)
  unfolding value_list_at
  value_list_far most p xs q e =
      let w = next_got (count_at 0 most s p) _ e in
      let count = count_got 0 most s p w.0 w.1 w.2 in
      let a = count.2 in let b = count.0 in
      let rest = entries_far w.0 w.1 [] xs q (omega arith) w.3 in
      let c = rest.0 in
      (omega arith, rest.1)

-- HOW MANY VALUES each fluent has, once their numbers are read.
pub counts_within : (left : ℕ) (s : List ℕ) (p : ℕ) (cs : List ℕ) (q : ℕ) → value_counts_at left s p ≡ got cs q → (i : ℕ) → i < left → (2 ≤ get_or s (p + i) 0) × (get_or s (p + i) 0 ≤ 16)
unfolding value_counts_at
counts_within zero s p cs q e i h = absurd (omega arith)
counts_within (suc left) s p cs q e zero h =
    let w = next_got (count_at 2 16 s p) _ e in
    let is = (count_got 2 16 s p w.0 w.1 w.2).1 in
    let most = count_within 2 16 s p w.0 w.1 w.2 in
    let least = count_least 2 16 s p w.0 w.1 w.2 in
    let same : get_or s (p + 0) 0 ≡ w.0 = ap (λ (j : ℕ). get_or s j 0) (omega arith) ∙ is in
    (omega arith, omega arith)
counts_within (suc left) s p cs q e (suc i) h =
    let w = next_got (count_at 2 16 s p) _ e in
    let v = next_got (value_counts_at left s w.1) _ w.3 in
    let after = (count_got 2 16 s p w.0 w.1 w.2).2 in
    let rest = counts_within left s w.1 v.0 v.1 v.2 i (omega arith) in
    let same : get_or s (w.1 + i) 0 ≡ get_or s (p + suc i) 0 = ap (λ (j : ℕ). get_or s j 0) (omega arith) in
    (omega (arith, rest.0, same), omega (arith, rest.1, same))

pub counts_far : (left : ℕ) (s : List ℕ) (p : ℕ) (cs : List ℕ) (q : ℕ) → value_counts_at left s p ≡ got cs q → q ≡ p + left
unfolding value_counts_at
counts_far zero s p cs q e = let place = got_place e in omega arith
counts_far (suc left) s p cs q e =
    let w = next_got (count_at 2 16 s p) _ e in
    let v = next_got (value_counts_at left s w.1) _ w.3 in
    let after = (count_got 2 16 s p w.0 w.1 w.2).2 in
    let rest = counts_far left s w.1 v.0 v.1 v.2 in
    let place = got_place v.3 in
    omega arith

pub few_counted : (n : ℕ) (s : List ℕ) → get_or s 0 0 ≡ n → (q : ℕ) → q ≡ 1 → (cs : List ℕ) (v : ℕ) → value_counts_at n s q ≡ got cs v → FewValues s
unfolding values_in
few_counted n s first q place cs v e =
    record {
      each = λ f.
          by-test (ltb f (get_or s 0 0))
          (λ near.
          let below : f < n = subst (λ (m : ℕ). f < m) first (ltb-true f (get_or s 0 0) near) in
          let most = (counts_within n s q cs v e f below).1 in
          subst (λ (x : ℕ). x ≤ 16) (sym (pick_true _ _ _ near ∙ ap (λ (i : ℕ). get_or s (i + f) 0) (sym place))) most)
          (λ far. subst (λ (x : ℕ). x ≤ 16) (sym (pick_false _ _ _ far)) (omega arith));
    }

pub few_read : (n : ℕ) (s : List ℕ) → get_or s 0 0 ≡ n → (q : ℕ) → q ≡ 1 → (v : ℕ) → values_first Valued n s q ≡ got tt v → FewValues s
unfolding values_first
few_read n s first q place v e = let w = next_got (value_counts_at n s q) _ e in few_counted n s first q place w.0 w.1 w.2
