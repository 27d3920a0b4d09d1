-- What reading guarantees of a values request, so that what is said of its worlds is not said of none (FORMAT 26.3, 26.11): every fluent has at least two values, and each
-- list leaves every fluent one that satisfies all that it says; so some world has the initial facts. Each reader that gives something has passed its tests. Assumes nothing.
use Prim.Native.Nat.{ℕ, zero, suc, ◌+◌, ◌≤◌, ◌<◌}
use native.Mathlib.Omega.{arith}
use native.Mathlib.Decide.{ℕ_discrete}
use mathlib.Core.Path.{◌≡◌, refl, sym, ◌∙◌, subst}
use mathlib.Core.Bool.{true}
use mathlib.Core.List.{List, [], ◌∷◌}
use mathlib.Core.Logic.{◌⊎◌, inl, inr, ⊎_elim}
use lib.ListN.{get_or}
use lib.Dec.{ltb, eqb}
use borrow.Author.Tests.{ltb-true, eq-eqb, ne_eqb}
use Rattle.meaning.specs.declared.Form.TheVariants.{Valued}
use Rattle.meaning.specs.Tests.{either, fails, each_of, Has}
use Rattle.meaning.specs.Limits
use Rattle.meaning.specs.Limits.{Limits}
use Rattle.meaning.specs.Requests.{Table, Request}
use Rattle.meaning.specs.Reading.{got, byte_at, count_at, fluents, list_at, values_in, literals_in, value_at, leaves_one, value_entry_at, value_entries_at, value_list_at, value_counts_at, section_at, effect_at, executability_at, knowledge_at, plan_at, table_at, request_at, read_request}
use Rattle.meaning.specs.Values.{values_of, fits}
use Rattle.meaning.specs.ValueWorlds.{World, Within, holds, Facts}
use Rattle.meaning.specs.Valued.{settled_values}
use Rattle.meaning.proofs.TestLaws.{by-test, clash, both_true, either_left, either_split, fails_true, fails_false, pick_true, pick_false, pick-cases, some_has, each_has, has_each}
use Rattle.meaning.proofs.SettledLaws.{fault≢got, got_same}
use Rattle.meaning.proofs.RangeLaws.{not_refused, after_got, got_place, byte_got, count_least}
use Rattle.meaning.proofs.ValueLaws.{has_numbers, numbers_has}
use Rattle.demands.proofs.ValuesSound.{values_settled_is}

-- COUNTS. A count is the byte at its place.
count_there : (least most : ℕ) (s : List ℕ) (p c q : ℕ) → count_at least most s p ≡ got c q → (get_or s p 0 ≡ c) × (p + 1 ≡ q)
unfolding count_at
count_there least most s p c q e =
    after_got (byte_at s p) _ e λ d i ed e'.
    let b = byte_got s p d i ed in
    let u = not_refused _ _ _ _ e' in
    (b.1 ∙ got_same u.1, b.2 ∙ got_place u.1)

counts_least : (left : ℕ) (s : List ℕ) (p : ℕ) (cs : List ℕ) (q : ℕ) → value_counts_at left s p ≡ got cs q → (i : ℕ) → i < left → 2 ≤ get_or s (p + i) 0
unfolding value_counts_at
counts_least zero s p cs q e i less = absurd (omega arith)
counts_least (suc left) s p cs q e i less =
    after_got (count_at Limits.fewest_values Limits.most_values s p) _ e λ c j ec e'.
    after_got (value_counts_at left s j) _ e' λ ds k ed _.
    let here = count_there Limits.fewest_values Limits.most_values s p c j ec in
    let low = count_least Limits.fewest_values Limits.most_values s p c j ec in
    by_place i less (rw (sym here.0) at low) (λ n h. subst (λ (x : ℕ). 2 ≤ get_or s x 0) (omega (arith, here.1)) (counts_least left s j ds k ed n h))
  where
    by_place : (i : ℕ) → i < suc left → 2 ≤ get_or s p 0 → ((n : ℕ) → n < left → 2 ≤ get_or s (p + suc n) 0) → 2 ≤ get_or s (p + i) 0
    by_place zero less first later = subst (λ (x : ℕ). 2 ≤ get_or s x 0) (omega arith) first
    by_place (suc n) less first later = later n (omega arith)

module _ (s : List ℕ) where
  -- Each list leaves a fluent a value that fits it.
  abbrev LeftBy : List ℕ → ℕ → Type 0
  LeftBy xs f = (v : ℕ) × Has (values_of (literals_in s) f) v × (fits (literals_in s) xs f v ≡ true)

  entry_leaves : (n p : ℕ) (before : List ℕ) (x q : ℕ) → value_entry_at n s p before ≡ got x q → ((f : ℕ) → LeftBy before f) → (f : ℕ) → LeftBy (x ∷ before) f
  unfolding value_entry_at leaves_one fits each_of
  entry_leaves n p before x q e left f =
      after_got (value_at n s p) _ e λ y i _ e'.
      pick-cases _ _ _ (not_refused _ _ _ _ e').1
      (λ t is.
      let same : y ≡ x = got_same is in
      elim (ℕ_discrete f ((literals_in s).fluent x)) [
        | yes here ↦
            let v = some_has _ (values_of (literals_in s) ((literals_in s).fluent y)) t in
            let at_y : LeftBy (y ∷ before) ((literals_in s).fluent y) = (v.0, v.1, v.2) in
            subst (LeftBy (x ∷ before)) (sym here) (subst (λ (z : ℕ). LeftBy (z ∷ before) ((literals_in s).fluent z)) same at_y)
        | no other ↦ let v = left f in (v.0, v.1, both_true _ _ (either_left _ _ (fails_false _ (ne_eqb ((literals_in s).fluent x) f (λ z. other (sym z))))) v.2)
      ])
      (λ _ is. absurd (fault≢got is))

  -- What the entries say of a fluent, with those before them.
  abbrev Leave : (before xs : List ℕ) → ℕ → Type 0
  Leave before xs f = (v : ℕ) × Has (values_of (literals_in s) f) v × ((l : ℕ) → Has before l ⊎ Has xs l → either (fails (eqb ((literals_in s).fluent l) f)) ((literals_in s).satisfied l v) ≡ true)

  entries_leave : (n left p : ℕ) (before : List ℕ) (xs : List ℕ) (q : ℕ) → value_entries_at n s left p before ≡ got xs q → ((f : ℕ) → LeftBy before f) → (f : ℕ) → Leave before xs f
  unfolding value_entries_at fits
  entries_leave n zero p before xs q e leaves f =
      let v = leaves f in
      (v.0, v.1, λ l. ⊎_elim (each_has _ before l v.2) (λ h. absurd (subst (λ (ys : List ℕ). Has ys l) (sym (got_same e)) h)))
  entries_leave n (suc left) p before xs q e leaves f =
      after_got (value_entry_at n s p before) _ e λ x i ex e'.
      after_got (value_entries_at n s left i (x ∷ before)) _ e' λ ys j eys e''.
      let v = entries_leave n left i (x ∷ before) ys j eys (entry_leaves n p before x i ex leaves) f in
      let turned : (l : ℕ) → Has before l ⊎ Has (x ∷ ys) l → Has (x ∷ before) l ⊎ Has ys l = λ l. ⊎_elim (λ h. inl (inr h)) (⊎_elim (λ h. inl (inl h)) (λ h. inr h)) in
      (v.0, v.1, λ l h. v.2 l (turned l (subst (λ (zs : List ℕ). Has before l ⊎ Has zs l) (sym (got_same e'')) h)))

  module _ (counted : (f : ℕ) → 0 < values_in s f) where
    -- Every list of literals that was read leaves each fluent a value (FORMAT 26.11).
    pub list_leaves : (n most p : ℕ) (xs : List ℕ) (q : ℕ) → value_list_at n most s p ≡ got xs q → (f : ℕ) → LeftBy xs f
    unfolding value_list_at fits each_of values_of
    list_leaves n most p xs q e f =
        after_got (count_at 0 most s p) _ e λ c i _ entries.
        let v = entries_leave n c i [] xs q entries (λ g. (0, has_numbers 0 (values_in s g) 0 (omega arith) (let some = counted g in omega (arith, some)), refl)) f in
        (v.0, v.1, has_each _ xs (λ l h. v.2 l (inr h)))

  -- Where a list leaves each fluent a value, some world has it all.
  a_world : (xs : List ℕ) → ((f : ℕ) → LeftBy xs f) → (w : World) × Within (literals_in s) w × (each_of (holds (literals_in s) w) xs ≡ true)
  unfolding holds fits values_of
  a_world xs left = (
    λ f. (left f).0,
    λ f. let below = numbers_has 0 (values_in s f) (left f).0 (left f).1 in omega (arith, below),
    has_each _ xs (λ l h.
        let f = (literals_in s).fluent l in
        ⊎_elim (λ t. clash (eq-eqb f f refl) (fails_true _ t)) (λ t. t) (either_split _ _ (each_has _ xs l (left f).2 h))),
  )

-- A REQUEST THAT WAS READ.
module _ (lim : Limits) (b : List ℕ) (r : Request) (e : ℕ) (reads : read_request lim Valued b ≡ got r e) where
  -- What is so of the counts and the facts that its table was read from.
  from_table : (P : List ℕ → Type 0)
      → ((n m v q u t : ℕ) (cs facts : List ℕ) → count_at 1 lim.fluents b 0 ≡ got n v → value_counts_at n b v ≡ got cs q → value_list_at n lim.listed b u ≡ got facts t → P facts)
      → P r.table.facts
  unfolding read_request request_at table_at
  from_table P so =
      after_got (table_at lim Valued b 0) _ (not_refused _ _ _ _ reads).1 λ t p₁ et e₁.
      after_got (request_at lim Valued b t p₁) _ e₁ λ x p₂ ex e₂.
      after_got (plan_at lim Valued t.fluents t.actions b p₁) _ ex λ plan p₃ _ e₃.
      after_got (value_list_at t.fluents lim.listed b p₃) _ e₃ λ goals p₄ _ e₄.
      after_got (list_at fluents t.fluents lim.listed b p₄) _ e₄ λ whether p₅ _ same.
      after_got (count_at 1 lim.fluents b 0) _ et λ n q₁ en f₁.
      after_got (value_counts_at n b q₁) _ f₁ λ cs q₂ ec f₂.
      after_got (count_at 1 lim.actions b q₂) _ f₂ λ m q₃ _ f₃.
      after_got (value_list_at n lim.listed b q₃) _ f₃ λ facts q₄ ef f₄.
      after_got (section_at (effect_at lim Valued n m b) b q₄) _ f₄ λ effects q₅ _ f₅.
      after_got (section_at (executability_at lim Valued n m b) b q₅) _ f₅ λ executability q₆ _ f₆.
      after_got (section_at (knowledge_at lim n m b) b q₆) _ f₆ λ knowledge q₇ _ same_table.
      subst (λ (z : Request). P z.table.facts) (got_same same ∙ got_same (not_refused _ _ _ _ e₂).1)
      (subst (λ (z : Table). P z.facts) (got_same same_table) (so n m q₁ q₂ q₃ q₄ cs facts en ec ef))

  -- Every fluent has at least two values, and a number that is no fluent has two.
  pub values_least : (f : ℕ) → 2 ≤ values_in b f
  unfolding values_in
  values_least f =
      from_table (λ _. 2 ≤ values_in b f) λ n m v q u t cs facts en ec _.
      let there = count_there 1 lim.fluents b 0 n v en in
      by-test (ltb f (get_or b 0 0))
      (λ less. subst (λ (x : ℕ). 2 ≤ x) (sym (pick_true _ _ _ less))
      (subst (λ (x : ℕ). 2 ≤ get_or b x 0) (omega (arith, there.1)) (counts_least n b v cs q ec f (rw (sym there.0) (ltb-true _ _ less)))))
      (λ more. subst (λ (x : ℕ). 2 ≤ x) (sym (pick_false _ _ _ more)) (omega arith))

  -- Some world gives each fluent one of its values and has the initial facts.
  pub some_world : (w : World) × Facts (literals_in b) r.table w
  some_world =
      let left : (f : ℕ) → LeftBy b r.table.facts f =
      λ f. from_table (λ facts. LeftBy b facts f) (λ n m v q u t cs facts _ _ ef. list_leaves b (λ g. let least = values_least g in omega (arith, least)) n lim.listed u facts t ef f) in
      let w = a_world b r.table.facts left in
      (w.0, (w.1, w.2))

-- So it is of a settled one.
pub settled_some_world : (lim : Limits) (b : List ℕ) (r : Request) (e : ℕ) → settled_values lim b ≡ got r e → (w : World) × Facts (literals_in b) r.table w
settled_some_world lim b r e past = some_world lim b r e (values_settled_is lim b r e past).reads
