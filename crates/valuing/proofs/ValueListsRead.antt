-- A list of literals of values that was read stands in the input where it was read, and each of its literals leaves its fluent a value: the last literal of a fluent was
-- tested with all before it, and those behind it speak of others. Assumes nothing.
use Prim.Native.Nat.{ℕ, zero, suc, ◌+◌, ◌*◌, ◌/◌, ◌≤◌, ◌<◌}
use native.Mathlib.Omega.{arith}
use mathlib.Core.Path.{◌≡◌, refl, sym, ◌∙◌, ap, subst}
use mathlib.Core.Bool.{true, false}
use mathlib.Core.List.{List, [], ◌∷◌}
use mathlib.Core.Logic.{⊎_elim}
use lib.ListN.{length, get_or}
use lib.Dec.{eqb}
use borrow.Author.Tests.{eqb-true, eq-eqb}
use Rattle.meaning.specs.Tests.{both, some_of, each_of, Has}
use Rattle.meaning.specs.Limits.{format}
use Rattle.meaning.specs.Reading.{got, count_at, below_at, values_in, literals_in, value_at, leaves_one, value_entry_at, value_entries_at, value_list_at}
use Rattle.meaning.specs.Values.{numbers, values_of, fits}
use Rattle.meaning.proofs.TestLaws.{by-test, clash, both_true, both_left, both_right, either_split, pick-cases, some_has, has_some, has_each}
use Rattle.meaning.proofs.SettledLaws.{got_same, fault≢got}
use Rattle.meaning.proofs.RangeLaws.{not_refused, after_got}
use Rattle.parsing.specs.Masks.{FewValues}
use Rattle.reading.specs.Listed.{twos_from, ValuesHere}
use Rattle.reading.proofs.SectionLaws.{got_place, number_got, count_got}
use Rattle.valuing.proofs.TwosLaws.{listed_fluent}
use Rattle.valuing.proofs.LeftLaws.{fits_more}
use Rattle.valuing.proofs.AgreeingLaws.{names, unnamed_fits}

-- ONE LITERAL that was read: its two bytes, a fluent and one of its values, and the place behind them.
pub record ValueRead (n : ℕ) (s : List ℕ) (p x q : ℕ) : Type 0 where
  pub is : get_or s p 0 * 256 + get_or s (p + 1) 0 ≡ x
  pub after : q ≡ p + 2
  pub inside : p + 1 < length s
  pub fluent : get_or s p 0 < n
  pub second : get_or s (p + 1) 0 < 2 * values_in s (get_or s p 0)

module _ (n : ℕ) (s : List ℕ) where
  pub value_read : (p x q : ℕ) → value_at n s p ≡ got x q → ValueRead n s p x q
  unfolding value_at
  value_read p x q e =
      after_got (below_at n s p) _ e λ f i ef e'.
      after_got (below_at (2 * values_in s f) s i) _ e' λ b j eb e''.
      let one = number_got n s p f i ef in
      let two = number_got (2 * values_in s f) s i b j eb in
      let is_f : f ≡ get_or s p 0 = sym one.1 in
      let is_i : i ≡ p + 1 = sym one.2 in
      let is_b : b ≡ get_or s (p + 1) 0 = sym two.1 ∙ ap (λ (k : ℕ). get_or s k 0) is_i in
      let is_j : j ≡ p + 2 = omega (arith, two.2, is_i) in
      let less : get_or s (p + 1) 0 < 2 * values_in s f = subst (λ (k : ℕ). k < 2 * values_in s f) is_b two.3 in
      record {
        is = omega (arith, is_f, is_b, got_same e'');
        after = sym (got_place e'') ∙ is_j;
        inside = subst (λ (k : ℕ). k < length s) is_i two.0;
        fluent = subst (λ (k : ℕ). k < n) is_f one.3;
        second = subst (λ (k : ℕ). get_or s (p + 1) 0 < 2 * values_in s k) is_f less;
      }

  entry_read : (p : ℕ) (before : List ℕ) (x q : ℕ) → value_entry_at n s p before ≡ got x q → ValueRead n s p x q × (leaves_one s x (x ∷ before) ≡ true)
  unfolding value_entry_at
  entry_read p before x q e =
      after_got (value_at n s p) _ e λ y r ey e'.
      let u = not_refused _ _ _ _ e' in
      pick-cases (leaves_one s y (y ∷ before)) _ _ u.1
      (λ t same. subst (λ (z : ℕ). ValueRead n s p z q × (leaves_one s z (z ∷ before) ≡ true)) (got_same same)
      (subst (ValueRead n s p y) (got_place same) (value_read p y r ey), t))
      (λ _ same. absurd (fault≢got same))

  -- The literals stand one behind another, each with a fluent and one of its values.
  abbrev RangedAt : ℕ → Type 0
  RangedAt k = (get_or s k 0 < n) × (get_or s (k + 1) 0 < 2 * values_in s (get_or s k 0))

  record EntriesRead (p left : ℕ) (xs : List ℕ) (q : ℕ) : Type 0 where
    is : twos_from s p left ≡ xs
    after : q ≡ p + 2 * left
    inside : p ≤ length s → q ≤ length s
    ranged : (i : ℕ) → i < left → RangedAt (p + 2 * i)

  ranged_on : (p left : ℕ) → RangedAt p → ((i : ℕ) → i < left → RangedAt (p + 2 + 2 * i)) → (i : ℕ) → i < suc left → RangedAt (p + 2 * i)
  ranged_on p left first later zero h = subst RangedAt (omega arith) first
  ranged_on p left first later (suc i) h = subst RangedAt (omega arith) (later i (omega arith))

  entries_read : (left p : ℕ) (before xs : List ℕ) (q : ℕ) → value_entries_at n s left p before ≡ got xs q → EntriesRead p left xs q
  unfolding value_entries_at twos_from
  entries_read zero p before xs q e =
      let end = got_place e in record { is = got_same e; after = omega arith; inside = λ h. omega arith; ranged = λ i h. absurd (omega arith) }
  entries_read (suc left) p before xs q e =
      after_got (value_entry_at n s p before) _ e λ x i ex e'.
      after_got (value_entries_at n s left i (x ∷ before)) _ e' λ ys j eys e''.
      let one = (entry_read p before x i ex).0 in
      let rest = subst (λ (k : ℕ). EntriesRead k left ys j) one.after (entries_read left i (x ∷ before) ys j eys) in
      let there = one.inside in
      let end = got_place e'' in
      let far = rest.after in
      record {
        is = ap (λ (ls : List ℕ). (get_or s p 0 * 256 + get_or s (p + 1) 0) ∷ ls) rest.is ∙ ap (λ (y : ℕ). y ∷ ys) one.is ∙ got_same e'';
        after = omega arith;
        inside = λ _. subst (λ (k : ℕ). k ≤ length s) end (rest.inside (omega arith));
        ranged = ranged_on p left (one.fluent, one.second) rest.ranged;
      }

  -- Each fluent that the entries name is left a value, by those before them too.
  abbrev LeftOne : (before xs : List ℕ) (fluent : ℕ) → Type 0
  LeftOne before xs f = some_of (λ (v : ℕ). both (fits (literals_in s) before f v) (fits (literals_in s) xs f v)) (numbers 0 (values_in s f)) ≡ true

  left_later : (x : ℕ) (before ys : List ℕ) (f : ℕ) → LeftOne (x ∷ before) ys f → LeftOne before (x ∷ ys) f
  left_later x before ys f e =
      let t = some_has _ (numbers 0 (values_in s f)) e in
      let v = t.0 in
      let fit = sym (fits_more s x before f v) ∙ both_left _ _ t.2 in
      has_some _ (numbers 0 (values_in s f)) v t.1 (both_true _ _ (both_right _ _ fit) (fits_more s x ys f v ∙ both_true _ _ (both_left _ _ fit) (both_right _ _ t.2)))

  left_last : (x : ℕ) (before ys : List ℕ) (f : ℕ) → x / 256 ≡ f → leaves_one s x (x ∷ before) ≡ true → names s ys f ≡ false → LeftOne before (x ∷ ys) f
  unfolding leaves_one values_of
  left_last x before ys f is e none =
      let own = subst (λ (g : ℕ). some_of (fits (literals_in s) (x ∷ before) g) (numbers 0 (values_in s g)) ≡ true) is e in
      let t = some_has _ (numbers 0 (values_in s f)) own in
      left_later x before ys f (has_some _ (numbers 0 (values_in s f)) t.0 t.1 (both_true _ _ t.2 (unnamed_fits s ys f t.0 none)))

  entries_leave : (left p : ℕ) (before xs : List ℕ) (q : ℕ) → value_entries_at n s left p before ≡ got xs q → (f : ℕ) → names s xs f ≡ true → LeftOne before xs f
  unfolding value_entries_at names some_of
  entries_leave zero p before xs q e f named = clash (ap (λ (ls : List ℕ). names s ls f) (got_same e) ∙ named) refl
  entries_leave (suc left) p before xs q e f named =
      after_got (value_entry_at n s p before) _ e λ x i ex e'.
      after_got (value_entries_at n s left i (x ∷ before)) _ e' λ ys j eys e''.
      subst (λ (ls : List ℕ). LeftOne before ls f) (got_same e'')
      (step x ys (entry_read p before x i ex).1 (entries_leave left i (x ∷ before) ys j eys f) (ap (λ (ls : List ℕ). names s ls f) (got_same e'') ∙ named))
    where
      step : (x : ℕ) (ys : List ℕ) → leaves_one s x (x ∷ before) ≡ true → (names s ys f ≡ true → LeftOne (x ∷ before) ys f) → names s (x ∷ ys) f ≡ true → LeftOne before (x ∷ ys) f
      step x ys own ih some =
          by-test (names s ys f)
          (λ t. left_later x before ys f (ih t))
          (λ none. left_last x before ys f (⊎_elim (eqb-true (x / 256) f) (λ t. clash t none) (either_split (eqb (x / 256) f) (names s ys f) some)) own none)

-- A LIST that was read.
pub record ValueListRead (s : List ℕ) (p : ℕ) (xs : List ℕ) (e : ℕ) : Type 0 where
  pub here : ValuesHere s p
  pub is : twos_from s (p + 1) (get_or s p 0) ≡ xs
  pub after : e ≡ p + 1 + 2 * get_or s p 0
  pub inside : e ≤ length s
  pub leaves : each_of (λ (l : ℕ). leaves_one s l xs) xs ≡ true
  pub near : (l : ℕ) → Has xs l → l / 256 < format.fluents

pub value_list_read : (n most : ℕ) (s : List ℕ) (p : ℕ) (xs : List ℕ) (e : ℕ) → n ≤ format.fluents → FewValues s → value_list_at n most s p ≡ got xs e → ValueListRead s p xs e
unfolding value_list_at leaves_one values_of names fits each_of both
value_list_read n most s p xs e within few reads =
    after_got (count_at 0 most s p) _ reads λ c i ec entries.
    let counted = count_got 0 most s p c i ec in
    let all = subst (λ (k : ℕ). EntriesRead n s k c xs e) (sym counted.2) (entries_read n s c i [] xs e entries) in
    let whole = subst (λ (k : ℕ). EntriesRead n s (p + 1) k xs e) (sym counted.1) all in
    let far = whole.after in
    let start = counted.0 in
    let inside = whole.inside (omega arith) in
    let here : ValuesHere s p = record {
      ends = omega arith;
      fluent = λ k h. let r = whole.ranged k h in let low = r.0 in omega arith;
      second = λ k h.
          let r = whole.ranged k h in
          let few-here = few.each (get_or s (p + 1 + 2 * k) 0) in
          let low = r.1 in
          let same : p + 1 + 2 * k + 1 ≡ p + 2 + 2 * k = omega arith in
          subst (λ (m : ℕ). get_or s m 0 < 32) same (omega arith);
    } in
    record {
      here = here;
      is = whole.is;
      after = far;
      inside = inside;
      leaves = has_each _ xs (λ l has. entries_leave n s c i [] xs e entries (l / 256) (has_some (λ (k : ℕ). eqb (k / 256) (l / 256)) xs l has (eq-eqb (l / 256) (l / 256) refl)));
      near = λ l has. listed_fluent s p here l (subst (λ (ls : List ℕ). Has ls l) (sym whole.is) has);
    }
