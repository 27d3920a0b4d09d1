-- What was read stands in the input where it was read. Assumes nothing.
use Prim.Native.Nat.{ℕ, zero, suc, ◌+◌, ◌*◌, ◌≤◌, ◌<◌}
use native.Mathlib.Omega.{arith}
use mathlib.Core.Path.{◌≡◌, refl, sym, ◌∙◌, ap, subst}
use mathlib.Core.Bool.{true, false}
use mathlib.Core.List.{List}
use lib.ListN.{length, get_or}
use lib.Dec.{eqb}
use borrow.Author.Tests.{eqb-true}
use Rattle.meaning.specs.Tests.{Has}
use Rattle.meaning.specs.Limits.{format, all_literals}
use Rattle.meaning.specs.Literals.{complement, among, exclusive, positive}
use Rattle.meaning.specs.Requests.{Effect}
use Rattle.meaning.specs.Reading
use Rattle.meaning.specs.declared.Form.{Form}
use Rattle.meaning.specs.declared.Form.TheVariants.{Flags, Valued}
use Rattle.meaning.specs.Reading.{got, count_at, below_at, bound_of, literals, entry_at, entries_at, list_at, literals_at, literal_at, value_at, set_value_at, body_at, effect_at}
use Rattle.meaning.proofs.TestLaws.{by-test, pick-cases, some_has}
use Rattle.meaning.proofs.SettledLaws.{got_same, fault≢got}
use Rattle.meaning.proofs.RangeLaws.{not_refused, after_got, list_consistent}
use Rattle.parsing.specs.Masks.{Counted}
use Rattle.reading.specs.Listed.{bytes_from, twos_from, listed, ListHere, listed_as, LiteralsHere}
use Rattle.finding.specs.LinesHere.{literal_from, body_place, LiteralHere, Consistent, effect_from, EffectHere}
use Rattle.reading.proofs.SectionLaws.{got_place, number_got, count_got}
use Rattle.reading.proofs.PlanSizes.{list_through}
use Rattle.valuing.proofs.ValueListsRead.{value_read, value_list_read}

-- LISTS.
pub bytes_length : (s : List ℕ) (k p : ℕ) → length (bytes_from s p k) ≡ k
unfolding bytes_from
bytes_length s zero p = refl
bytes_length s (suc k) p = ap suc (bytes_length s k (p + 1))

module _ (kind : Reading.Kind) (n : ℕ) (s : List ℕ) where
  entry_here : (p floor x q : ℕ) → entry_at kind n s p floor ≡ got x q → (get_or s p 0 ≡ x) × (p + 1 ≡ q) × (x < bound_of kind n)
  unfolding entry_at
  entry_here p floor x q e =
      after_got (below_at (bound_of kind n) s p) _ e λ y r ey e'.
      let u = not_refused _ _ _ _ e' in
      let v = not_refused _ _ _ _ u.1 in
      let w = number_got (bound_of kind n) s p y r ey in
      (w.1 ∙ got_same v.1, w.2 ∙ got_place v.1, subst (λ (z : ℕ). z < bound_of kind n) (got_same v.1) w.3)

  entries_here : (left p floor : ℕ) (xs : List ℕ) (q : ℕ) → entries_at kind n s left p floor ≡ got xs q
      → (bytes_from s p left ≡ xs) × ((i : ℕ) → i < left → get_or s (p + i) 0 < bound_of kind n)
  unfolding entries_at bytes_from
  entries_here zero p floor xs q e = (got_same e, λ i h. absurd (omega arith))
  entries_here (suc left) p floor xs q e =
      after_got (entry_at kind n s p floor) _ e λ x i ex e'.
      after_got (entries_at kind n s left i (x + 1)) _ e' λ ys j eys e''.
      let one = entry_here p floor x i ex in
      let rest = entries_here left i (x + 1) ys j eys in
      (rw (one.1, one.0, rest.0) (got_same e''), below x i one.0 one.1 one.2 rest.1)
    where
      below : (x i : ℕ) → get_or s p 0 ≡ x → p + 1 ≡ i → x < bound_of kind n → ((k : ℕ) → k < left → get_or s (i + k) 0 < bound_of kind n)
          → (k : ℕ) → k < suc left → get_or s (p + k) 0 < bound_of kind n
      below x i is after small later zero h = let same : p + zero ≡ p = omega arith in rw (same, is) small
      below x i is after small later (suc k) h =
          let same : i + k ≡ p + suc k = omega arith in
          subst (λ (j : ℕ). get_or s j 0 < bound_of kind n) same (later k (omega arith))

  pub list_here : (most p : ℕ) (xs : List ℕ) (q : ℕ) → list_at kind n most s p ≡ got xs q → (listed s p ≡ xs) × ((bound : ℕ) → bound_of kind n ≤ bound → ListHere bound s p)
  unfolding list_at listed
  list_here most p xs q e =
      after_got (count_at 0 most s p) _ e λ c i ec e'.
      let counted = count_got 0 most s p c i ec in
      let count = counted.1 in let after = counted.2 in
      let entries = entries_here c i 0 xs q e' in
      let through = (list_through s kind n most p).holds xs q e in
      let sized : length xs ≡ c = ap length (sym entries.0) ∙ bytes_length s c i in
      let ends = through.after in let inside = through.inside in (
        rw (count, after) entries.0,
        λ bound h. record {
          ends = omega arith;
          below = λ k less. let small : get_or s (i + k) 0 < bound_of kind n = entries.1 k (omega arith) in let there : get_or s (p + 1 + k) 0 ≡ get_or s (i + k) 0 = ap (λ (z : ℕ). get_or s (z + k) 0) after in omega arith;
        },
      )

-- No literal stands beside its complement.
pub list_apart : (n most : ℕ) (s : List ℕ) (p : ℕ) (xs : List ℕ) (q : ℕ) → list_at literals n most s p ≡ got xs q → exclusive xs xs ≡ false
unfolding exclusive among
list_apart n most s p xs q e =
    by-test (exclusive xs xs)
    (λ t.
    let u = some_has (λ (l : ℕ). among (complement l) xs) xs t in
    let v = some_has (λ (k : ℕ). eqb (complement u.0) k) xs u.2 in
    let same : complement u.0 ≡ v.0 = eqb-true _ _ v.2 in
    absurd (list_consistent n most s p xs q e u.0 u.1 (subst (Has xs) (sym same) v.1)))
    (λ f. f)

-- A LIST OF LITERALS as the form writes it.
pub record LiteralsRead (form : Form) (s : List ℕ) (p : ℕ) (xs : List ℕ) : Type 0 where
  pub here : LiteralsHere form s p
  pub is : listed_as form s p ≡ xs
  pub apart : Consistent form s xs

pub literals_read : (form : Form) (n most : ℕ) (s : List ℕ) → n ≤ format.fluents → Counted form s → (p : ℕ) (xs : List ℕ) (q : ℕ) → literals_at form n most s p ≡ got xs q → LiteralsRead form s p xs
unfolding bound_of Counted
literals_read Flags n most s few counted p xs q e =
    let list = list_here literals n s most p xs q e in
    record { here = list.1 all_literals (omega (arith, few)); is = list.0; apart = list_apart n most s p xs q e }
literals_read Valued n most s few counted p xs q e =
    let list = value_list_read n most s p xs q few (counted refl) e in
    record { here = list.here; is = list.is; apart = list.leaves }

twos_length : (s : List ℕ) (k p : ℕ) → length (twos_from s p k) ≡ k
unfolding twos_from
twos_length s zero p = refl
twos_length s (suc k) p = ap suc (twos_length s k (p + 2))

pub literals_length : (form : Form) (s : List ℕ) (p : ℕ) → length (listed_as form s p) ≡ get_or s p 0
unfolding listed
literals_length Flags s p = bytes_length s (get_or s p 0) (p + 1)
literals_length Valued s p = twos_length s (get_or s p 0) (p + 1)

-- AN EFFECT'S LITERAL, behind the action at p.
literal_read : (form : Form) (n : ℕ) (s : List ℕ) → n ≤ format.fluents → (p l q : ℕ) → literal_at form n s (p + 1) ≡ got l q → (literal_from form s (p + 1) ≡ l) × (q ≡ body_place form p) × LiteralHere form s (p + 1)
unfolding set_value_at
literal_read Flags n s few p l q e =
    let one = number_got (2 * n) s (p + 1) l q e in
    (one.1, omega (arith, one.2), omega (arith, one.1, one.3, few))
literal_read Valued n s few p l q e =
    after_got (value_at n s (p + 1)) _ e λ x r ex e'.
    pick-cases (positive x) _ _ e'
    (λ even same.
    let one = value_read n s (p + 1) x r ex in
    let far = one.after in
    let low = one.fluent in
    let place = got_place same in (
      one.is ∙ got_same same,
      omega (arith, far, place),
      record { fluent = omega (arith, low, few); second = one.second; says_is = subst (λ (y : ℕ). positive y ≡ true) (sym one.is) even },
    ))
    (λ _ same. absurd (fault≢got same))

-- LINES.
module _ (form : Form) (n m : ℕ) (s : List ℕ) (few : n ≤ format.fluents) (less : m ≤ format.actions) (values : Counted form s) where
  pub effect_here : (p : ℕ) (x : Effect) (q : ℕ) → effect_at format form n m s p ≡ got x q → (effect_from form s x.place ≡ x) × EffectHere form s x.place
  unfolding effect_at effect_from body_at
  effect_here p x q e =
      after_got (below_at m s p) _ e λ a i ea e₁.
      after_got (literal_at form n s i) _ e₁ λ l j el e₂.
      after_got (body_at format form n s j) _ e₂ λ b k eb e₃.
      let first = number_got m s p a i ea in
      let then = literal_read form n s few p l j (subst (λ (z : ℕ). literal_at form n s z ≡ got l j) (sym first.2) el) in
      let body = subst (λ (z : ℕ). LiteralsRead form s z b) then.1 (literals_read form n 16 s few values j b k eb) in
      let is : record { place = p; action = a; literal = l; body = b } ≡ x = got_same e₃ in
      subst (λ (y : Effect). (effect_from form s y.place ≡ y) × EffectHere form s y.place) is (
        rw (first.1, then.0, body.is),
        record {
          action = omega (arith, first.1, first.3);
          literal = then.2;
          body = body.here;
          apart = rw body.is body.apart;
        },
      )
