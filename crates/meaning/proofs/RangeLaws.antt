-- What reading guarantees of a table: the fluents are within their limit, every literal and fluent of its lines is below the bound it was
-- read with, and neither among the facts nor in a body a literal stands beside its complement. Each reader that gives something has passed its
-- own tests, and lists ascend, so a complement could only come next. Assumes nothing.
use Prim.Native.Nat.{ℕ, zero, suc, ◌+◌, ◌-◌, ◌*◌, ◌%◌, ◌≤◌, ◌<◌}
use native.Mathlib.Omega.{arith}
use mathlib.Core.Path.{◌≡◌, sym, ◌∙◌, ap, subst}
use mathlib.Core.Bool.{Bool, false}
use mathlib.Core.List.{List, ◌∷◌}
use mathlib.Core.Logic.{◌⊎◌, inl, inr, ⊎_elim}
use lib.ListN.{length, get_or}
use lib.Dec.{eqb}
use borrow.Author.Tests.{ltb-false, leb-false, lt-ltb, eq-eqb, eqb-true, eqb-false}
use Rattle.meaning.specs.Tests.{both, pick, Has}
use Rattle.meaning.specs.Limits.{Limits}
use Rattle.meaning.specs.Literals.{complement}
use Rattle.meaning.specs.Requests.{Effect, Executability, Knowledge, Table, Request}
use Rattle.meaning.specs.Reading.{Flags, Got, got, fault, next, byte_at, count_at, below_at, literals, fluents, bound_of, have_complements, entry_at, entries_at, list_at, repeated, section_at, body_at, effect_at, executability_at, knowledge_at, plan_at, table_at, request_at, read_request}
use Rattle.meaning.proofs.TestLaws.{by-test, clash, both_true, either_left, either_right, pick-cases}
use Rattle.meaning.proofs.SettledLaws.{fault≢got, got_same, next_got}
use Rattle.meaning.proofs.LiteralLaws.{complement_even, complement_odd, complement_twice, complement_other}

-- What gives something behind a refusal has not been refused.
module _ {A : Type 0} where
  pub not_refused : (b : Bool) (n i : ℕ) (k : Unit {0} → Got A) {x : A} {p : ℕ} → pick b (λ _. fault n i) k ≡ got x p → (b ≡ false) × (k tt ≡ got x p)
  not_refused b n i k e = pick-cases b _ _ e (λ _ r. absurd (fault≢got r)) (λ f r. (f, r))

module _ {A B C : Type 0} where
  -- From what gives something after a first part, by that part.
  pub after_got : (m : Got A) (k : A → ℕ → Got B) {x : B} {p : ℕ} → next m k ≡ got x p → ((a : A) (q : ℕ) → m ≡ got a q → k a q ≡ got x p → C) → C
  after_got m k e f = let w = next_got m k e in f w.0 w.1 w.2 w.3

-- WHAT STANDS where a byte was read.
module _ {A : Type 0} where
  pub got_place : {x y : A} {p q : ℕ} → got x p ≡ got y q → p ≡ q
  got_place {x = x} e = ap place e
    where
      place : Got A → ℕ
      place (got y q) = q
      place (fault n i) = i

pub byte_got : (s : List ℕ) (p x q : ℕ) → byte_at s p ≡ got x q → (p < length s) × (get_or s p 0 ≡ x) × (p + 1 ≡ q)
unfolding byte_at
byte_got s p x q e = let u = not_refused _ _ _ _ e in (leb-false (length s) p u.0, got_same u.1, got_place u.1)

-- NUMBERS.
pub count_within : (least most : ℕ) (s : List ℕ) (p c q : ℕ) → count_at least most s p ≡ got c q → c ≤ most
unfolding count_at
count_within least most s p c q e =
    after_got (byte_at s p) _ e λ d _ _ e'.
    let u = not_refused _ _ _ _ e' in
    subst (λ (x : ℕ). x ≤ most) (got_same u.1) (ltb-false most d (by-test _ (λ t. clash (either_right _ _ t) u.0) (λ f. f)))

pub count_least : (least most : ℕ) (s : List ℕ) (p c q : ℕ) → count_at least most s p ≡ got c q → least ≤ c
unfolding count_at
count_least least most s p c q e =
    after_got (byte_at s p) _ e λ d _ _ e'.
    let u = not_refused _ _ _ _ e' in
    subst (λ (x : ℕ). least ≤ x) (got_same u.1) (ltb-false d least (by-test _ (λ t. clash (either_left _ _ t) u.0) (λ f. f)))

pub below_bound : (bound : ℕ) (s : List ℕ) (p x q : ℕ) → below_at bound s p ≡ got x q → x < bound
unfolding below_at
below_bound bound s p x q e =
    after_got (byte_at s p) _ e λ d _ _ e'.
    let u = not_refused _ _ _ _ e' in
    subst (λ (y : ℕ). y < bound) (got_same u.1) (leb-false bound d u.0)

-- LISTS OF LITERALS. The floor is one more than the entry before: what follows is not below it, and is not that entry's complement.
pub record Above (floor y : ℕ) : Type 0 where
  pub least : floor ≤ y
  pub apart : 0 < floor → y ≡ complement (floor - 1) → ⊥

pub complement_near : (l : ℕ) → complement l ≤ l + 1
complement_near l =
    by-test (eqb (l % 2) 0)
    (λ t. let q = complement_even l (eqb-true _ _ t) in omega arith)
    (λ u. let q = complement_odd l (eqb-false _ _ u) in omega arith)

module _ (n : ℕ) (s : List ℕ) where
  pub entry_above : (p floor x q : ℕ) → entry_at literals n s p floor ≡ got x q → (x < 2 * n) × Above floor x
  unfolding entry_at have_complements bound_of both
  entry_above p floor x q e =
      after_got (below_at (2 * n) s p) _ e λ y r below e'.
      let u = not_refused _ _ _ _ e' in
      let v = not_refused _ _ _ _ u.1 in
      subst (λ (z : ℕ). (z < 2 * n) × Above floor z) (got_same v.1) (
        below_bound (2 * n) s p y r below,
        record { least = ltb-false y floor u.0; apart = λ some same. clash (both_true _ _ (lt-ltb 0 floor some) (eq-eqb _ _ same)) v.0 },
      )

  entries_above : (left p floor : ℕ) (xs : List ℕ) (q : ℕ) → entries_at literals n s left p floor ≡ got xs q → (y : ℕ) → Has xs y → (y < 2 * n) × Above floor y
  unfolding entries_at
  entries_above zero p floor xs q e y h = absurd (subst (λ (ys : List ℕ). Has ys y) (sym (got_same e)) h)
  entries_above (suc left) p floor xs q e y h =
      after_got (entry_at literals n s p floor) _ e λ x i ex e'.
      after_got (entries_at literals n s left i (x + 1)) _ e' λ ys j eys e''.
      let first = entry_above p floor x i ex in
      ⊎_elim (λ here. rw here first)
      (λ later. after first (entries_above left i (x + 1) ys j eys y later))
      (subst (λ (zs : List ℕ). Has zs y) (sym (got_same e'')) h)
    where
      after : {x : ℕ} → (x < 2 * n) × Above floor x → (y < 2 * n) × Above (x + 1) y → (y < 2 * n) × Above floor y
      after {x} f a =
          let i = f.1.least in
          let j = a.1.least in
          let k = complement_near (floor - 1) in
          (a.0, record { least = omega arith; apart = λ some same. omega arith })

  entries_consistent : (left p floor : ℕ) (xs : List ℕ) (q : ℕ) → entries_at literals n s left p floor ≡ got xs q → (l : ℕ) → Has xs l → Has xs (complement l) → ⊥
  unfolding entries_at
  entries_consistent zero p floor xs q e l h k = absurd (subst (λ (ys : List ℕ). Has ys l) (sym (got_same e)) h)
  entries_consistent (suc left) p floor xs q e l h k =
      after_got (entry_at literals n s p floor) _ e λ x i _ e'.
      after_got (entries_at literals n s left i (x + 1)) _ e' λ ys j eys e''.
      let back : (z : ℕ) → Has xs z → Has (x ∷ ys) z = λ z m. subst (λ (zs : List ℕ). Has zs z) (sym (got_same e'')) m in
      among_two x ys (entries_above left i (x + 1) ys j eys) (entries_consistent left i (x + 1) ys j eys l) (back l h) (back (complement l) k)
    where
      among_two : (x : ℕ) (ys : List ℕ) → ((y : ℕ) → Has ys y → (y < 2 * n) × Above (x + 1) y)
          → (Has ys l → Has ys (complement l) → ⊥)
          → (l ≡ x) ⊎ Has ys l → (complement l ≡ x) ⊎ Has ys (complement l) → ⊥
      among_two x ys above ih (inl a) (inl b) = complement_other l (b ∙ sym a)
      among_two x ys above ih (inl a) (inr b) = (above (complement l) b).1.apart (omega arith) (ap complement (omega arith))
      among_two x ys above ih (inr a) (inl b) = (above l a).1.apart (omega arith) (sym (complement_twice l) ∙ ap complement (omega arith))
      among_two x ys above ih (inr a) (inr b) = ih a b

-- No literal stands beside its complement.
abbrev pub Consistent : List ℕ → Type 0
Consistent ls = (l : ℕ) → Has ls l → Has ls (complement l) → ⊥

-- A list of literals that was read is within its fluents, and holds no literal beside its complement.
pub list_within : (n most : ℕ) (s : List ℕ) (p : ℕ) (xs : List ℕ) (q : ℕ) → list_at literals n most s p ≡ got xs q → (l : ℕ) → Has xs l → l < 2 * n
unfolding list_at
list_within n most s p xs q e l h = after_got (count_at 0 most s p) _ e λ c i _ entries. (entries_above n s c i 0 xs q entries l h).0

pub list_consistent : (n most : ℕ) (s : List ℕ) (p : ℕ) (xs : List ℕ) (q : ℕ) → list_at literals n most s p ≡ got xs q → Consistent xs
unfolding list_at
list_consistent n most s p xs q e = after_got (count_at 0 most s p) _ e λ c i _ entries. entries_consistent n s c i 0 xs q entries

-- LINES. Each line was read somewhere.
module _ {A : Type 0} (line : ℕ → Got A) where
  pub line_read : (left p : ℕ) (xs : List A) (q : ℕ) → repeated line left p ≡ got xs q → (x : A) → Has xs x → (i j : ℕ) × (line i ≡ got x j)
  unfolding repeated
  line_read zero p xs q e x h = absurd (subst (λ (ys : List A). Has ys x) (sym (got_same e)) h)
  line_read (suc left) p xs q e x h =
      after_got (line p) _ e λ y i ey e'.
      after_got (repeated line left i) _ e' λ ys j eys e''.
      ⊎_elim (λ here. (p, i, rw here ey)) (line_read left i ys j eys x) (subst (λ (zs : List A). Has zs x) (sym (got_same e'')) h)

  pub repeated_length : (left p : ℕ) (xs : List A) (q : ℕ) → repeated line left p ≡ got xs q → length xs ≡ left
  unfolding repeated
  repeated_length zero p xs q e = ap length (sym (got_same e))
  repeated_length (suc left) p xs q e =
      after_got (line p) _ e λ x i _ e'.
      after_got (repeated line left i) _ e' λ ys j eys e''.
      ap length (sym (got_same e'')) ∙ ap suc (repeated_length left i ys j eys)

  pub section_read : (s : List ℕ) (p : ℕ) (xs : List A) (q : ℕ) → section_at line s p ≡ got xs q → (x : A) → Has xs x → (i j : ℕ) × (line i ≡ got x j)
  unfolding section_at
  section_read s p xs q e = after_got (byte_at s p) _ e λ c i _ e'. line_read c i xs q e'

module _ (lim : Limits) (n m : ℕ) (s : List ℕ) where
  effect_within : (p : ℕ) (x : Effect) (q : ℕ) → effect_at lim Flags n m s p ≡ got x q → (x.literal < 2 * n) × ((l : ℕ) → Has x.body l → l < 2 * n) × Consistent x.body
  unfolding effect_at body_at
  effect_within p x q e =
      after_got (below_at m s p) _ e λ a i _ e'.
      after_got (below_at (2 * n) s i) _ e' λ l j below e''.
      after_got (body_at lim Flags n s j) _ e'' λ b k eb same.
      subst (λ (y : Effect). (y.literal < 2 * n) × ((l : ℕ) → Has y.body l → l < 2 * n) × Consistent y.body) (got_same same)
      (below_bound (2 * n) s i l j below, list_within n lim.body s j b k eb, list_consistent n lim.body s j b k eb)

  executability_within : (p : ℕ) (x : Executability) (q : ℕ) → executability_at lim Flags n m s p ≡ got x q → ((l : ℕ) → Has x.body l → l < 2 * n) × Consistent x.body
  unfolding executability_at body_at
  executability_within p x q e =
      after_got (below_at m s p) _ e λ a i _ e'.
      after_got (body_at lim Flags n s i) _ e' λ b k eb same.
      subst (λ (y : Executability). ((l : ℕ) → Has y.body l → l < 2 * n) × Consistent y.body) (got_same same)
      (list_within n lim.body s i b k eb, list_consistent n lim.body s i b k eb)

  knowledge_within : (p : ℕ) (x : Knowledge) (q : ℕ) → knowledge_at lim n m s p ≡ got x q → x.fluent < n
  unfolding knowledge_at
  knowledge_within p x q e =
      after_got (below_at m s p) _ e λ a i _ e'.
      after_got (below_at n s i) _ e' λ f j below same.
      subst (λ (y : Knowledge). y.fluent < n) (got_same same) (below_bound n s i f j below)

-- What reading guarantees of a table.
pub record Ranged (lim : Limits) (t : Table) : Type 0 where
  pub fluents : t.fluents ≤ lim.fluents
  pub facts : (l : ℕ) → Has t.facts l → l < 2 * t.fluents
  pub consistent : Consistent t.facts
  pub effects : (e : Effect) → Has t.effects e → e.literal < 2 * t.fluents
  pub bodies : (e : Effect) → Has t.effects e → (l : ℕ) → Has e.body l → l < 2 * t.fluents
  pub effects_consistent : (e : Effect) → Has t.effects e → Consistent e.body
  pub lines : (x : Executability) → Has t.executability x → (l : ℕ) → Has x.body l → l < 2 * t.fluents
  pub lines_consistent : (x : Executability) → Has t.executability x → Consistent x.body
  pub knowledge : (k : Knowledge) → Has t.knowledge k → k.fluent < t.fluents

pub table_ranged : (lim : Limits) (s : List ℕ) (p : ℕ) (t : Table) (q : ℕ) → table_at lim Flags s p ≡ got t q → Ranged lim t
unfolding table_at
table_ranged lim s p t q e =
    after_got (count_at 1 lim.fluents s p) _ e λ n p₁ en e₁.
    after_got (count_at 1 lim.actions s p₁) _ e₁ λ m p₂ _ e₂.
    after_got (list_at literals n lim.listed s p₂) _ e₂ λ facts p₃ ef e₃.
    after_got (section_at (effect_at lim Flags n m s) s p₃) _ e₃ λ effects p₄ ee e₄.
    after_got (section_at (executability_at lim Flags n m s) s p₄) _ e₄ λ executability p₅ ex e₅.
    after_got (section_at (knowledge_at lim n m s) s p₅) _ e₅ λ knowledge p₆ ek same.
    subst (Ranged lim) (got_same same)
    (record {
      fluents = count_within 1 lim.fluents s p n p₁ en;
      facts = list_within n lim.listed s p₂ facts p₃ ef;
      consistent = list_consistent n lim.listed s p₂ facts p₃ ef;
      effects = λ g h. let w = section_read (effect_at lim Flags n m s) s p₃ effects p₄ ee g h in (effect_within lim n m s w.0 g w.1 w.2).0;
      bodies = λ g h. let w = section_read (effect_at lim Flags n m s) s p₃ effects p₄ ee g h in (effect_within lim n m s w.0 g w.1 w.2).1;
      effects_consistent = λ g h. let w = section_read (effect_at lim Flags n m s) s p₃ effects p₄ ee g h in (effect_within lim n m s w.0 g w.1 w.2).2;
      lines = λ x h. let w = section_read (executability_at lim Flags n m s) s p₄ executability p₅ ex x h in (executability_within lim n m s w.0 x w.1 w.2).0;
      lines_consistent = λ x h. let w = section_read (executability_at lim Flags n m s) s p₄ executability p₅ ex x h in (executability_within lim n m s w.0 x w.1 w.2).1;
      knowledge = λ k h. let w = section_read (knowledge_at lim n m s) s p₅ knowledge p₆ ek k h in knowledge_within lim n m s w.0 k w.1 w.2;
    })

-- A request that was read has such a table.
pub read_ranged : (lim : Limits) (b : List ℕ) (r : Request) (e : ℕ) → read_request lim Flags b ≡ got r e → Ranged lim r.table
unfolding read_request request_at
read_ranged lim b r e reads =
    after_got (table_at lim Flags b 0) _ (not_refused _ _ _ _ reads).1 λ t p₁ et e₁.
    after_got (request_at lim Flags b t p₁) _ e₁ λ q p₂ eq e₂.
    after_got (plan_at lim Flags t.fluents t.actions b p₁) _ eq λ plan p₃ _ e₃.
    after_got (list_at literals t.fluents lim.listed b p₃) _ e₃ λ goals p₄ _ e₄.
    after_got (list_at fluents t.fluents lim.listed b p₄) _ e₄ λ whether p₅ _ same.
    subst (λ (x : Request). Ranged lim x.table) (got_same same ∙ got_same (not_refused _ _ _ _ e₂).1) (table_ranged lim b 0 t p₁ et)
