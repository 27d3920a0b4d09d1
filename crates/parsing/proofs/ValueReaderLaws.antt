-- Literals of fluents with values, and lists of them: a law for each way that a reader returns, and how its loop goes on. Assumes nothing.
use Prim.Native.Nat.{ℕ, zero, suc, ◌+◌, ◌-◌, ◌*◌, ◌/◌, ◌%◌, ◌^◌, ◌≤◌, ◌<◌}
use native.Mathlib.Omega.{arith}
use native.Mathlib.Nat.{one-mul}
use native.Mathlib.Numerals.{sub-one}
use mir.Syntax.{w8, w64}
use mir.Val.{Fits}
use mathlib.Core.Path.{◌≡◌, sym, ◌∙◌, ap, subst}
use mathlib.Core.Bool.{Bool, true, false}
use mathlib.Core.List.{List, ◌∷◌}
use lib.ListN.{length, get_or, set, get_or-eq_default}
use lib.Dec.{ltb}
use lib.Bits.{bit_and}
use lib.Pow.{shl_exact}
use borrow.Author.Tests.{lt-ltb, le-ltb, eq-eqb, ne_eqb}
use Rattle.std.specs.Prelude.{Ok, Err}
use Rattle.meaning.specs.Tests.{pick, Has}
use Rattle.meaning.specs.Limits.{format}
use Rattle.meaning.specs.Literals.{positive}
use Rattle.meaning.specs.Values.{values_of, numbers}
use Rattle.meaning.specs.Reading.{Got, got, fault, next, count_at, below_at, values_in, value_at, leaves_one, floor_after, value_entry_at, set_value_at, value_counts_at}
use Rattle.meaning.proofs.TestLaws.{pick_true, pick_false, same_test, some_has, has_some}
use Rattle.meaning.proofs.ValueLaws.{numbers_has}
use Rattle.meaning.proofs.SettledLaws.{next_got, got_same}
use Rattle.meaning.proofs.RangeLaws.{below_bound}
use Rattle.parsing.specs.declared.faults.Fault.{Fault}
use Rattle.parsing.specs.declared.faults.Refusal.TheVariants.{NotAbove, ComplementBeside, SaysIsNot}
use Rattle.parsing.specs.Entries.{EntryRead}
use Rattle.parsing.specs.Read.{Numbered, numbered, passed, stopped}
use Rattle.parsing.specs.Masks.{satisfying, some_left, narrowed, Allows, FewValues}
use Rattle.parsing.proofs.ByteLaws.{failing, read_value, stops}
use Rattle.parsing.proofs.ListLaws.{passed_same, whole_stops, entry_refused, entry_taken}
use Rattle.parsing.proofs.MaskLaws.{allows_narrowed}

-- HOW MANY VALUES a fluent has.
module _ (s : List ℕ) (f : ℕ) where
  pub no_byte_at_all : length s ≡ 0 → 2 ≡ values_in s f
  unfolding values_in
  no_byte_at_all e = sym (pick_false _ _ _ (le-ltb f (get_or s 0 0) (subst (λ (x : ℕ). x ≤ f) (sym (get_or-eq_default s 0 {n = 0} (omega arith))) (omega arith))))

  pub no_such_fluent : (n : ℕ) → n ≡ get_or s 0 0 → n ≤ f → 2 ≡ values_in s f
  unfolding values_in
  no_such_fluent n e h = sym (pick_false _ _ _ (le-ltb f (get_or s 0 0) (subst (λ (x : ℕ). x ≤ f) e h)))

  module _ (n : ℕ) (is : n ≡ get_or s 0 0) (near : f < n) where
    counted : values_in s f ≡ get_or s (1 + f) 0
    unfolding values_in
    counted = pick_true _ _ _ (lt-ltb f (get_or s 0 0) (subst (λ (x : ℕ). f < x) is near))

    pub count_missing : length s ≤ f + 1 → 0 ≡ values_in s f
    count_missing h = sym (counted ∙ get_or-eq_default s 0 {n = 1 + f} (omega arith))

    pub count_there : (v : ℕ) → v ≡ get_or s (f + 1) 0 → v ≡ values_in s f
    count_there v e = e ∙ ap (λ (q : ℕ). get_or s q 0) (omega arith) ∙ sym counted

pub byte_small : (s : List ℕ) (i v : ℕ) → v ≡ get_or s i 0 → ((j : ℕ) → Fits w8 (get_or s j 0)) → v < 256
byte_small s i v e bytes = subst (λ (x : ℕ). x < 256) (sym e) (bytes i).fits

-- A LITERAL, byte by byte.
module _ (n : ℕ) (s : List ℕ) (p : ℕ) where
  pub value_fluent_fault : {j e : ℕ} → fault j e ≡ below_at n s p → fault j e ≡ value_at n s p
  unfolding value_at
  value_fluent_fault e = stops (below_at n s p) _ e

  module _ (f q : ℕ) (read : got f q ≡ below_at n s p) where
    pub value_fluent_near : n ≤ format.fluents → f < format.fluents
    value_fluent_near h = let low = below_bound n s p f q (read_value (below_at n s p) read) in omega arith

    module _ (values : ℕ) (so : values ≡ values_in s f) where
      pub value_second_fault : {j e : ℕ} → fault j e ≡ below_at (2 * values) s q → fault j e ≡ value_at n s p
      unfolding value_at next
      value_second_fault e =
          rw (read_value (below_at n s p) read) (stops (below_at (2 * values_in s f) s q) _ (e ∙ ap (λ (v : ℕ). below_at (2 * v) s q) so))

      module _ (b e : ℕ) (read-too : got b e ≡ below_at (2 * values) s q) where
        pub value_whole : got (f * 256 + b) e ≡ value_at n s p
        unfolding value_at next
        value_whole =
            rw (read_value (below_at n s p) read, read_value (below_at (2 * values_in s f) s q) (read-too ∙ ap (λ (v : ℕ). below_at (2 * v) s q) so))

        pub value_high_fits : n ≤ format.fluents → Fits w64 (f * 256)
        value_high_fits h = let near = value_fluent_near h in record { fits = omega arith }

        pub value_fits : n ≤ format.fluents → values < 256 → Fits w64 (f * 256 + b)
        value_fits h low =
            let near = value_fluent_near h in
            let small = below_bound (2 * values) s q b e (read_value (below_at (2 * values) s q) read-too) in
            record { fits = omega arith }

-- WHAT SATISFIES IT.
shifted : (l : ℕ) → l % 256 < 32 → (1 * 2 ^ (l % 256 / 2)) % 2 ^ 16 ≡ 2 ^ (l % 256 / 2)
shifted l h = shl_exact {a = 1} 1 (l % 256 / 2) 16 (omega arith) (omega arith) ∙ one-mul (2 ^ (l % 256 / 2))

pub satisfies_is : (l bit : ℕ) → l % 256 < 32 → bit ≡ (1 * 2 ^ (l % 256 / 2)) % 2 ^ 16 → l % 2 ≡ 0 → bit ≡ satisfying l
unfolding satisfying positive
satisfies_is l bit h e even = e ∙ shifted l h ∙ sym (pick_true _ _ _ (eq-eqb (l % 2) 0 even))

pub satisfies_is_not : (l bit : ℕ) → l % 256 < 32 → bit ≡ (1 * 2 ^ (l % 256 / 2)) % 2 ^ 16 → (l % 2 ≡ 0 → ⊥) → 65535 - bit ≡ satisfying l
unfolding satisfying positive
satisfies_is_not l bit h e odd = ap (λ (x : ℕ). 65535 - x) (e ∙ shifted l h) ∙ sym (pick_false _ _ _ (ne_eqb (l % 2) 0 odd))

-- AN EFFECT'S LITERAL.
module _ (n : ℕ) (s : List ℕ) (p : ℕ) where
  pub set_fault : {j e : ℕ} → fault j e ≡ value_at n s p → fault j e ≡ set_value_at n s p
  unfolding set_value_at
  set_fault e = stops (value_at n s p) _ e

  module _ (x q : ℕ) (read : got x q ≡ value_at n s p) where
    set_rest : set_value_at n s p ≡ pick (positive x) (λ _. got x q) (λ _. fault 46 p)
    unfolding set_value_at next
    set_rest = rw (read_value (value_at n s p) read)

    pub set_is : x % 2 ≡ 0 → got x q ≡ set_value_at n s p
    unfolding positive
    set_is even = sym (set_rest ∙ pick_true _ _ _ (eq-eqb (x % 2) 0 even))

    pub set_is_not : (f : Fault) → (x % 2 ≡ 0 → ⊥) → f ≡ record { refusal = SaysIsNot; place = p } → numbered (Err f) ≡ set_value_at n s p
    unfolding positive
    set_is_not f odd e = ap failing e ∙ sym (set_rest ∙ pick_false _ _ _ (ne_eqb (x % 2) 0 odd))

-- THE NUMBERS OF VALUES.
module _ (s : List ℕ) (p : ℕ) (whole : Got (Unit {0})) where
  pub counts_done : (left : ℕ) → whole ≡ passed (value_counts_at left s p) → left ≡ 0 → got tt p ≡ whole
  unfolding value_counts_at passed
  counts_done zero w h = sym w
  counts_done (suc left) w h = absurd (omega arith)

  pub counts_fault : (count i : ℕ) {j e : ℕ} → whole ≡ passed (value_counts_at (count - i) s p) → i < count → fault j e ≡ count_at 2 16 s p → fault j e ≡ whole
  unfolding value_counts_at
  counts_fault count i w h e = at_left (count - i) (omega arith) w e
    where
      at_left : (left : ℕ) → 0 < left → whole ≡ passed (value_counts_at left s p) → {j e : ℕ} → fault j e ≡ count_at 2 16 s p → fault j e ≡ whole
      at_left zero h w e = absurd (omega arith)
      at_left (suc left) h w e = whole_stops (count_at 2 16 s p) _ e ∙ sym w

  pub counts_next : (count i x q : ℕ) → whole ≡ passed (value_counts_at (count - i) s p) → i < count → got x q ≡ count_at 2 16 s p → whole ≡ passed (value_counts_at (count - (i + 1)) s q)
  unfolding value_counts_at next
  counts_next count i x q w h read = at_left (count - i) (omega arith) w ∙ ap (λ (left : ℕ). passed (value_counts_at left s q)) (omega arith)
    where
      at_left : (left : ℕ) → 0 < left → whole ≡ passed (value_counts_at left s p) → whole ≡ passed (value_counts_at (left - 1) s q)
      at_left zero h w = absurd (omega arith)
      at_left (suc left) h w = w ∙ rw (read_value (count_at 2 16 s p) read, sub-one) (passed_same (value_counts_at left s q) (λ xs. x ∷ xs))

-- NARROWING.
pub narrow_is : (sets : List ℕ) (l left : ℕ) → left ≡ satisfying l → set sets (l / 256) (bit_and (get_or sets (l / 256) 0) left) ≡ narrowed l sets
unfolding narrowed
narrow_is sets l left e = ap (λ (x : ℕ). set sets (l / 256) (bit_and (get_or sets (l / 256) 0) x)) e

-- THE RANGE of a literal that was read.
pub record InRange (x : ℕ) : Type 0 where
  pub near : x < 32768
  pub second : x % 256 < 32

in_range : (n : ℕ) (s : List ℕ) (p x q : ℕ) → n ≤ format.fluents → FewValues s → value_at n s p ≡ got x q → InRange x
unfolding value_at
in_range n s p x q h few e =
    let w = next_got (below_at n s p) _ e in
    let v = next_got (below_at (2 * values_in s w.0) s w.1) _ w.3 in
    let low = below_bound n s p w.0 w.1 w.2 in
    let small = below_bound (2 * values_in s w.0) s w.1 v.0 v.1 v.2 in
    let most = few.each w.0 in
    let is : w.0 * 256 + v.0 ≡ x = got_same v.3 in
    record { near = omega arith; second = omega arith }

module _ (n : ℕ) (s : List ℕ) (p x q : ℕ) (h : n ≤ format.fluents) (few : FewValues s) (read : got x q ≡ value_at n s p) where
  pub value_near : x < 32768
  value_near = (in_range n s p x q h few (read_value (value_at n s p) read)).near

  pub value_second : x % 256 < 32
  value_second = (in_range n s p x q h few (read_value (value_at n s p) read)).second

  pub value_fluent : x / 256 < format.fluents
  value_fluent = let r = in_range n s p x q h few (read_value (value_at n s p) read) in let low = r.near in omega arith

pub few_enough : (s : List ℕ) (f values : ℕ) → FewValues s → values ≡ values_in s f → values ≤ 16
few_enough s f values few e = subst (λ (v : ℕ). v ≤ 16) (sym e) (few.each f)

-- WHAT IS LEFT to the fluent of the last literal is what the list so far leaves it.
left_is : (s before sets : List ℕ) (x : ℕ) → Allows s (x ∷ before) sets → FewValues s → x / 256 < format.fluents → some_left (get_or sets (x / 256) 0) (values_in s (x / 256)) ≡ leaves_one s x (x ∷ before)
unfolding some_left leaves_one values_of
left_is s before sets x so few near =
    same_test _ _
    (λ e. let t = some_has _ (numbers 0 (values_in s (x / 256))) e in
    has_some _ _ t.0 t.1 (sym (so.bits (x / 256) t.0 near (low t.0 t.1)) ∙ t.2))
    (λ e. let t = some_has _ (numbers 0 (values_in s (x / 256))) e in
    has_some _ _ t.0 t.1 (so.bits (x / 256) t.0 near (low t.0 t.1) ∙ t.2))
  where
    low : (v : ℕ) → Has (numbers 0 (values_in s (x / 256))) v → v < 16
    low v there = let below = numbers_has 0 (values_in s (x / 256)) v there in let most = few.each (x / 256) in omega arith

-- AN ENTRY, after those before it, which leave the sets that are kept.
module _ (n : ℕ) (s : List ℕ) (p floor : ℕ) (allowed sets : List ℕ) where
  abbrev Reads : Numbered → Type 0
  Reads = EntryRead (value_entry_at n s p) (λ before. Allows s before allowed) (λ before. Allows s before sets) floor

  pub value_entry_fault : (why : Fault) → stopped why ≡ value_at n s p → Reads (Err why)
  unfolding value_entry_at
  value_entry_fault why e = entry_refused _ _ _ _ why (λ before o a. stops (value_at n s p) _ e)

  module _ (x q : ℕ) (read : got x q ≡ value_at n s p) where
    entry_rest : (before : List ℕ) → value_entry_at n s p before ≡ pick (ltb x (floor_after before)) (λ _. fault 14 p) (λ _. pick (leaves_one s x (x ∷ before)) (λ _. got x q) (λ _. fault 15 p))
    unfolding value_entry_at next
    entry_rest before = rw (read_value (value_at n s p) read)

    pub value_entry_low : (f : Fault) → x < floor → f ≡ record { refusal = NotAbove; place = p } → Reads (Err f)
    value_entry_low f low e = entry_refused _ _ _ _ f (λ before o a. ap failing e ∙ sym (entry_rest before ∙ pick_true _ _ _ (lt-ltb x _ (subst (λ (m : ℕ). x < m) a low))))

    module _ (h : n ≤ format.fluents) (few : FewValues s) (new : sets ≡ narrowed x allowed) (values : ℕ) (so : values ≡ values_in s (x / 256))
        (some : Bool) (told : some ≡ some_left (get_or sets (x / 256) 0) values) (high : floor ≤ x) where
      now_allows : (before : List ℕ) → Allows s before allowed → Allows s (x ∷ before) sets
      now_allows before a =
          let r = in_range n s p x q h few (read_value (value_at n s p) read) in
          subst (Allows s (x ∷ before)) (sym new) (allows_narrowed s before allowed x a r.near r.second)

      left_now : (before : List ℕ) → Allows s before allowed → some ≡ leaves_one s x (x ∷ before)
      left_now before a =
          told ∙ ap (some_left (get_or sets (x / 256) 0)) so
          ∙ left_is s before sets x (now_allows before a) few (value_fluent n s p x q h few read)

      left_rest : (before : List ℕ) → floor ≡ floor_after before → value_entry_at n s p before ≡ pick (leaves_one s x (x ∷ before)) (λ _. got x q) (λ _. fault 15 p)
      left_rest before a = entry_rest before ∙ pick_false _ _ _ (le-ltb x _ (subst (λ (m : ℕ). m ≤ x) a high))

      pub value_entry_none : (f : Fault) → some ≡ false → f ≡ record { refusal = ComplementBeside; place = p } → Reads (Err f)
      value_entry_none f none e = entry_refused _ _ _ _ f (λ before o a. ap failing e ∙ sym (left_rest before a ∙ pick_false _ _ _ (sym (left_now before o) ∙ none)))

      pub value_entry_good : some ≡ true → Reads (Ok (x, q))
      value_entry_good yet =
          entry_taken _ _ _ _ x q (λ before o a. sym (left_rest before a ∙ pick_true _ _ _ (sym (left_now before o) ∙ yet))) now_allows (value_near n s p x q h few read)
