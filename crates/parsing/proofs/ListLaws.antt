-- Lists: a law for each way that a reader returns, and how its loop goes on. Assumes nothing.
use Prim.Native.Nat.{ℕ, zero, suc, ◌+◌, ◌-◌, ◌*◌, ◌%◌, ◌≤◌, ◌<◌}
use native.Mathlib.Omega.{arith}
use native.Mathlib.Numerals.{sub-one}
use mir.Syntax.{w64}
use mir.Val.{Fits}
use mathlib.Core.Path.{◌≡◌, refl, sym, ◌∙◌, ap, subst}
use mathlib.Core.Bool.{Bool, true, false}
use mathlib.Core.List.{List, [], ◌∷◌}
use lib.Dec.{eqb, ltb}
use borrow.Author.Tests.{ne_eqb, lt-ltb, le-ltb, ltb-true}
use Rattle.std.specs.Prelude.{Ok, Err}
use Rattle.meaning.specs.Tests.{both, pick}
use Rattle.meaning.specs.Limits.{format, all_literals}
use Rattle.meaning.specs.Literals.{complement}
use Rattle.meaning.specs.Reading
use Rattle.meaning.specs.Reading.{Got, got, fault, next, count_at, below_at, bound_of, have_complements, entry_at, entries_at, list_at, floor_after}
use Rattle.meaning.proofs.TestLaws.{by-test, pick_true, pick_false, pick-cases}
use Rattle.meaning.proofs.SettledLaws.{next_got, got_same, fault≢got}
use Rattle.meaning.proofs.RangeLaws.{below_bound}
use Rattle.meaning.proofs.LiteralLaws.{complement_even, complement_odd}
use Rattle.parsing.specs.declared.lists.Kind.{Kind}
use Rattle.parsing.specs.declared.lists.Kind.TheVariants.{Literals, Fluents}
use Rattle.parsing.specs.declared.faults.Fault.{Fault}
use Rattle.parsing.specs.declared.faults.Refusal.TheVariants.{NotAbove, ComplementBeside}
use Rattle.parsing.specs.Entries.{EntryRead}
use Rattle.parsing.specs.Read.{Numbered, Passed, numbered, over, stopped, passed, kind_of, beside_floor}
use Rattle.parsing.proofs.ByteLaws.{failing, read_value, stops, was_read}

pub bound_literals : (k : Kind) (n : ℕ) → k ≡ Literals → 2 * n ≡ bound_of (kind_of k) n
unfolding bound_of kind_of
bound_literals k n e = rw e

pub bound_fluents : (k : Kind) (n : ℕ) → k ≡ Fluents → n ≡ bound_of (kind_of k) n
unfolding bound_of kind_of
bound_fluents k n e = rw e

-- THE COMPLEMENT OF THE ENTRY BEFORE. Where the floor is odd that is the floor, and where it is even it is below it.
pub beside_even : (k : Kind) (floor x : ℕ) → k ≡ Literals → floor ≤ x → floor % 2 ≡ 0 → false ≡ beside_floor (kind_of k) floor x
unfolding beside_floor kind_of have_complements both
beside_even k floor x e h even = rw e (by-test (ltb 0 floor) (λ t. rw t (sym (ne_eqb x (complement (floor - 1)) (λ q. below t q)))) (λ u. rw u))
  where
    below : ltb 0 floor ≡ true → x ≡ complement (floor - 1) → ⊥
    below t q =
        let pos : 0 < floor = ltb-true 0 floor t in
        let c = complement_odd (floor - 1) (λ (z : (floor - 1) % 2 ≡ 0). omega arith) in
        omega arith

pub beside_odd : (k : Kind) (floor x : ℕ) → k ≡ Literals → (floor % 2 ≡ 0 → ⊥) → eqb x floor ≡ beside_floor (kind_of k) floor x
unfolding beside_floor kind_of have_complements both
beside_odd k floor x e odd = rw (e, lt-ltb 0 floor (omega arith)) (ap (eqb x) (sym (complement_even (floor - 1) (omega arith) ∙ omega arith)))

pub beside_never : (k : Kind) (floor x : ℕ) → k ≡ Fluents → false ≡ beside_floor (kind_of k) floor x
unfolding beside_floor kind_of have_complements both
beside_never k floor x e = rw e

-- ENTRIES.
module _ (k : Kind) (n : ℕ) (s : List ℕ) (p floor bound : ℕ) (top : bound ≡ bound_of (kind_of k) n) where
  at_top : {r : Got ℕ} → r ≡ below_at bound s p → r ≡ below_at (bound_of (kind_of k) n) s p
  at_top read = read ∙ ap (λ (b : ℕ). below_at b s p) top

  pub entry_fault : {j e : ℕ} → fault j e ≡ below_at bound s p → fault j e ≡ entry_at (kind_of k) n s p floor
  unfolding entry_at
  entry_fault e = stops (below_at (bound_of (kind_of k) n) s p) _ (at_top e)

  module _ (x q : ℕ) (read : got x q ≡ below_at bound s p) where
    entry_rest : entry_at (kind_of k) n s p floor ≡ pick (ltb x floor) (λ _. fault 14 p) (λ _. pick (beside_floor (kind_of k) floor x) (λ _. fault 15 p) (λ _. got x q))
    unfolding entry_at next beside_floor
    entry_rest = rw (read_value (below_at (bound_of (kind_of k) n) s p) (at_top read))

    pub entry_low : (f : Fault) → x < floor → f ≡ record { refusal = NotAbove; place = p } → numbered (Err f) ≡ entry_at (kind_of k) n s p floor
    entry_low f h e = ap failing e ∙ sym (entry_rest ∙ pick_true _ _ _ (lt-ltb x floor h))

    pub entry_beside : (f : Fault) (b : Bool) → floor ≤ x → b ≡ beside_floor (kind_of k) floor x → b ≡ true → f ≡ record { refusal = ComplementBeside; place = p }
        → numbered (Err f) ≡ entry_at (kind_of k) n s p floor
    entry_beside f b h e t is = ap failing is ∙ sym (entry_rest ∙ pick_false _ _ _ (le-ltb x floor h) ∙ pick_true _ _ _ (sym e ∙ t))

    pub entry_good : (b : Bool) → floor ≤ x → b ≡ beside_floor (kind_of k) floor x → b ≡ false → got x q ≡ entry_at (kind_of k) n s p floor
    entry_good b h e t = sym (entry_rest ∙ pick_false _ _ _ (le-ltb x floor h) ∙ pick_false _ _ _ (sym e ∙ t))

-- WHAT WAS READ is not looked at.
module _ {A B : Type 0} where
  pub passed_same : (m : Got A) (f : A → B) → passed (next m (λ x p. got (f x) p)) ≡ passed m
  unfolding passed next
  passed_same (got x p) f = refl
  passed_same (fault n p) f = refl

-- WHAT A READER PASSED OVER, from what it answered. A fault is that of whatever goes on from there.
ended : Got (Unit {0}) → ℕ
ended (got x p) = p
ended (fault n p) = p

numbered_by : Got (Unit {0}) → ℕ
numbered_by (got x p) = 0
numbered_by (fault n p) = n + 1

module _ {A : Type 0} where
  pub passed_to : (g : Got A) (q : ℕ) → passed g ≡ got tt q → (x : A) × (g ≡ got x q)
  unfolding passed ended
  passed_to (got x p) q e = (x, ap (got x) (ap ended e))
  passed_to (fault n p) q e = absurd (fault≢got e)

  pub passed_fault : (g : Got A) {k q : ℕ} → passed g ≡ fault k q → g ≡ fault k q
  unfolding passed ended numbered_by
  passed_fault (got x p) e = absurd (fault≢got (sym e))
  passed_fault (fault n p) {k = k} e =
      let number : n + 1 ≡ k + 1 = ap numbered_by e in
      let is : n ≡ k = omega arith in
      rw (is, ap ended e)

  pub passed_stop : (g : Got A) (why : Fault) → passed g ≡ stopped why → g ≡ stopped why
  passed_stop g why e = passed_fault g e

-- A fault of a part is the whole's, whatever is passed over.
module _ {A B : Type 0} where
  pub whole_stops : (m : Got A) (rest : A → ℕ → Got B) {k q : ℕ} → fault k q ≡ m → fault k q ≡ passed (next m rest)
  unfolding next passed
  whole_stops m rest e = rw⁻¹ e refl

-- THE LOOP over the entries, of whatever a list holds: what the whole gives is what is left of it, after the entries so far.
pub record Ahead (entries : (left p : ℕ) → List ℕ → Got (List ℕ)) (keeps : List ℕ → Type 0) (whole : Got (Unit {0})) (left p floor : ℕ) : Type 0 where
  pub before : List ℕ
  pub is : whole ≡ passed (entries left p before)
  pub above : floor ≡ floor_after before
  pub kept : keeps before

module _ (entries : (left p : ℕ) → List ℕ → Got (List ℕ)) where
  pub entries_first : (keeps : List ℕ → Type 0) (count start : ℕ) → keeps [] → Ahead entries keeps (passed (entries count start [])) (count - 0) start 0
  unfolding floor_after
  entries_first keeps count start k = record { before = []; is = ap (λ (left : ℕ). passed (entries left start [])) (omega arith); above = refl; kept = k }

  pub entries_over : (keeps : List ℕ → Type 0) (whole : Got (Unit {0})) (count i p floor : ℕ) → ((q : ℕ) (before : List ℕ) → entries zero q before ≡ got [] q)
      → Ahead entries keeps whole (count - i) p floor → count ≤ i → got tt p ≡ whole
  unfolding passed
  entries_over keeps whole count i p floor none a h =
      let over : count - i ≡ zero = omega arith in
      sym (a.is ∙ ap (λ (left : ℕ). passed (entries left p a.before)) over ∙ ap passed (none p a.before))

module _ (entry : ℕ → List ℕ → Got ℕ) (entries : (left p : ℕ) → List ℕ → Got (List ℕ))
    (more : (left p : ℕ) (before : List ℕ) → entries (suc left) p before ≡ next (entry p before) (λ x q. next (entries left q (x ∷ before)) (λ xs r. got (x ∷ xs) r))) where
  -- What is left is one entry and what is left after it.
  one_more : (whole : Got (Unit {0})) (left p : ℕ) (before : List ℕ) → whole ≡ passed (entries left p before) → 0 < left
      → whole ≡ passed (next (entry p before) (λ x q. next (entries (left - 1) q (x ∷ before)) (λ xs r. got (x ∷ xs) r)))
  one_more whole zero p before w h = absurd (omega arith)
  one_more whole (suc left) p before w h = w ∙ ap passed (more left p before) ∙ rw (sub-one) refl

  module _ (old new : List ℕ → Type 0) (whole : Got (Unit {0})) (count i p floor : ℕ) (r : Numbered) (a : Ahead entries old whole (count - i) p floor) (h : i < count) (read : EntryRead (entry p) old new floor r) where
    pub entries_stop : (why : Fault) → r ≡ Err why → over (Err why) ≡ whole
    entries_stop why e =
        whole_stops (entry p a.before) _ (ap numbered (sym e) ∙ read.is a.before a.kept a.above)
        ∙ sym (one_more whole (count - i) p a.before a.is (omega arith))

    pub entries_next : (x q : ℕ) → r ≡ Ok (x, q) → Ahead entries new whole (count - (i + 1)) q (x + 1)
    unfolding floor_after next
    entries_next x q e =
        let one : count - i - 1 ≡ count - (i + 1) = omega arith in
        let is : entry p a.before ≡ got x q = sym (read.is a.before a.kept a.above) ∙ ap numbered e in
        record {
          before = x ∷ a.before;
          is = one_more whole (count - i) p a.before a.is (omega arith)
              ∙ ap (λ (g : Got ℕ). passed (next g λ y t. next (entries (count - i - 1) t (y ∷ a.before)) λ ys u. got (y ∷ ys) u)) is
              ∙ passed_same (entries (count - i - 1) q (x ∷ a.before)) (λ xs. x ∷ xs)
              ∙ ap (λ (left : ℕ). passed (entries left q (x ∷ a.before))) one;
          above = refl;
          kept = read.keeps a.before x q a.kept a.above e;
        }

pub entry_fits : (entry : List ℕ → Got ℕ) (old new : List ℕ → Type 0) (floor : ℕ) (r : Numbered) (x q : ℕ) → EntryRead entry old new floor r → r ≡ Ok (x, q) → Fits w64 (x + 1)
entry_fits entry old new floor r x q read e = let small = read.small x q e in record { fits = omega arith }

-- An entry is below its bound, so one more than it fits.
entry_below : (kind : Reading.Kind) (n : ℕ) (s : List ℕ) (p floor x q : ℕ) → entry_at kind n s p floor ≡ got x q → x < bound_of kind n
unfolding entry_at
entry_below kind n s p floor x q e =
    let w = next_got (below_at (bound_of kind n) s p) _ e in
    pick-cases _ _ _ w.3 (λ _ f. absurd (fault≢got f)) λ _ g.
    pick-cases _ _ _ g (λ _ f. absurd (fault≢got f)) λ _ i.
    subst (λ (y : ℕ). y < bound_of kind n) (got_same i) (below_bound (bound_of kind n) s p w.0 w.1 w.2)

bound_most : (kind : Reading.Kind) (n : ℕ) → n ≤ format.fluents → bound_of kind n ≤ all_literals
unfolding bound_of
bound_most Reading.Kind.literals n h = omega arith
bound_most Reading.Kind.fluents n h = omega arith

-- AN ENTRY that is refused, or taken, whatever is kept.
module _ (entry : List ℕ → Got ℕ) (old new : List ℕ → Type 0) (floor : ℕ) where
  pub entry_refused : (why : Fault) → ((before : List ℕ) → old before → floor ≡ floor_after before → stopped why ≡ entry before) → EntryRead entry old new floor (Err why)
  entry_refused why is = record { is = is; keeps = λ before x p o a e. absurd (fault≢got (ap numbered e)); small = λ x p e. absurd (fault≢got (ap numbered e)) }

  pub entry_taken : (x q : ℕ) → ((before : List ℕ) → old before → floor ≡ floor_after before → got x q ≡ entry before) → ((before : List ℕ) → old before → new (x ∷ before)) → x < 32768
      → EntryRead entry old new floor (Ok (x, q))
  entry_taken x q is keeps small =
      record {
        is = is;
        keeps = λ before y p o a e. subst (λ (z : ℕ). new (z ∷ before)) (got_same (ap numbered e)) (keeps before o);
        small = λ y p e. subst (λ (z : ℕ). z < 32768) (got_same (ap numbered e)) small;
      }

-- LITERALS OF FLAGS, AND FLUENTS. Nothing is kept of the entries but which of the two they are.
pub kind_read : (k : Kind) (n : ℕ) (s : List ℕ) (p floor : ℕ) (r : Numbered) → n ≤ format.fluents → numbered r ≡ entry_at (kind_of k) n s p floor → (first : Kind)
    → EntryRead (λ before. entry_at (kind_of first) n s p (floor_after before)) (λ before. k ≡ first) (λ before. k ≡ first) floor r
kind_read k n s p floor r h read first =
    record {
      is = λ before same above. read ∙ rw (same, above);
      keeps = λ before x q same above e. same;
      small = λ x q e.
          let below = entry_below (kind_of k) n s p floor x q (was_read (entry_at (kind_of k) n s p floor) r x q read e) in
          let most = bound_most (kind_of k) n h in
          omega arith;
    }

-- LISTS.
module _ (most : ℕ) (s : List ℕ) (p : ℕ) (entries : (left p : ℕ) → List ℕ → Got (List ℕ)) (list : Got (List ℕ)) (law : list ≡ next (count_at 0 most s p) (λ c q. entries c q [])) where
  pub list_fault : {j e : ℕ} → fault j e ≡ count_at 0 most s p → fault j e ≡ passed list
  list_fault e = whole_stops (count_at 0 most s p) _ e ∙ ap passed (sym law)

  pub list_entries : (c q : ℕ) (r : Passed) → got c q ≡ count_at 0 most s p → over r ≡ passed (entries c q []) → over r ≡ passed list
  unfolding next
  list_entries c q r e f = f ∙ ap passed (sym (law ∙ rw (read_value (count_at 0 most s p) e)))
