-- Where the faults of a values request are placed, and what was read of it (FORMAT 26.3, 26.6 to 26.8, 26.11, 26.14): 11 at its length and 10 at 0, and every
-- other, 46 among them, at a byte. A literal has two bytes and is placed at the first; all else goes as in a request (`PlaceLaws`). Assumes nothing.
use Prim.Native.Nat.{ℕ, zero, suc, ◌+◌, ◌*◌, ◌≤◌, ◌<◌}
use native.Mathlib.Omega.{arith}
use mathlib.Core.Path.{◌≡◌, refl}
use mathlib.Core.Bool.{true}
use mathlib.Core.List.{List, [], ◌∷◌}
use lib.ListN.{length}
use borrow.Author.Tests.{ltb-true, ltb-false}
use Rattle.meaning.specs.Tests.{both, either, some_of, each_of}
use Rattle.meaning.specs.Limits
use Rattle.meaning.specs.Limits.{Limits}
use Rattle.meaning.specs.Literals.{among}
use Rattle.meaning.specs.Requests.{Table, Entry, Request}
use Rattle.meaning.specs.declared.Form.TheVariants.{Valued}
use Rattle.meaning.specs.Reading.{Got, got, fault, count_at, below_at, values_in, literals_in, value_at, value_entry_at, value_entries_at, value_list_at, set_value_at, value_counts_at, table_at, placed_twos, request_at, read_request}
use Rattle.meaning.specs.Values.{contradictory, all_exclusive}
use Rattle.meaning.specs.Valued.{settled_values}
use Rattle.meaning.specs.Answers.{refusals, values_refusals}
use Rattle.meaning.specs.AnswerParts.{of_neither, at_start}
use Rattle.meaning.proofs.PickLaws.{pick_has}
use Rattle.meaning.proofs.GotLaws.{held_then}
use Rattle.meaning.proofs.PlaceLaws.{entry_faults, byte_faults, entry_byte, item_byte, EachBelow, TableBelow, RequestBelow, against_below, mixed_below, failing_in_below, Inside, Held, by_next, by_refuse, count_held, below_held, FormHeld, table_held_as, request_held_as, FaultIn, too_long_fault, ends_fault, byte_fault, reading_fault}
use Rattle.meaning.proofs.AnswerLaws.{NumberedIn}

-- The entries of a list with two bytes each stand at bytes.
twos_below : (size p : ℕ) (xs : List ℕ) → p + 2 * length xs ≤ size → EachBelow size (λ (e : Entry). e.place) (placed_twos p xs)
unfolding placed_twos
twos_below size p [] fits = tt
twos_below size p (x ∷ xs) fits = (omega (arith, fits), twos_below size (p + 2) xs (omega (arith, fits)))

-- READING, where `Bad n p` is what is said of a fault with number n at place p. It holds of 11 at the input's length, and of the faults of counts and entries and of 46 at each byte.
module _ (s : List ℕ) (Bad : ℕ → ℕ → Type 0) (ends : Bad Limits.ends_too_soon (length s)) (byte : (n p : ℕ) → among n entry_faults ≡ true → p < length s → Bad n p)
    (is_not : (p : ℕ) → p < length s → Bad Limits.says_is_not p) where
  abbrev Two : ℕ → ℕ → ℕ → Type 0
  Two p x q = q ≡ p + 2

  value_held : (n p : ℕ) → Held s Bad (Two p) (value_at n s p)
  unfolding value_at
  value_held n p =
      by_next s Bad (λ x q. q ≡ p + 1) _ (below_at n s p) _ (below_held s Bad ends byte n p) λ f q _ is.
      by_next s Bad (λ x r. r ≡ q + 1) _ (below_at (2 * values_in s f) s q) _ (below_held s Bad ends byte (2 * values_in s f) q) λ b r fits is₂. (fits, omega (arith, is, is₂))

  value_entry_held : (n p : ℕ) (before : List ℕ) → Held s Bad (Two p) (value_entry_at n s p before)
  unfolding value_entry_at among entry_faults some_of either
  value_entry_held n p before =
      by_next s Bad (Two p) _ (value_at n s p) _ (value_held n p) λ x q fits is.
      pick_has (Held s Bad (Two p)) _ _ _ (λ _. byte _ p refl (omega (arith, fits, is))) λ _.
      pick_has (Held s Bad (Two p)) _ _ _ (λ _. (fits, is)) (λ _. byte _ p refl (omega (arith, fits, is)))

  -- A list stops twice as far on as it is long, behind its count.
  abbrev Twice : ℕ → List ℕ → ℕ → Type 0
  Twice p xs q = q ≡ p + 2 * length xs

  value_entries_held : (n left p : ℕ) (before : List ℕ) → p ≤ length s → Held s Bad (Twice p) (value_entries_at n s left p before)
  unfolding value_entries_at
  value_entries_held n zero p before fits = (fits, omega arith)
  value_entries_held n (suc left) p before fits =
      by_next s Bad (Two p) _ (value_entry_at n s p before) _ (value_entry_held n p before) λ x q fits₁ is.
      by_next s Bad (Twice q) _ (value_entries_at n s left q (x ∷ before)) _ (value_entries_held n left q (x ∷ before) fits₁) λ xs r fits₂ long.
      (fits₂, omega (arith, is, long))

  value_list_held : (n most p : ℕ) → Held s Bad (Twice (p + 1)) (value_list_at n most s p)
  unfolding value_list_at
  value_list_held n most p =
      by_next s Bad (λ x q. q ≡ p + 1) _ (count_at 0 most s p) _ (count_held s Bad ends byte 0 most p) λ c q fits is.
      rw is (value_entries_held n c (p + 1) [] (omega (arith, fits, is)))

  set_value_held : (n p : ℕ) → Held s Bad (λ l q. Unit {0}) (set_value_at n s p)
  unfolding set_value_at
  set_value_held n p =
      by_next s Bad (Two p) _ (value_at n s p) _ (value_held n p) λ x q fits is.
      pick_has (Held s Bad (λ l q. Unit {0})) _ _ _ (λ _. (fits, tt)) (λ _. is_not p (omega (arith, fits, is)))

  value_counts_held : (left p : ℕ) → p ≤ length s → Held s Bad (λ (cs : List ℕ) (q : ℕ). Unit {0}) (value_counts_at left s p)
  unfolding value_counts_at
  value_counts_held zero p fits = (fits, tt)
  value_counts_held (suc left) p fits =
      by_next s Bad (λ x q. q ≡ p + 1) _ (count_at Limits.fewest_values Limits.most_values s p) _ (count_held s Bad ends byte Limits.fewest_values Limits.most_values p) λ c q fits₁ _.
      by_next s Bad _ _ (value_counts_at left s q) _ (value_counts_held left q fits₁) λ cs r fits₂ _. (fits₂, tt)

  -- The form with two bytes for a literal.
  values_held : FormHeld s Bad ends byte Valued
  values_held = record {
    listed = λ n most p.
        held_then Bad (Inside s Bad (Twice (p + 1))) (Inside s Bad (λ xs q. EachBelow (length s) (λ (e : Entry). e.place) (placed_twos (p + 1) xs))) (value_list_at n most s p) (value_list_held n most p) λ xs q h.
        (h.0, twos_below (length s) (p + 1) xs (omega (arith, h.0, h.1)));
    literal = λ n p. set_value_held n p;
    past = λ n p k here then. by_next s Bad _ _ (value_counts_at n s p) _ (value_counts_held n p here) λ cs q fits _. then q fits;
  }

-- A VALUES REQUEST.
module _ (lim : Limits) (s : List ℕ) where
  abbrev ValuesFault : ℕ → ℕ → Type 0
  ValuesFault = FaultIn values_refusals lim.request (length s)

  -- It is no longer than its limit, and has only places of its bytes.
  abbrev pub ValuesRead : Request → ℕ → Type 0
  ValuesRead r e = RequestBelow (length s) r × (length s ≤ lim.request)

  abbrev pub ValuesHeld : Got Request → Type 0
  ValuesHeld = Held s ValuesFault ValuesRead

  read_held : ValuesHeld (read_request lim Valued s)
  unfolding read_request among values_refusals refusals byte_faults at_start of_neither some_of either each_of both
  read_held =
      pick_has ValuesHeld _ _ _ (λ _. too_long_fault values_refusals lim.request (length s) refl) λ f.
      let short = ltb-false lim.request (length s) f in
      let ends = ends_fault values_refusals lim.request (length s) short refl in
      let byte = reading_fault values_refusals lim.request (length s) short refl in
      let entry : (n p : ℕ) → among n entry_faults ≡ true → p < length s → ValuesFault n p = λ n p is. byte n p (entry_byte n is) in
      let held = values_held s ValuesFault ends entry (λ p. byte_fault values_refusals lim.request (length s) short Limits.says_is_not p refl refl) in
      by_next s ValuesFault (λ (t : Table) (q : ℕ). TableBelow (length s) t) ValuesRead (table_at lim Valued s 0) _ (table_held_as s ValuesFault ends entry lim Valued held 0) λ t p fits table.
      by_next s ValuesFault (λ (r : Request) (q : ℕ). RequestBelow (length s) r) ValuesRead (request_at lim Valued s t p) _
      (request_held_as s ValuesFault ends entry lim Valued held (λ n p is. byte n p (item_byte n is)) t p table fits) λ r e fits₂ so.
      pick_has ValuesHeld _ _ _ (λ more. byte _ e refl (ltb-true _ _ more)) (λ _. (fits₂, (so, short)))

  -- Past 16, 17 and 18.
  pub values_settled_held : ValuesHeld (settled_values lim s)
  unfolding settled_values among values_refusals refusals at_start of_neither some_of either
  values_settled_held =
      by_next s ValuesFault ValuesRead ValuesRead (read_request lim Valued s) _ read_held λ r e fits so.
      let below = so.0 in
      let refused = byte_fault values_refusals lim.request (length s) so.1 in
      by_refuse s ValuesFault ValuesRead _ _ _ (λ p. refused _ p refl refl) (against_below (length s) (contradictory (literals_in s) r.table) [] r.table.effects below.table.effects)
      (by_refuse s ValuesFault ValuesRead _ _ _ (λ p. refused _ p refl refl) (mixed_below (length s) r.table.effects r.table.knowledge below.table.knowledge)
      (by_refuse s ValuesFault ValuesRead _ _ _ (λ p. refused _ p refl refl) (failing_in_below (length s) (all_exclusive (literals_in s)) r.plan below.plan) (fits, so)))

  -- So one that is not settled is refused by one of 10 to 21 and 46.
  pub values_settled_numbered : NumberedIn values_refusals (settled_values lim s)
  values_settled_numbered = by_fault (settled_values lim s) values_settled_held
    where
      by_fault : (x : Got Request) → ValuesHeld x → NumberedIn values_refusals x
      by_fault (got r e) h = tt
      by_fault (fault n p) h = h.number
