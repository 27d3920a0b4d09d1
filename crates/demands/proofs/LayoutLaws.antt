-- The two layouts take the same derivations, where no whether entry is asked and every line is by a rule of both: what is read is what is written,
-- the lines are read from either layout, and no rule asks where they stand. Assumes nothing.
use Prim.Native.Nat.{ℕ, zero, suc, ◌+◌, ◌-◌, ◌/◌, ◌%◌, ◌<◌}
use native.Mathlib.Omega.{arith}
use mathlib.Core.Path.{◌≡◌, refl, sym, ◌∙◌, ap, subst}
use mathlib.Core.Bool.{true, false≢true}
use mathlib.Core.List.{List, [], ◌∷◌, ◌++◌, map}
use lib.ListN.{length, length-append, length-map}
use borrow.Author.Tests.{leb-true, le-leb}
use Rattle.meaning.specs.declared.Layout.{Layout}
use Rattle.meaning.specs.declared.Layout.TheVariants.{Plain, Closing}
use Rattle.meaning.specs.Tests.{each_of}
use Rattle.meaning.specs.Limits
use Rattle.meaning.specs.Limits.{Limits}
use Rattle.meaning.specs.Requests.{Table, Entry, Request}
use Rattle.meaning.specs.Reading.{got}
use Rattle.meaning.specs.Refusals.{nowhere, settled}
use Rattle.meaning.specs.Derivations.{Conclusion, knows_whether, Line, Derivation, read_derivation, overlap_in_lines, a_rule, goals_of, all_asked, names, check}
use Rattle.meaning.specs.Layouts.{Bytes, list_written, number_written, numbers_written, plan_written, conclusion_written, concluded_written, line_written, lines_written, closing_written, written, plain_rules, names_last, closed_by_last, read_for, InClosingLayout, InPlainLayout}
use Rattle.meaning.proofs.TestLaws.{both_left, both_right, both_true, either_left}
use Rattle.meaning.proofs.SettledLaws.{got_same, next_got}
use Rattle.meaning.proofs.MovedReads.{next_is}
use Rattle.meaning.proofs.PlacelessLaws.{unplaced_line, unplaced_lines, follows_placeless, nowhere_placeless, named_placeless}
use Rattle.demands.proofs.MovedLines.{derivation_copied}
use Rattle.meaning.proofs.Passed.{AllPass, LastPasses, EntriesPass, passed_exactly}

-- THE LENGTHS.
line_length : (l : Line) → length (line_written Plain l) ≡ length (line_written Closing l)
unfolding line_written concluded_written
line_length l =
    let X = list_written l.X in
    let c = plan_written l.c in
    let Y = conclusion_written l.Y in
    let last : List ℕ = length l.cites ∷ numbers_written l.cites in
    simp length-append (omega arith)

lines_length : (ls : List Line) → length (lines_written Plain ls) ≡ length (lines_written Closing ls)
unfolding lines_written
lines_length [] = refl
lines_length (l ∷ ls) =
    let one = line_length l in let more = lines_length ls in
    simp length-append (omega arith)

three_more : (d o : Derivation) (k : ℕ) → o.lines ≡ d.lines → o.closing ≡ k ∷ [] → length (written Closing o) ≡ length (written Plain d) + 3
unfolding written closing_written number_written numbers_written
three_more d o k same one =
    let more = lines_length d.lines in
    let last : List ℕ = 1 ∷ k / 256 ∷ k % 256 ∷ [] in
    let all = length-append (lines_written Closing d.lines) last in
    let none_after = length-append (lines_written Plain d.lines) [] in
    rw (same, one) (omega arith)

-- THE LINES.
plain_rule : (other : Layout) (rule : ℕ) → a_rule Plain rule ≡ true → a_rule other rule ≡ true
unfolding a_rule
plain_rule Plain rule h = h
plain_rule Closing rule h =
    let most = leb-true rule 6 (both_right _ _ h) in
    either_left _ _ (both_true _ _ (both_left _ _ h) (le-leb rule 8 (omega arith)))

pub follow_plain : (lim : Limits) (t : Table) (lines : List Line) (i : ℕ) (ls : List Line) → AllPass lim Plain t lines i ls → plain_rules ls ≡ true
unfolding plain_rules each_of
follow_plain lim t lines i [] all = refl
follow_plain lim t lines i (l ∷ ls) all = both_true _ _ all.0.rule (follow_plain lim t lines (i + 1) ls all.1)

module _ (lim : Limits) (layout other : Layout) (t : Table) where
  -- Without their places, by rules of both layouts.
  follow_placeless : (lines : List Line) (i : ℕ) (ls : List Line) → plain_rules ls ≡ true → AllPass lim layout t lines i ls → AllPass lim other t (unplaced_lines lines) i (unplaced_lines ls)
  unfolding plain_rules each_of
  follow_placeless lines i [] plain all = tt
  follow_placeless lines i (l ∷ ls) plain all =
      let one = all.0 in (
        record { rule = plain_rule other l.rule (both_left _ _ plain); takes = one.takes; earlier = one.earlier; gives = follows_placeless lim t lines l ∙ one.gives },
        follow_placeless lines (i + 1) ls (both_right _ _ plain) all.1,
      )

  follow_placed : (lines : List Line) (i : ℕ) (ls : List Line) → AllPass lim other t (unplaced_lines lines) i (unplaced_lines ls) → AllPass lim other t lines i ls
  follow_placed lines i [] all = tt
  follow_placed lines i (l ∷ ls) all =
      let one = all.0 in
      (record { rule = one.rule; takes = one.takes; earlier = one.earlier; gives = sym (follows_placeless lim t lines l) ∙ one.gives }, follow_placed lines (i + 1) ls all.1)

  pub follow_carried : (ls js : List Line) → unplaced_lines js ≡ unplaced_lines ls → plain_rules ls ≡ true → AllPass lim layout t ls 0 ls → AllPass lim other t js 0 js
  follow_carried ls js alike plain all = follow_placed js 0 js (subst (λ (xs : List Line). AllPass lim other t xs 0 xs) (sym alike) (follow_placeless ls 0 ls plain all))

-- THE QUESTION.
one_less : (n : ℕ) → suc (suc n - 1) ≡ suc (suc n) - 1
one_less n = omega arith

pub last_named : (r : Request) (ls : List Line) → LastPasses r ls → names r ls (length ls - 1) (goals_of r) ≡ true
unfolding names
last_named r [] h = absurd h
last_named r (l ∷ []) h = h
last_named r (l ∷ (k ∷ ls)) h = subst (λ (j : ℕ). names r (l ∷ (k ∷ ls)) j (goals_of r) ≡ true) (one_less (length ls)) (last_named r (k ∷ ls) h)

pub named_last : (r : Request) (ls : List Line) → names r ls (length ls - 1) (goals_of r) ≡ true → LastPasses r ls
unfolding names
named_last r [] h = absurd (false≢true h)
named_last r (l ∷ []) h = h
named_last r (l ∷ (k ∷ ls)) h = named_last r (k ∷ ls) (subst (λ (j : ℕ). names r (l ∷ (k ∷ ls)) j (goals_of r) ≡ true) (sym (one_less (length ls))) h)

-- The last line is the question wherever it stands.
pub last_alike : (r : Request) (ls js : List Line) → unplaced_lines js ≡ unplaced_lines ls → names r ls (length ls - 1) (goals_of r) ≡ true → LastPasses r js
last_alike r ls js alike h =
    let size : length js ≡ length ls = sym (length-map js unplaced_line) ∙ ap {B = ℕ} (λ xs. length xs) alike ∙ length-map ls unplaced_line in
    named_last r js (named_placeless r js ls alike (length js - 1) (goals_of r) ∙ ap (λ (i : ℕ). names r ls (i - 1) (goals_of r)) size ∙ h)

named_one : (r : Request) (lines : List Line) (k : ℕ) → EntriesPass r lines (all_asked r) (k ∷ []) → (r.whether ≡ []) × (names r lines k (goals_of r) ≡ true)
unfolding all_asked
named_one r lines k h = (none_left r.whether h.1, h.0)
  where
    none_left : (ws : List Entry) → EntriesPass r lines (map (λ (w : Entry). knows_whether w.value) ws) [] → ws ≡ []
    none_left [] g = refl
    none_left (w ∷ ws) g = absurd g

one_named : (r : Request) (lines : List Line) (k : ℕ) → r.whether ≡ [] → names r lines k (goals_of r) ≡ true → EntriesPass r lines (all_asked r) (k ∷ [])
unfolding all_asked
one_named r lines k whether h = (h, subst (λ (ws : List Entry). EntriesPass r lines (map (λ (w : Entry). knows_whether w.value) ws) []) (sym whether) tt)

-- BYTES. What is written anew has the bytes that were there, and those of a line number.
abbrev pub Small : List ℕ → Type 0
Small [] = Unit {0}
Small (x ∷ xs) = (x < 256) × Small xs

bytes_small : (s : List ℕ) → Bytes s → Small s
bytes_small [] h = tt
bytes_small (x ∷ xs) h = (h 0, bytes_small xs (λ i. h (suc i)))

pub small_bytes : (s : List ℕ) → Small s → Bytes s
small_bytes [] h i = omega arith
small_bytes (x ∷ xs) h zero = h.0
small_bytes (x ∷ xs) h (suc i) = small_bytes xs h.1 i

pub small_both : (xs ys : List ℕ) → Small xs → Small ys → Small (xs ++ ys)
small_both [] ys h k = k
small_both (x ∷ xs) ys h k = (h.0, small_both xs ys h.1 k)

small_parts : (xs ys : List ℕ) → Small (xs ++ ys) → Small xs × Small ys
small_parts [] ys h = (tt, h)
small_parts (x ∷ xs) ys h = let rest = small_parts xs ys h.1 in ((h.0, rest.0), rest.1)

module _ (layout other : Layout) where
  concluded_small : (rule : ℕ) (Y : Conclusion) → Small (concluded_written layout rule Y) → Small (concluded_written other rule Y)
  unfolding concluded_written
  concluded_small rule Y h = to other (from layout h)
    where
      from : (at_first : Layout) → Small (concluded_written at_first rule Y) → (rule < 256) × Small (conclusion_written Y)
      from Plain h = let parts = small_parts (conclusion_written Y) (rule ∷ []) h in (parts.1.0, parts.0)
      from Closing h = h

      to : (at_last : Layout) → (rule < 256) × Small (conclusion_written Y) → Small (concluded_written at_last rule Y)
      to Plain h = small_both (conclusion_written Y) (rule ∷ []) h.1 (h.0, tt)
      to Closing h = h

  line_small : (l : Line) → Small (line_written layout l) → Small (line_written other l)
  unfolding line_written
  line_small l h =
      let after : Layout → List ℕ = λ at_last. concluded_written at_last l.rule l.Y in
      let last : List ℕ = length l.cites ∷ numbers_written l.cites in
      let a = small_parts (list_written l.X) (plan_written l.c ++ (after layout ++ last)) h in
      let b = small_parts (plan_written l.c) (after layout ++ last) a.1 in
      let c = small_parts (after layout) last b.1 in
      small_both (list_written l.X) (plan_written l.c ++ (after other ++ last)) a.0
      (small_both (plan_written l.c) (after other ++ last) b.0
      (small_both (after other) last (concluded_small l.rule l.Y c.0) c.1))

  lines_small : (ls : List Line) → Small (lines_written layout ls) → Small (lines_written other ls)
  unfolding lines_written
  lines_small [] h = tt
  lines_small (l ∷ ls) h =
      let parts = small_parts (line_written layout l) (lines_written layout ls) h in
      small_both (line_written other l) (lines_written other ls) (line_small l parts.0) (lines_small ls parts.1)

  written_small : (d o : Derivation) → o.lines ≡ d.lines → (length d.lines < 65536 → Small (closing_written other o.closing)) → Bytes (written layout d) → Bytes (written other o)
  unfolding written number_written
  written_small d o same closing bytes =
      let a = small_parts (number_written (length d.lines)) (lines_written layout d.lines ++ closing_written layout d.closing) (bytes_small (written layout d) bytes) in
      let b = small_parts (lines_written layout d.lines) (closing_written layout d.closing) a.1 in
      let high = a.0.0 in
      small_bytes (written other o) (rw same
      (small_both (number_written (length d.lines)) (lines_written other d.lines ++ closing_written other o.closing) a.0
      (small_both (lines_written other d.lines) (closing_written other o.closing) (lines_small d.lines b.0) (closing (omega arith)))))

closing_small : (k : ℕ) → k < 65536 → Small (closing_written Closing (k ∷ []))
unfolding closing_written numbers_written number_written
closing_small k few = (omega arith, (omega arith, (omega arith, tt)))

none_small : (ks : List ℕ) → Small (closing_written Plain ks)
unfolding closing_written
none_small ks = tt

-- WHAT IS READ IS WHAT IS WRITTEN.
read_by_counts : (lim : Limits) (layout : Layout) (request d : List ℕ) (r : Request) (e : ℕ) → settled lim request ≡ got r e
    → read_for lim layout request d ≡ read_derivation lim r.table.fluents r.table.actions d layout
unfolding read_for
read_by_counts lim layout request d r e past = next_is _ _ _ _ past

-- What was read for a request, written in the layout that it was read in, is the input: `written` is no other way to say it.
pub read_is_written : (lim : Limits) (layout : Layout) (request d : List ℕ) → Bytes d → (D : Derivation) (e : ℕ) → read_for lim layout request d ≡ got D e → written layout D ≡ d
unfolding read_for
read_is_written lim layout request d bytes D e read =
    let w = next_got (settled lim request) _ read in
    ((derivation_copied lim w.0.table.fluents w.0.table.actions d bytes layout).holds D e w.3).same

-- FROM PLAIN TO CLOSING.
-- A derivation that the derivation call accepts is three bytes longer in the closing layout, and the whether call accepts it where it has room
-- (FORMAT 17.42). The request has no whether entries, or the derivation call would have answered 30.
pub plain_to_closing : (lim : Limits) (request d : List ℕ) → Bytes d → (check lim Plain request d).number ≡ Limits.verified → InClosingLayout lim request d
unfolding closed_by_last names_last
plain_to_closing lim request d bytes verified =
    let a = (passed_exactly lim Plain request d).0 verified in
    let r = a.asks in
    let n = r.table.fluents in let m = r.table.actions in
    let D = a.reads in
    let ls = D.lines in
    let k = length ls - 1 in
    let u = written Closing (closed_by_last D) in
    let copied = (derivation_copied lim n m d bytes Plain).holds D a.derivation_end a.derivation_read in
    let plain = follow_plain lim r.table ls 0 ls a.all_follow in
    record {
      says = D;
      end = a.derivation_end;
      read = read_by_counts lim Plain request d r a.end a.request_settled ∙ a.derivation_read;
      same = copied.same;
      bytes = written_small Plain Closing D (closed_by_last D) refl (λ few. closing_small k (omega arith)) (subst Bytes (sym copied.same) bytes);
      longer = three_more D (closed_by_last D) k refl refl ∙ ap (λ (s : List ℕ). length s + 3) copied.same;
      accepted = λ fits.
          let new = copied.again plain Closing (k ∷ []) D.closing_place fits in
          let named = named_placeless r new.value.lines ls new.lines_alike k (goals_of r) ∙ last_named r ls a.answered.1 in
          (passed_exactly lim Closing request u).1 (record {
            asks = r;
            end = a.end;
            request_settled = a.request_settled;
            reads = new.value;
            derivation_end = length u;
            derivation_read = new.is;
            no_overlap = nowhere_placeless ls new.value.lines (sym new.lines_alike) a.no_overlap;
            all_follow = follow_carried lim Plain Closing r.table ls new.value.lines new.lines_alike plain a.all_follow;
            answered = subst (EntriesPass r new.value.lines (all_asked r)) (sym new.closing_is) (one_named r new.value.lines k a.answered.0 named);
          });
    }

-- FROM CLOSING TO PLAIN.
-- A derivation by rules 1 to 6 whose closing list names its last line, and that the whether call accepts, is three bytes shorter in the plain
-- layout, and the derivation call accepts it (FORMAT 17.43). The request has no whether entries, or one closing entry would be too few.
pub closing_to_plain : (lim : Limits) (request d : List ℕ) → Bytes d → (D : Derivation) (e : ℕ) → read_for lim Closing request d ≡ got D e
    → plain_rules D.lines ≡ true → D.closing ≡ names_last D.lines → (check lim Closing request d).number ≡ Limits.verified
    → InPlainLayout lim request d D
unfolding names_last
closing_to_plain lim request d bytes D e read plain closing verified =
    let a = (passed_exactly lim Closing request d).0 verified in
    let r = a.asks in
    let n = r.table.fluents in let m = r.table.actions in
    let ls = D.lines in
    let k = length ls - 1 in
    let u = written Plain D in
    let here : read_derivation lim n m d Closing ≡ got D e = sym (read_by_counts lim Closing request d r a.end a.request_settled) ∙ read in
    let is : a.reads ≡ D = got_same (sym a.derivation_read ∙ here) in
    let copied = (derivation_copied lim n m d bytes Closing).holds D e here in
    let whole : length d ≡ length u + 3 = ap length (sym copied.same) ∙ three_more D D k refl closing in
    let within = copied.within in
    let named = subst (λ (x : Derivation). EntriesPass r x.lines (all_asked r) x.closing) is a.answered in
    let asked = named_one r ls k (subst (EntriesPass r ls (all_asked r)) closing named) in
    let new = copied.again plain Plain D.closing D.closing_place (omega arith) in
    record {
      same = copied.same;
      bytes = written_small Closing Plain D D refl (λ _. none_small D.closing) (subst Bytes (sym copied.same) bytes);
      shorter = sym whole;
      accepted = (passed_exactly lim Plain request u).1 (record {
        asks = r;
        end = a.end;
        request_settled = a.request_settled;
        reads = new.value;
        derivation_end = length u;
        derivation_read = new.is;
        no_overlap = nowhere_placeless ls new.value.lines (sym new.lines_alike) (subst (λ (x : Derivation). overlap_in_lines x.lines ≡ nowhere) is a.no_overlap);
        all_follow =
            follow_carried lim Closing Plain r.table ls new.value.lines new.lines_alike plain
            (subst (λ (x : Derivation). AllPass lim Closing r.table x.lines 0 x.lines) is a.all_follow);
        answered = (asked.0, last_alike r ls new.value.lines new.lines_alike asked.1);
      });
    }
