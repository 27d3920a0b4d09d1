-- A derivation is accepted exactly when it has passed every test of the check, and every answer of the derivation call and of the whether call
-- is one of the format's numbers (FORMAT 11.1, 17.38). Each test is taken as it comes: what gives no fault has passed it. What the tests
-- mean is in `Accepted`. Assumes nothing.
use Prim.Native.Nat.{ℕ, zero, suc, ◌+◌}
use native.Mathlib.Omega.{arith}
use mathlib.Core.Path.{◌≡◌, refl, sym, ◌∙◌, ap, subst}
use mathlib.Core.Bool.{Bool, true, false, false≢true}
use mathlib.Core.List.{List, [], ◌∷◌}
use mathlib.Core.Logic.{◌↔◌}
use lib.ListN.{length}
use lib.Dec.{ltb, eqb, eqb-zero-suc, eqb-suc-zero, eqb-suc-suc}
use Rattle.meaning.specs.declared.Answer.{Answer}
use Rattle.meaning.specs.declared.Layout.{Layout}
use Rattle.meaning.specs.declared.Layout.TheVariants.{Plain, Closing}
use Rattle.meaning.specs.Tests.{both, either, fails, pick, some_of, each_of}
use Rattle.meaning.specs.Limits
use Rattle.meaning.specs.Limits.{Limits}
use Rattle.meaning.specs.Literals.{among}
use Rattle.meaning.specs.Requests.{Table, Entry, Request}
use Rattle.meaning.specs.Reading.{Got, got, fault, next, two_bytes_at, repeated}
use Rattle.meaning.specs.Refusals.{nowhere, refuse, settled}
use Rattle.meaning.specs.Derivations.{Conclusion, Line, Derivation, line_at, closing_at, read_derivation, overlap_in_lines, follows, citations_of, a_rule, cited_by, check_lines, asks_for, goals_of, check_last, all_asked, names, check_entries, check_closing, check_end, check_derivation, answer, accepted_if, beyond, check_settled, check}
use Rattle.meaning.specs.Answers.{refusals, end_fault, faults, check_answers}
use Rattle.meaning.proofs.TestLaws.{by-test, clash, pick_true, pick_false, pick-cases, either_right}
use Rattle.meaning.proofs.LiteralLaws.{among_each}
use Rattle.meaning.proofs.PlaceLaws.{byte_faults, derivation_faults, Checked, derivation_checked}
use Rattle.meaning.proofs.AnswerLaws.{NumberedIn, settled_numbered}
use Rattle.meaning.proofs.SettledLaws.{fault≢got, got_same, next_got, refuse_got}

-- THE TESTS. A line names a rule of the layout, cites as many lines as the rule takes, each an earlier one, and passes the rule's test with
-- them. `lines` are all of them, and i is the line's number.
pub record LinePasses (lim : Limits) (layout : Layout) (t : Table) (lines : List Line) (i : ℕ) (l : Line) : Type 0 where
  pub rule : a_rule layout l.rule ≡ true
  pub takes : among (length l.cites) (citations_of l.rule) ≡ true
  pub earlier : each_of (λ (k : ℕ). ltb k i) l.cites ≡ true
  pub gives : follows lim t (cited_by lines l) l ≡ true

abbrev pub AllPass : Limits → Layout → Table → List Line → ℕ → List Line → Type 0
AllPass lim layout t lines i [] = Unit {0}
AllPass lim layout t lines i (l ∷ ls) = LinePasses lim layout t lines i l × AllPass lim layout t lines (i + 1) ls

-- The last line asks for the goals; where there is no line none does.
abbrev pub LastPasses : Request → List Line → Type 0
LastPasses r [] = ⊥
LastPasses r (l ∷ []) = asks_for r (goals_of r) l ≡ true
LastPasses r (l ∷ (k ∷ ls)) = LastPasses r (k ∷ ls)

-- For each conclusion one number, which names a line for it.
abbrev pub EntriesPass : Request → List Line → List Conclusion → List ℕ → Type 0
EntriesPass r lines [] [] = Unit {0}
EntriesPass r lines [] (k ∷ ks) = ⊥
EntriesPass r lines (Y ∷ Ys) [] = ⊥
EntriesPass r lines (Y ∷ Ys) (k ∷ ks) = (names r lines k Y ≡ true) × EntriesPass r lines Ys ks

-- The end: 35 by the last line, or 36 by the closing list.
abbrev pub EndPasses : Layout → Request → Derivation → Type 0
EndPasses Plain r d = (r.whether ≡ []) × LastPasses r d.lines
EndPasses Closing r d = EntriesPass r d.lines (all_asked r) d.closing

-- Both inputs, the lines and the end.
pub record Passed (lim : Limits) (layout : Layout) (request derivation : List ℕ) : Type 0 where
  pub asks : Request
  pub end : ℕ
  pub request_settled : settled lim request ≡ got asks end
  pub reads : Derivation
  pub derivation_end : ℕ
  pub derivation_read : read_derivation lim asks.table.fluents asks.table.actions derivation layout ≡ got reads derivation_end
  pub no_overlap : overlap_in_lines reads.lines ≡ nowhere
  pub all_follow : AllPass lim layout asks.table reads.lines 0 reads.lines
  pub answered : EndPasses layout asks reads

-- NUMBERS. Every fault of the check is one of the format's.
refusal_is_fault : (layout : Layout) (n : ℕ) → among n refusals ≡ true → among n (faults layout) ≡ true
unfolding among faults some_of
refusal_is_fault layout n h = either_right _ _ (either_right _ _ (either_right _ _ (either_right _ _ (either_right _ _ h))))

derivation_fault_is_fault : (layout : Layout) → each_of (λ (n : ℕ). among n (faults layout)) (derivation_faults layout) ≡ true
unfolding among faults refusals derivation_faults byte_faults end_fault some_of each_of either both
derivation_fault_is_fault Plain = refl
derivation_fault_is_fault Closing = refl

check_numbered : (lim : Limits) (layout : Layout) (r : Request) (s : List ℕ) → NumberedIn (faults layout) (check_derivation lim layout r s)
check_numbered lim layout r s = by_fault (check_derivation lim layout r s) (derivation_checked lim layout s r)
  where
    by_fault : (x : Got (Unit {0})) → Checked lim layout s x → NumberedIn (faults layout) x
    by_fault (got u e) h = tt
    by_fault (fault n p) h = among_each (λ (m : ℕ). among m (faults layout)) (derivation_faults layout) (derivation_fault_is_fault layout) n h.number

-- DEMAND 1 of the two calls: every pair of inputs gets one of the numbered answers.
fault_is_answer : (layout : Layout) (n : ℕ) → among n (faults layout) ≡ true → among n (check_answers layout) ≡ true
unfolding among check_answers some_of
fault_is_answer Plain n h = either_right _ _ (either_right _ _ h)
fault_is_answer Closing n h = either_right _ _ h

accepted_if_numbered : (layout : Layout) (x : Got (Unit {0})) → NumberedIn (faults layout) x → among (accepted_if x).number (check_answers layout) ≡ true
unfolding accepted_if answer among check_answers some_of either
accepted_if_numbered Plain (got u e) h = refl
accepted_if_numbered Closing (got u e) h = refl
accepted_if_numbered layout (fault n p) h = fault_is_answer layout n h

asked_numbered : (layout : Layout) (r : Request) → beyond layout r ≡ true → among Limits.whether_asked (check_answers layout) ≡ true
unfolding beyond among check_answers some_of either
asked_numbered Plain r asked = refl
asked_numbered Closing r asked = clash asked refl

check_settled_numbered : (lim : Limits) (layout : Layout) (derivation : List ℕ) (x : Got Request) → NumberedIn refusals x → among (check_settled lim layout derivation x).number (check_answers layout) ≡ true
unfolding check_settled answer
check_settled_numbered lim layout derivation (got r e) h = picked _ _ _ (asked_numbered layout r) (accepted_if_numbered layout _ (check_numbered lim layout r derivation))
  where
    picked : (b : Bool) (f g : Unit {0} → Answer) → (b ≡ true → among (f tt).number (check_answers layout) ≡ true) → among (g tt).number (check_answers layout) ≡ true → among (pick b f g).number (check_answers layout) ≡ true
    picked b f g x y = by-test b (λ t. ap (λ (a : Answer). among a.number (check_answers layout)) (pick_true b f g t) ∙ x t) (λ u. ap (λ (a : Answer). among a.number (check_answers layout)) (pick_false b f g u) ∙ y)
check_settled_numbered lim layout derivation (fault n p) h = fault_is_answer layout n (refusal_is_fault layout n h)

pub every_check_numbered : (lim : Limits) (layout : Layout) (request derivation : List ℕ) → among (check lim layout request derivation).number (check_answers layout) ≡ true
unfolding check
every_check_numbered lim layout request derivation =
    check_settled_numbered lim layout derivation (settled lim request) (settled_numbered lim request)

-- WHAT HAS PASSED. A test that refuses has not been met.
either_none : (a b : Bool) → either a b ≡ false → a ≡ false
unfolding either
either_none true b e = e
either_none false b e = refl

not_failed : (b : Bool) → fails b ≡ false → b ≡ true
unfolding fails
not_failed true e = refl
not_failed false e = sym e

module _ {A : Type 0} where
  passed : (b : Bool) (n p : ℕ) (k : Unit {0} → Got A) {x : A} {e : ℕ} → pick (fails b) (λ _. fault n p) k ≡ got x e → (b ≡ true) × (k tt ≡ got x e)
  passed b n p k q = pick-cases _ _ _ q (λ _ f. absurd (fault≢got f)) (λ f r. (not_failed b f, r))

  pass : (b : Bool) (n p : ℕ) (k : Unit {0} → Got A) → b ≡ true → pick (fails b) (λ _. fault n p) k ≡ k tt
  unfolding fails
  pass b n p k h = pick_false _ _ _ (ap fails h)

module _ (lim : Limits) (layout : Layout) (t : Table) (lines : List Line) where
  all_passed : (i : ℕ) (ls : List Line) {e : ℕ} → check_lines lim layout t lines i ls ≡ got tt e → AllPass lim layout t lines i ls
  unfolding check_lines
  all_passed i [] q = tt
  all_passed i (l ∷ ls) q =
      let a = passed _ _ _ _ q in
      let b = passed _ _ _ _ a.1 in
      let c = passed _ _ _ _ b.1 in
      let d = passed _ _ _ _ c.1 in
      (record { rule = a.0; takes = b.0; earlier = c.0; gives = d.0 }, all_passed (i + 1) ls d.1)

  all_pass : (i : ℕ) (ls : List Line) → AllPass lim layout t lines i ls → check_lines lim layout t lines i ls ≡ got tt 0
  unfolding check_lines
  all_pass i [] f = refl
  all_pass i (l ∷ ls) f =
      pass _ _ _ _ f.0.rule ∙ pass _ _ _ _ f.0.takes ∙ pass _ _ _ _ f.0.earlier ∙ pass _ _ _ _ f.0.gives ∙ all_pass (i + 1) ls f.1

last_passed : (r : Request) (l : Line) (ls : List Line) {e : ℕ} → check_last r (l ∷ ls) ≡ got tt e → LastPasses r (l ∷ ls)
unfolding check_last
last_passed r l [] q = pick-cases _ _ _ q (λ h _. h) (λ _ f. absurd (fault≢got f))
last_passed r l (k ∷ ls) q = last_passed r k ls q

last_pass : (r : Request) (ls : List Line) → LastPasses r ls → check_last r ls ≡ got tt 0
unfolding check_last
last_pass r [] h = absurd h
last_pass r (l ∷ []) h = pick_true _ _ _ h
last_pass r (l ∷ (k ∷ ls)) h = last_pass r (k ∷ ls) h

-- The closing list: as many entries as are asked, and each names its line.
module _ (r : Request) (lines : List Line) where
  entries_passed : (p : ℕ) (Ys : List Conclusion) (ks : List ℕ) {e : ℕ} → eqb (length ks) (length Ys) ≡ true → check_entries r lines p Ys ks ≡ got tt e → EntriesPass r lines Ys ks
  unfolding check_entries
  entries_passed p [] [] h q = tt
  entries_passed p [] (k ∷ ks) h q = clash h (eqb-suc-zero (length ks))
  entries_passed p (Y ∷ Ys) [] h q = clash h (eqb-zero-suc (length Ys))
  entries_passed p (Y ∷ Ys) (k ∷ ks) h q =
      pick-cases _ _ _ q (λ named rest. (named, entries_passed (p + 2) Ys ks (sym (eqb-suc-suc (length ks) (length Ys)) ∙ h) rest)) (λ _ f. absurd (fault≢got f))

  named_length : (Ys : List Conclusion) (ks : List ℕ) → EntriesPass r lines Ys ks → eqb (length ks) (length Ys) ≡ true
  named_length [] [] a = refl
  named_length [] (k ∷ ks) a = absurd a
  named_length (Y ∷ Ys) [] a = absurd a
  named_length (Y ∷ Ys) (k ∷ ks) a = eqb-suc-suc (length ks) (length Ys) ∙ named_length Ys ks a.1

  entries_pass : (p : ℕ) (Ys : List Conclusion) (ks : List ℕ) → EntriesPass r lines Ys ks → check_entries r lines p Ys ks ≡ got tt 0
  unfolding check_entries
  entries_pass p [] [] a = refl
  entries_pass p [] (k ∷ ks) a = absurd a
  entries_pass p (Y ∷ Ys) [] a = absurd a
  entries_pass p (Y ∷ Ys) (k ∷ ks) a = pick_true _ _ _ a.0 ∙ entries_pass (p + 2) Ys ks a.1

-- A derivation that is read has a line.
repeated_some : (line : ℕ → Got Line) (c p : ℕ) {lines : List Line} {e : ℕ} → ltb c 1 ≡ false → repeated line c p ≡ got lines e → (l : Line) × (ls : List Line) × (lines ≡ l ∷ ls)
unfolding repeated
repeated_some line zero p h q = absurd (false≢true (sym h))
repeated_some line (suc c) p h q =
    let x = next_got (line p) _ q in
    let xs = next_got (repeated line c x.1) _ x.3 in
    (x.0, xs.0, sym (got_same xs.3))

some_line : (lim : Limits) (n m : ℕ) (s : List ℕ) (layout : Layout) (d : Derivation) (e : ℕ) → read_derivation lim n m s layout ≡ got d e → (l : Line) × (ls : List Line) × (d.lines ≡ l ∷ ls)
unfolding read_derivation
some_line lim n m s layout d e q =
    pick-cases _ _ _ q (λ _ f. absurd (fault≢got f)) λ _ r.
    let c = next_got (two_bytes_at s 0) _ r in
    pick-cases _ _ _ c.3 (λ _ f. absurd (fault≢got f)) λ within r'.
    let ls = next_got (repeated (line_at lim n m s layout) c.0 c.1) _ r' in
    closed ls.0 ls.1 ls.3 (repeated_some (line_at lim n m s layout) c.0 c.1 (either_none _ _ within) ls.2)
  where
    -- What closes the lines leaves them as they are.
    closed : (lines : List Line) (p : ℕ) → next (closing_at s layout p) (λ closing o. pick (ltb o (length s)) (λ _. fault Limits.bytes_after o) (λ _. got (record { lines = lines; closing = closing; closing_place = p }) o)) ≡ got d e
        → (l : Line) × (ls : List Line) × (lines ≡ l ∷ ls) → (l : Line) × (ls : List Line) × (d.lines ≡ l ∷ ls)
    closed lines p r w =
        let ks = next_got (closing_at s layout p) _ r in
        pick-cases _ _ _ ks.3 (λ _ f. absurd (fault≢got f)) (λ _ last. (w.0, w.1, sym (ap (λ (x : Derivation). x.lines) (got_same last)) ∙ w.2))

pub no_entry : (ws : List Entry) → some_of (λ (w : Entry). true) ws ≡ false → ws ≡ []
unfolding some_of either
no_entry [] e = refl
no_entry (w ∷ ws) e = absurd (false≢true (sym e))

-- The end of a derivation that has a line, and the answer to the question.
end_passed : (layout : Layout) (r : Request) (d : Derivation) (l : Line) (ls : List Line) → d.lines ≡ l ∷ ls → beyond layout r ≡ false → {e : ℕ} → check_end layout r d ≡ got tt e → EndPasses layout r d
unfolding check_end check_closing beyond
end_passed Plain r d l ls some none q = (no_entry r.whether none, subst (LastPasses r) (sym some) (last_passed r l ls (rw some at q)))
end_passed Closing r d l ls some none q =
    pick-cases _ _ _ q (λ same named. entries_passed r d.lines (d.closing_place + 1) (all_asked r) d.closing same named) (λ _ f. absurd (fault≢got f))

end_pass : (layout : Layout) (r : Request) (d : Derivation) → EndPasses layout r d → check_end layout r d ≡ got tt 0
unfolding check_end check_closing
end_pass Plain r d a = last_pass r d.lines a.1
end_pass Closing r d a =
    pick_true _ _ _ (named_length r d.lines (all_asked r) d.closing a) ∙ entries_pass r d.lines (d.closing_place + 1) (all_asked r) d.closing a

not_beyond : (layout : Layout) (r : Request) (d : Derivation) → EndPasses layout r d → beyond layout r ≡ false
unfolding beyond some_of
not_beyond Plain r d a = ap (some_of (λ (w : Entry). true)) a.0
not_beyond Closing r d a = refl

-- Acceptance is no fault.
no_fault : (layout : Layout) → among Limits.verified (faults layout) ≡ false
unfolding among faults end_fault refusals some_of either
no_fault Plain = refl
no_fault Closing = refl

-- ACCEPTANCE is having passed them all.
module _ (lim : Limits) (layout : Layout) (request derivation : List ℕ) where
  derivation_passed : (r : Request) (e : ℕ) → settled lim request ≡ got r e → beyond layout r ≡ false → (f : ℕ) → check_derivation lim layout r derivation ≡ got tt f → Passed lim layout request derivation
  unfolding check_derivation
  derivation_passed r e past none f q =
      let d = next_got (read_derivation lim r.table.fluents r.table.actions derivation layout) _ q in
      let o = refuse_got _ _ _ d.3 in
      let c = next_got (check_lines lim layout r.table d.0.lines 0 d.0.lines) _ o.1 in
      let some = some_line lim r.table.fluents r.table.actions derivation layout d.0 d.1 d.2 in
      record {
        asks = r;
        end = e;
        request_settled = past;
        reads = d.0;
        derivation_end = d.1;
        derivation_read = d.2;
        no_overlap = o.0;
        all_follow = all_passed lim layout r.table d.0.lines 0 d.0.lines c.2;
        answered = end_passed layout r d.0 some.0 some.1 some.2 none c.3;
      }

  accepted_passed : (r : Request) (e : ℕ) → settled lim request ≡ got r e → beyond layout r ≡ false → (x : Got (Unit {0})) → NumberedIn (faults layout) x → check_derivation lim layout r derivation ≡ x → (accepted_if x).number ≡ Limits.verified → Passed lim layout request derivation
  unfolding accepted_if answer
  accepted_passed r e past none (got u f) n q z = derivation_passed r e past none f q
  accepted_passed r e past none (fault k p) n q z = clash n (ap (λ (i : ℕ). among i (faults layout)) z ∙ no_fault layout)

  settled_passed : (x : Got Request) → NumberedIn refusals x → settled lim request ≡ x → (check_settled lim layout derivation x).number ≡ Limits.verified → Passed lim layout request derivation
  unfolding check_settled answer pick among refusals some_of either
  settled_passed (got r e) n q z =
      by-test (beyond layout r)
      (λ t. absurd (let thirty : ◌≡◌ {A = ℕ} 30 0 = rw (t, pick) at z in omega arith))
      (λ f. accepted_passed r e q f _ (check_numbered lim layout r derivation) refl (rw (f, pick) at z))
  settled_passed (fault k p) n q z = clash n (ap (λ (i : ℕ). among i refusals) z)

  derivation_passes : (a : Passed lim layout request derivation) → check_derivation lim layout a.asks derivation ≡ got tt 0
  unfolding check_derivation next refuse
  derivation_passes a =
      rw (a.derivation_read, a.no_overlap, all_pass lim layout a.asks.table a.reads.lines 0 a.reads.lines a.all_follow) (end_pass layout a.asks a.reads a.answered)

  passes : Passed lim layout request derivation → (check lim layout request derivation).number ≡ Limits.verified
  unfolding check check_settled accepted_if answer
  passes a =
      ap (λ (x : Got Request). (check_settled lim layout derivation x).number) a.request_settled
      ∙ ap (λ (x : Answer). x.number) (pick_false _ _ _ (not_beyond layout a.asks a.reads a.answered))
      ∙ ap (λ (x : Got (Unit {0})). (accepted_if x).number) (derivation_passes a)

  pub passed_exactly : ((check lim layout request derivation).number ≡ Limits.verified) ↔ Passed lim layout request derivation
  unfolding check
  passed_exactly = (settled_passed (settled lim request) (settled_numbered lim request) refl, passes)
