-- DEMAND 2, its second sentence, for both calls: a derivation is accepted exactly when `Accepted` says (FORMAT 11.6, 17.39). What has passed the
-- check's tests is taken line by line, and each test is its relation, since the lists of what was read ascend. Assumes nothing.
use Prim.Native.Nat.{ℕ, zero, suc, ◌+◌, ◌*◌, ◌≤◌, ◌<◌}
use native.Mathlib.Omega.{arith}
use native.Mathlib.Nat.{not-suc-le-zero, le_of_suc-le-suc}
use mathlib.Core.Path.{◌≡◌, refl, sym, ◌∙◌, ap, ap₂, subst}
use mathlib.Core.Bool.{true, false≢true}
use mathlib.Core.List.{List, [], ◌∷◌, map}
use mathlib.Core.Logic.{◌↔◌, inl, inr}
use lib.ListN.{length, length-map, get_or}
use lib.Dec.{ltb}
use borrow.Author.Tests.{ltb-true, lt-ltb}
use Rattle.meaning.specs.declared.Layout.{Layout}
use Rattle.meaning.specs.declared.Layout.TheVariants.{Plain, Closing}
use Rattle.meaning.specs.Tests.{each_of, Has}
use Rattle.meaning.specs.Limits
use Rattle.meaning.specs.Limits.{Limits, format}
use Rattle.meaning.specs.Requests.{Effect, Knowledge, Table, Entry, Request, values}
use Rattle.meaning.specs.Reading.{got}
use Rattle.meaning.specs.Refusals.{settled}
use Rattle.meaning.specs.Derivations.{Conclusion, knows_whether, Line, Derivation, read_derivation, follows, cited_by, asks_for, goals_of, all_asked, names, check}
use Rattle.meaning.specs.Rules.{Follows}
use Rattle.meaning.specs.Accepted.{LineIs, Earlier, LineFollows, AllFollow, Asks, LastAsks, AllNamed, Answered, Accepted}
use Rattle.meaning.proofs.TestLaws.{both_left, both_right, both_true}
use Rattle.meaning.proofs.SettledLaws.{settled_is}
use Rattle.meaning.proofs.RangeLaws.{Ranged, read_ranged}
use Rattle.meaning.proofs.SetLaws.{Ascending}
use Rattle.meaning.proofs.RulesExact.{ConclusionAscends, Proper, says_exactly}
use Rattle.meaning.proofs.ReadLines.{ReadLine, lines_read, question_ascends}
use Rattle.meaning.proofs.FollowsExact.{Tested, follows_exactly}
use Rattle.meaning.proofs.Passed.{LinePasses, AllPass, LastPasses, EntriesPass, EndPasses, Passed, passed_exactly}

-- LINES BY THEIR NUMBERS.
pub line_there : (lines : List Line) (k : ℕ) (d : Line) → k < length lines → LineIs lines k (get_or lines k d)
line_there [] k d h = absurd (not-suc-le-zero h)
line_there (l ∷ ls) zero d h = refl
line_there (l ∷ ls) (suc k) d h = line_there ls k d (le_of_suc-le-suc h)

line_get : (lines : List Line) (k : ℕ) (d x : Line) → LineIs lines k x → get_or lines k d ≡ x
line_get [] k d x h = absurd h
line_get (l ∷ ls) zero d x h = sym h
line_get (l ∷ ls) (suc k) d x h = line_get ls k d x h

pub line_has : (lines : List Line) (k : ℕ) (x : Line) → LineIs lines k x → Has lines x
line_has [] k x h = h
line_has (l ∷ ls) zero x h = inl h
line_has (l ∷ ls) (suc k) x h = inr (line_has ls k x h)

module _ (lines : List Line) (i : ℕ) (d : Line) where
  tested_earlier : i ≤ length lines → (ks : List ℕ) → each_of (λ (k : ℕ). ltb k i) ks ≡ true → Earlier lines i ks (map (λ (k : ℕ). get_or lines k d) ks)
  unfolding each_of
  tested_earlier within [] e = tt
  tested_earlier within (k ∷ ks) e =
      let less = ltb-true k i (both_left _ _ e) in
      (less, line_there lines k d (omega (arith, less, within)), tested_earlier within ks (both_right _ _ e))

  earlier_tested : (ks : List ℕ) (xs : List Line) → Earlier lines i ks xs → (each_of (λ (k : ℕ). ltb k i) ks ≡ true) × (map (λ (k : ℕ). get_or lines k d) ks ≡ xs)
  unfolding each_of
  earlier_tested [] [] h = (refl, refl)
  earlier_tested [] (x ∷ xs) h = absurd h
  earlier_tested (k ∷ ks) [] h = absurd h
  earlier_tested (k ∷ ks) (x ∷ xs) h =
      let w = earlier_tested ks xs h.2 in
      (both_true _ _ (lt-ltb k i h.0) w.0, ap₂ {C = List Line} (λ y ys. y ∷ ys) (line_get lines k d x h.1) w.1)

  earlier_has : (ks : List ℕ) (xs : List Line) → Earlier lines i ks xs → (x : Line) → Has xs x → Has lines x
  earlier_has [] [] h x m = absurd m
  earlier_has [] (y ∷ ys) h x m = absurd h
  earlier_has (k ∷ ks) [] h x m = absurd h
  earlier_has (k ∷ ks) (y ∷ ys) h x (inl q) = subst (Has lines) (sym q) (line_has lines k y h.1)
  earlier_has (k ∷ ks) (y ∷ ys) h x (inr m) = earlier_has ks ys h.2 x m

-- EACH LINE.
module _ (lim : Limits) (few : lim.citations ≤ 64) (t : Table) (effects_within : (e : Effect) → Has t.effects e → e.literal < 2 * lim.state) (knowledge_within : (k : Knowledge) → Has t.knowledge k → k.fluent < lim.state)
    (layout : Layout) (lines : List Line) (read : (l : Line) → Has lines l → ReadLine lim layout l) where
  module _ (i : ℕ) (l : Line) (own : Has lines l) where
    -- With the lines that it cites, in either form.
    exactly : (cited : List Line) → Earlier lines i l.cites cited → length cited ≡ length l.cites → Tested lim layout t cited l ↔ Follows t cited l
    exactly cited earlier counted =
        follows_exactly lim t effects_within knowledge_within layout cited l (λ k h. (read k (earlier_has lines i l l.cites cited earlier k h)).proper) (read l own) counted few

    line_follows : i ≤ length lines → LinePasses lim layout t lines i l → LineFollows t lines i l
    unfolding cited_by
    line_follows within p =
        let earlier = tested_earlier lines i l within l.cites p.earlier in
        record {
          cited = cited_by lines l;
          earlier = earlier;
          follows = (exactly (cited_by lines l) earlier (length-map l.cites (λ (k : ℕ). get_or lines k l))).0 (record { rule = p.rule; takes = p.takes; gives = p.gives });
        }

    line_passes : LineFollows t lines i l → LinePasses lim layout t lines i l
    unfolding cited_by
    line_passes f =
        let w = earlier_tested lines i l l.cites f.cited f.earlier in
        let p = (exactly f.cited f.earlier (ap length (sym w.1) ∙ length-map l.cites (λ (k : ℕ). get_or lines k l))).1 f.follows in
        record { rule = p.rule; takes = p.takes; earlier = w.0; gives = subst (λ (cited : List Line). follows lim t cited l ≡ true) (sym w.1) p.gives }

  pub all_follow : (i : ℕ) (ls : List Line) → i + length ls ≤ length lines → ((l : Line) → Has ls l → Has lines l) → AllPass lim layout t lines i ls → AllFollow t lines i ls
  all_follow i [] within has p = tt
  all_follow i (l ∷ ls) within has p =
      (line_follows i l (has l (inl refl)) (omega arith) p.0, all_follow (i + 1) ls (omega arith) (λ k h. has k (inr h)) p.1)

  all_pass : (i : ℕ) (ls : List Line) → ((l : Line) → Has ls l → Has lines l) → AllFollow t lines i ls → AllPass lim layout t lines i ls
  all_pass i [] has f = tt
  all_pass i (l ∷ ls) has f = (line_passes i l (has l (inl refl)) f.0, all_pass (i + 1) ls (λ k h. has k (inr h)) f.1)

-- THE QUESTION.
module _ (lim : Limits) (r : Request) (facts : Ascending 0 r.table.facts) (goals : Ascending 0 (values r.goals)) where
  asks_exactly : (l : Line) → Proper lim l → (Y : Conclusion) → ConclusionAscends Y → (asks_for r Y l ≡ true) ↔ Asks r Y l
  unfolding asks_for
  asks_exactly l proper Y up = says_exactly l proper r.table.facts r.plan Y facts up

  goals_ascend : ConclusionAscends (goals_of r)
  unfolding goals_of
  goals_ascend = goals

  last_asks : (ls : List Line) → ((l : Line) → Has ls l → Proper lim l) → LastPasses r ls ↔ LastAsks r ls
  last_asks [] proper = (λ h. h, λ h. h)
  last_asks (l ∷ []) proper = asks_exactly l (proper l (inl refl)) (goals_of r) goals_ascend
  last_asks (l ∷ (k ∷ ls)) proper = last_asks (k ∷ ls) (λ j h. proper j (inr h))

  names_exactly : (ls : List Line) → ((l : Line) → Has ls l → Proper lim l) → (k : ℕ) (Y : Conclusion) → ConclusionAscends Y → (names r ls k Y ≡ true) ↔ ((x : Line) × LineIs ls k x × Asks r Y x)
  unfolding names
  names_exactly [] proper k Y up = (λ e. absurd (false≢true e), λ w. absurd w.1)
  names_exactly (l ∷ ls) proper zero Y up =
      let asks = asks_exactly l (proper l (inl refl)) Y up in
      (λ e. (l, refl, asks.0 e), λ w. asks.1 (subst (Asks r Y) w.1 w.2))
  names_exactly (l ∷ ls) proper (suc k) Y up = names_exactly ls (λ j h. proper j (inr h)) k Y up

  module _ (lines : List Line) (proper : (l : Line) → Has lines l → Proper lim l) where
    all_named : (Ys : List Conclusion) → ((Y : Conclusion) → Has Ys Y → ConclusionAscends Y) → (ks : List ℕ) → EntriesPass r lines Ys ks ↔ AllNamed r lines Ys ks
    all_named [] up [] = (λ _. tt, λ _. tt)
    all_named [] up (k ∷ ks) = (λ h. h, λ h. h)
    all_named (Y ∷ Ys) up [] = (λ h. h, λ h. h)
    all_named (Y ∷ Ys) up (k ∷ ks) =
        let one = names_exactly lines proper k Y (up Y (inl refl)) in
        let more = all_named Ys (λ Z h. up Z (inr h)) ks in
        (λ h. (one.0 h.0, more.0 h.1), λ h. (one.1 h.0, more.1 h.1))

  asked_ascend : (Y : Conclusion) → Has (all_asked r) Y → ConclusionAscends Y
  unfolding all_asked
  asked_ascend Y (inl q) = subst ConclusionAscends (sym q) goals_ascend
  asked_ascend Y (inr h) = fluents r.whether h
    where
      fluents : (ws : List Entry) → Has (map (λ (w : Entry). knows_whether w.value) ws) Y → ConclusionAscends Y
      fluents [] h = absurd h
      fluents (w ∷ ws) (inl q) = subst ConclusionAscends (sym q) tt
      fluents (w ∷ ws) (inr h) = fluents ws h

  end_answers : (layout : Layout) (d : Derivation) → ((l : Line) → Has d.lines l → Proper lim l) → EndPasses layout r d ↔ Answered layout r d
  end_answers Plain d proper = let last = last_asks d.lines proper in (λ h. (h.0, last.0 h.1), λ h. (h.0, last.1 h.1))
  end_answers Closing d proper = all_named d.lines proper (all_asked r) asked_ascend d.closing

-- BOTH CALLS. The limits' fluents are within a state, and no more lines are cited than six fluents have readings.
module _ (lim : Limits) (room : lim.fluents ≤ lim.state) (few : lim.citations ≤ 64) (layout : Layout) (request derivation : List ℕ) where
  module _ (r : Request) (e : ℕ) (past : settled lim request ≡ got r e) (d : Derivation) (f : ℕ) (reads : read_derivation lim r.table.fluents r.table.actions derivation layout ≡ got d f) where
    ranged : Ranged lim r.table
    ranged = read_ranged lim request r e (settled_is lim request r e past).reads

    read : (l : Line) → Has d.lines l → ReadLine lim layout l
    read = lines_read lim _ _ (omega (arith, ranged.fluents, room)) derivation layout d f reads

    effects_within : (x : Effect) → Has r.table.effects x → x.literal < 2 * lim.state
    effects_within x h = omega (arith, ranged.effects x h, ranged.fluents, room)

    knowledge_within : (k : Knowledge) → Has r.table.knowledge k → k.fluent < lim.state
    knowledge_within k h = omega (arith, ranged.knowledge k h, ranged.fluents, room)

    lines_exactly : AllPass lim layout r.table d.lines 0 d.lines ↔ AllFollow r.table d.lines 0 d.lines
    lines_exactly = (
      all_follow lim few r.table effects_within knowledge_within layout d.lines read 0 d.lines (omega arith) (λ l h. h),
      all_pass lim few r.table effects_within knowledge_within layout d.lines read 0 d.lines (λ l h. h),
    )

    end_exactly : EndPasses layout r d ↔ Answered layout r d
    end_exactly = let up = question_ascends lim request r e (settled_is lim request r e past).reads in end_answers lim r up.0 up.1 layout d (λ l h. (read l h).proper)

  accepted : Passed lim layout request derivation → Accepted lim layout request derivation
  accepted p = record {
    asks = p.asks;
    end = p.end;
    request_settled = p.request_settled;
    reads = p.reads;
    derivation_end = p.derivation_end;
    derivation_read = p.derivation_read;
    no_overlap = p.no_overlap;
    all_follow = (lines_exactly p.asks p.end p.request_settled p.reads p.derivation_end p.derivation_read).0 p.all_follow;
    answered = (end_exactly p.asks p.end p.request_settled p.reads p.derivation_end p.derivation_read).0 p.answered;
  }

  passed : Accepted lim layout request derivation → Passed lim layout request derivation
  passed a = record {
    asks = a.asks;
    end = a.end;
    request_settled = a.request_settled;
    reads = a.reads;
    derivation_end = a.derivation_end;
    derivation_read = a.derivation_read;
    no_overlap = a.no_overlap;
    all_follow = (lines_exactly a.asks a.end a.request_settled a.reads a.derivation_end a.derivation_read).1 a.all_follow;
    answered = (end_exactly a.asks a.end a.request_settled a.reads a.derivation_end a.derivation_read).1 a.answered;
  }

  pub accepted_exactly : ((check lim layout request derivation).number ≡ Limits.verified) ↔ Accepted lim layout request derivation
  accepted_exactly = let p = passed_exactly lim layout request derivation in (λ e. accepted (p.0 e), λ a. p.1 (passed a))

pub format_citations : format.citations ≤ 64
format_citations = omega arith
