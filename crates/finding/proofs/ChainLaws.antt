-- A section leaves the lines of an action in file order. A line that is noted goes behind its action's last one, and is then the last itself,
-- so that no later line touches that slot; no two actions have the same last line. One law for effects and for executability lines.
-- Assumes nothing.
use Prim.Native.Nat.{ℕ, ◌+◌, ◌≤◌, ◌<◌}
use native.Mathlib.Omega.{arith}
use native.Mathlib.Decide.{ℕ_discrete}
use mathlib.Core.Path.{◌≡◌, refl, sym, ◌∙◌, ap, subst}
use mathlib.Core.Bool.{Bool, true, false}
use mathlib.Core.List.{List, [], ◌∷◌, map}
use mathlib.Core.Logic.{◌⊎◌, inl, inr, ⊎_elim}
use lib.ListN.{length, get_or, set, length-set}
use lib.Seq.{get_or-set_same}
use lib.Dec.{eqb, ltb}
use borrow.Author.Tests.{eqb-true, eqb-false, lt-ltb, le-ltb}
use Rattle.meaning.specs.Tests.{either, pick, some_of, those_of, Has}
use Rattle.meaning.specs.Limits.{format}
use Rattle.meaning.proofs.TestLaws.{by-test, pick_true, pick_false}
use Rattle.reading.specs.Noted.{Section, Line, line_place, next_line, first_line, before, appended, action_in, note_line, none_yet, lines_noted, count_slot, section_noted, run_lines, slots, line_numbers, line_slots}
use Rattle.reading.specs.Ordered.{Chain, InOrder}
use Rattle.reading.proofs.NotesLaws.{before_first, before_later, before_most}
use Rattle.finding.proofs.KeptLaws.{kept, Lasts, none_last, lasts_none, last_here, last_other, lasts_next, Outside, note_long}

-- WHAT A LINE COMES AFTER: its action's last line, or the action's own number, which no line has.
before_is : (last a : ℕ) → ((last ≡ 0) × (before last a ≡ line_numbers + a)) ⊎ ((0 < last) × (before last a ≡ last))
before_is last a = elim (ℕ_discrete last 0) [ yes e ↦ inl (e, sym (before_first last a e)) | no d ↦ inr (omega (arith, d), sym (before_later last a last d refl)) ]

before_new : (k a : ℕ) → before (k + 1) a ≡ k + 1
before_new k a = sym (before_later (k + 1) a (k + 1) (λ e. omega arith) refl)

module _ (k : ℕ) (last : List ℕ) (few : k < line_numbers) (lasts : Lasts k last) where
  -- It is none of the lines to come.
  before_old : (b : ℕ) → b < format.actions → (m : ℕ) → k < m → m < line_numbers → m ≡ before (get_or last b 0) b → ⊥
  before_old b h m more less e =
      let most = lasts.most b h in
      ⊎_elim (λ w. omega (arith, w.1)) (λ w. omega (arith, w.1)) (before_is (get_or last b 0) b)

  -- Lines of two actions come after two.
  before_apart : (b d : ℕ) → b < format.actions → d < format.actions → before (get_or last b 0) b ≡ before (get_or last d 0) d → b ≡ d
  before_apart b d h g e =
      let one = lasts.most b h in
      let two = lasts.most d g in
      ⊎_elim
      (λ w. ⊎_elim (λ v. omega (arith, w.1, v.1)) (λ v. absurd (omega (arith, w.1, v.1))) (before_is (get_or last d 0) d))
      (λ w. ⊎_elim (λ v. absurd (omega (arith, w.1, v.1))) (λ v. lasts.apart b d h g w.0 (sym w.1 ∙ e ∙ v.1)) (before_is (get_or last d 0) d))
      (before_is (get_or last b 0) b)

-- ONE KIND OF LINES.
module _ (c : Section) (lines : ℕ) (room : lines ≤ run_lines) (stands : Line c → ℕ)
    (notes : (last k : ℕ) (x : Line c) (t : List ℕ) → note_line c last k x t ≡ appended lines last k (stands x) (action_in c x) t) where
  -- The places of the lines of action a, in file order.
  abbrev pub places : (a : ℕ) → List (Line c) → List ℕ
  places a xs = map stands (those_of (λ (x : Line c). eqb (action_in c x) a) xs)

  module _ (last k : ℕ) (x : Line c) (t : List ℕ) where
    noted_kept : (j : ℕ) → (j ≡ lines + k → ⊥) → (j ≡ lines + line_numbers + before last (action_in c x) → ⊥) → get_or (note_line c last k x t) j 0 ≡ get_or t j 0
    unfolding appended
    noted_kept j place link =
        ap (λ (u : List ℕ). get_or u j 0) (notes last k x t)
        ∙ kept (set t (lines + k) (stands x)) (lines + line_numbers + before last (action_in c x)) j k link
        ∙ kept t (lines + k) j (stands x) place

    module _ (sized : length t ≡ slots) (few : k < line_numbers) where
      noted_place : get_or (note_line c last k x t) (lines + k) 0 ≡ stands x
      unfolding appended
      noted_place =
          ap (λ (u : List ℕ). get_or u (lines + k) 0) (notes last k x t)
          ∙ kept (set t (lines + k) (stands x)) (lines + line_numbers + before last (action_in c x)) (lines + k) k (λ e. omega arith)
          ∙ get_or-set_same t (lines + k) (stands x) 0 (omega arith)

      noted_link : before last (action_in c x) < line_numbers + format.actions → get_or (note_line c last k x t) (lines + line_numbers + before last (action_in c x)) 0 ≡ k
      unfolding appended
      noted_link less =
          ap (λ (u : List ℕ). get_or u (lines + line_numbers + before last (action_in c x)) 0) (notes last k x t)
          ∙ get_or-set_same (set t (lines + k) (stands x)) (lines + line_numbers + before last (action_in c x)) k 0 (omega (arith, length-set t (lines + k) (stands x)))

  -- LINES from number k + 1 on leave alone what is no slot of theirs and what none of them comes after.
  later : (j k : ℕ) (last : List ℕ) (xs : List (Line c)) (t : List ℕ) → Lasts k last → k + length xs < line_numbers → ((x : Line c) → Has xs x → action_in c x < format.actions)
      → ((m : ℕ) → k < m → m < line_numbers → (j ≡ lines + m → ⊥) × (j ≡ lines + line_numbers + m → ⊥)) → ((b : ℕ) → b < format.actions → j ≡ lines + line_numbers + before (get_or last b 0) b → ⊥)
      → get_or (lines_noted c k last xs t) j 0 ≡ get_or t j 0
  unfolding lines_noted
  later j k last [] t lasts few good away ends = refl
  later j k last (x ∷ xs) t lasts few good away ends =
      later j (k + 1) (set last (action_in c x) (k + 1)) xs (note_line c (get_or last (action_in c x) 0) (k + 1) x t)
      (lasts_next k (action_in c x) last small lasts) (omega arith) (λ y has. good y (inr has)) (λ m more less. away m (omega arith) less)
      (λ b h. elim (ℕ_discrete b (action_in c x)) [
        | yes e ↦ λ q. (away (k + 1) (omega arith) (omega arith)).1 (q ∙ ap (λ (i : ℕ). lines + line_numbers + i) (rw (e, last_here k (action_in c x) last small lasts) (before_new k (action_in c x))))
        | no d ↦ λ q. ends b h (q ∙ ap (λ (l : ℕ). lines + line_numbers + before l b) (last_other k (action_in c x) last small lasts b d))
      ])
      ∙ noted_kept (get_or last (action_in c x) 0) (k + 1) x t j (away (k + 1) (omega arith) (omega arith)).0 (ends (action_in c x) small)
    where
      small : action_in c x < format.actions
      small = good x (inl refl)

  -- After what comes before the next line of action a there stand those of its lines that are still to be noted.
  record Follow (T : List ℕ) (k i : ℕ) (ps : List ℕ) : Type 0 where
    chain : Chain T lines (next_line T lines i) ps
    rises : 0 < next_line T lines i → k < next_line T lines i

  -- One line, of number k + 1, and those after it.
  module _ (k : ℕ) (last : List ℕ) (x : Line c) (t : List ℕ) (sized : length t ≡ slots) (lasts : Lasts k last) (acts : action_in c x < format.actions) (fits : k + 1 < line_numbers) where
    noted : List ℕ
    noted = note_line c (get_or last (action_in c x) 0) (k + 1) x t

    newest : List ℕ
    newest = set last (action_in c x) (k + 1)

    newest_lasts : Lasts (k + 1) newest
    unfolding newest
    newest_lasts = lasts_next k (action_in c x) last acts lasts

    -- What the next line of the same action comes after, and of another one.
    next_here : before (get_or newest (action_in c x) 0) (action_in c x) ≡ k + 1
    unfolding newest
    next_here = ap (λ (l : ℕ). before l (action_in c x)) (last_here k (action_in c x) last acts lasts) ∙ before_new k (action_in c x)

    next_other : (b : ℕ) → (b ≡ action_in c x → ⊥) → before (get_or newest b 0) b ≡ before (get_or last b 0) b
    unfolding newest
    next_other b other = ap (λ (l : ℕ). before l b) (last_other k (action_in c x) last acts lasts b other)

    module _ (fresh : (m : ℕ) → k < m → m < line_numbers → next_line t lines m ≡ 0) where
      fresh_then : (m : ℕ) → k < m → m < line_numbers → next_line noted lines m ≡ 0
      unfolding noted next_line
      fresh_then m more less =
          noted_kept (get_or last (action_in c x) 0) (k + 1) x t (lines + line_numbers + m) (λ e. omega arith) (λ e. before_old k last (omega arith) lasts (action_in c x) acts m more less (omega arith))
          ∙ fresh m more less

      none_here : next_line noted lines (before (get_or newest (action_in c x) 0) (action_in c x)) ≡ 0
      none_here = ap (next_line noted lines) next_here ∙ fresh_then (k + 1) (omega arith) fits

    none_other : (b : ℕ) → b < format.actions → (b ≡ action_in c x → ⊥) → next_line t lines (before (get_or last b 0) b) ≡ 0 → next_line noted lines (before (get_or newest b 0) b) ≡ 0
    unfolding noted next_line
    none_other b small other none =
        ap (λ (i : ℕ). get_or noted (lines + line_numbers + i) 0) (next_other b other)
        ∙ noted_kept (get_or last (action_in c x) 0) (k + 1) x t (lines + line_numbers + before (get_or last b 0) b) (λ e. omega arith)
        (λ e. other (before_apart k last (omega arith) lasts b (action_in c x) small acts (omega arith)))
        ∙ none

    module _ (xs : List (Line c)) (few : k + 1 + length xs < line_numbers) (good : (y : Line c) → Has xs y → action_in c y < format.actions) where
      after : List ℕ
      after = lines_noted c (k + 1) newest xs noted

      after_place : line_place after lines (k + 1) ≡ stands x
      unfolding after noted line_place
      after_place =
          later (lines + (k + 1)) (k + 1) newest xs noted newest_lasts few good (λ m more less. (λ e. omega arith, λ e. omega arith)) (λ b h e. omega arith)
          ∙ noted_place (get_or last (action_in c x) 0) (k + 1) x t sized fits

      after_link : next_line after lines (before (get_or last (action_in c x) 0) (action_in c x)) ≡ k + 1
      unfolding after noted next_line
      after_link =
          let most = lasts.most (action_in c x) acts in
          later (lines + line_numbers + before (get_or last (action_in c x) 0) (action_in c x)) (k + 1) newest xs noted newest_lasts few good
          (λ m more less. (λ e. omega arith, λ e. before_old k last (omega arith) lasts (action_in c x) acts m (omega arith) less (omega arith)))
          (λ b h e. elim (ℕ_discrete b (action_in c x)) [
            | yes q ↦ before_old k last (omega arith) lasts (action_in c x) acts (k + 1) (omega arith) fits (omega (arith, rw q at e, next_here))
            | no d ↦ d (sym (before_apart k last (omega arith) lasts (action_in c x) b acts h (omega (arith, e, next_other b d))))
          ])
          ∙ noted_link (get_or last (action_in c x) 0) (k + 1) x t sized fits (before_most (get_or last (action_in c x) 0) (action_in c x) (omega arith) acts)

      front : (ps : List ℕ) → Follow after (k + 1) (before (get_or newest (action_in c x) 0) (action_in c x)) ps → Follow after k (before (get_or last (action_in c x) 0) (action_in c x)) (stands x ∷ ps)
      unfolding Chain
      front ps rest =
          let on : Follow after (k + 1) (k + 1) ps = subst (λ (i : ℕ). Follow after (k + 1) i ps) next_here rest in
          record {
            chain = subst (λ (j : ℕ). Chain after lines j (stands x ∷ ps)) (sym after_link) (record { some = omega arith; few = fits; stands = after_place; rises = on.rises }, on.chain);
            rises = λ h. omega (arith, after_link);
          }

      passed : (b : ℕ) → (b ≡ action_in c x → ⊥) → (ps : List ℕ) → Follow after (k + 1) (before (get_or newest b 0) b) ps → Follow after k (before (get_or last b 0) b) ps
      passed b other ps rest =
          let on : Follow after (k + 1) (before (get_or last b 0) b) ps = subst (λ (i : ℕ). Follow after (k + 1) i ps) (next_other b other) rest in
          record { chain = on.chain; rises = λ h. let more = on.rises h in omega arith }

  follow : (a : ℕ) → a < format.actions → (k : ℕ) (last : List ℕ) (xs : List (Line c)) (t : List ℕ) → length t ≡ slots → Lasts k last → k + length xs < line_numbers
      → ((x : Line c) → Has xs x → action_in c x < format.actions) → ((m : ℕ) → k < m → m < line_numbers → next_line t lines m ≡ 0) → next_line t lines (before (get_or last a 0) a) ≡ 0
      → Follow (lines_noted c k last xs t) k (before (get_or last a 0) a) (places a xs)
  unfolding lines_noted Chain those_of noted newest after
  follow a small k last [] t sized lasts few good fresh none = record { chain = none; rises = λ h. absurd (omega (arith, none)) }
  follow a small k last (x ∷ xs) t sized lasts few good fresh none =
      let acts = good x (inl refl) in
      let fits : k + 1 < line_numbers = omega arith in
      let fewer : k + 1 + length xs < line_numbers = omega arith in
      let long : length (noted k last x t sized lasts acts fits) ≡ slots = note_long c (get_or last (action_in c x) 0) (k + 1) x t ∙ sized in
      let fresh' : (m : ℕ) → k + 1 < m → m < line_numbers → next_line (noted k last x t sized lasts acts fits) lines m ≡ 0 = λ m more less. fresh_then k last x t sized lasts acts fits fresh m (omega arith) less in
      by-test (eqb (action_in c x) a)
      (λ e.
      let is : action_in c x ≡ a = eqb-true _ _ e in
      rw (pick_true (eqb (action_in c x) a) (λ _. x ∷ those_of (λ (y : Line c). eqb (action_in c y) a) xs) (λ _. those_of (λ (y : Line c). eqb (action_in c y) a) xs) e)
      (subst (λ (b : ℕ). Follow (after k last x t sized lasts acts fits xs fewer (λ y has. good y (inr has))) k (before (get_or last b 0) b) (stands x ∷ places b xs)) is
      (front k last x t sized lasts acts fits xs fewer (λ y has. good y (inr has)) (places (action_in c x) xs)
      (follow (action_in c x) acts (k + 1) (newest k last x t sized lasts acts fits) xs (noted k last x t sized lasts acts fits) long
      (newest_lasts k last x t sized lasts acts fits) fewer (λ y has. good y (inr has)) fresh' (none_here k last x t sized lasts acts fits fresh)))))
      (λ e.
      let other : a ≡ action_in c x → ⊥ = λ q. eqb-false _ _ e (sym q) in
      rw (pick_false (eqb (action_in c x) a) (λ _. x ∷ those_of (λ (y : Line c). eqb (action_in c y) a) xs) (λ _. those_of (λ (y : Line c). eqb (action_in c y) a) xs) e)
      (passed k last x t sized lasts acts fits xs fewer (λ y has. good y (inr has)) a other (places a xs)
      (follow a small (k + 1) (newest k last x t sized lasts acts fits) xs (noted k last x t sized lasts acts fits) long
      (newest_lasts k last x t sized lasts acts fits) fewer (λ y has. good y (inr has)) fresh' (none_other k last x t sized lasts acts fits a small other none))))

  -- THE SECTION, over notes that have nothing in its slots.
  pub section_ordered : (a : ℕ) → a < format.actions → (xs : List (Line c)) (u : List ℕ) → length u ≡ slots → length xs < line_numbers → ((x : Line c) → Has xs x → action_in c x < format.actions)
      → Outside lines (count_slot c) → ((i : ℕ) → i < line_slots → get_or u (lines + i) 0 ≡ 0) → InOrder (section_noted c xs u) lines a (places a xs)
  unfolding section_noted InOrder first_line next_line
  section_ordered a small xs u sized few good apart blank =
      let counted : List ℕ = set u (count_slot c) (length xs) in
      let start : before (get_or none_yet a 0) a ≡ line_numbers + a = sym (before_first (get_or none_yet a 0) a (none_last a small)) in
      let empty : (i : ℕ) → i < line_numbers + format.actions → next_line counted lines i ≡ 0 = λ i less. empty_then u (length xs) apart blank i less in
      subst (λ (i : ℕ). Chain (lines_noted c 0 none_yet xs counted) lines (next_line (lines_noted c 0 none_yet xs counted) lines i) (places a xs)) start
      (follow a small 0 none_yet xs counted (length-set u (count_slot c) (length xs) ∙ sized) lasts_none (omega arith) good (λ m _ less. empty m (omega arith))
      (ap (next_line counted lines) start ∙ empty (line_numbers + a) (omega arith))).chain
    where
      empty_then : (u : List ℕ) (v : ℕ) → Outside lines (count_slot c) → ((i : ℕ) → i < line_slots → get_or u (lines + i) 0 ≡ 0) → (i : ℕ) → i < line_numbers + format.actions → next_line (set u (count_slot c) v) lines i ≡ 0
      empty_then u v apart blank i less =
          let same : lines + line_numbers + i ≡ lines + (line_numbers + i) = omega arith in
          kept u (count_slot c) (lines + line_numbers + i) v (λ e. apart (line_numbers + i) (omega arith) (omega arith))
          ∙ ap (λ (slot : ℕ). get_or u slot 0) same
          ∙ blank (line_numbers + i) (omega arith)

-- A TABLE that agrees on the slots of a section has the same lines in it.
module _ (lines : ℕ) (t u : List ℕ) (same : (i : ℕ) → i < line_slots → get_or u (lines + i) 0 ≡ get_or t (lines + i) 0) where
  same_place : (k : ℕ) → k < line_numbers → line_place u lines k ≡ line_place t lines k
  unfolding line_place
  same_place k less = same k (omega arith)

  same_next : (i : ℕ) → i < line_numbers + format.actions → next_line u lines i ≡ next_line t lines i
  unfolding next_line
  same_next i less =
      let slot : lines + line_numbers + i ≡ lines + (line_numbers + i) = omega arith in
      rw slot (same (line_numbers + i) (omega arith))

  chain_same : (j : ℕ) (ps : List ℕ) → Chain t lines j ps → Chain u lines j ps
  unfolding Chain
  chain_same j [] chain = chain
  chain_same j (p ∷ ps) chain =
      let line = chain.0 in
      let on = same_next j (let few = line.few in omega arith) in (
        record { some = line.some; few = line.few; stands = same_place j line.few ∙ line.stands; rises = rw on line.rises },
        subst (λ (i : ℕ). Chain u lines i ps) (sym on) (chain_same (next_line t lines j) ps chain.1),
      )

  pub order_same : (a : ℕ) (ps : List ℕ) → a < format.actions → InOrder t lines a ps → InOrder u lines a ps
  unfolding InOrder first_line
  order_same a ps small chain = subst (λ (j : ℕ). Chain u lines j ps) (sym (same_next (line_numbers + a) (omega arith))) (chain_same (next_line t lines (line_numbers + a)) ps chain)

-- An action has a first line exactly where it has a line.
module _ {A : Type 0} (stands : A → ℕ) (acts : A → Bool) (t : List ℕ) (lines : ℕ) where
  chain_some : (ys : List A) (j : ℕ) → Chain t lines j (map stands ys) → ltb 0 j ≡ some_of (λ (y : A). true) ys
  unfolding Chain some_of either
  chain_some [] j chain = le-ltb 0 j (omega arith)
  chain_some (y ∷ ys) j chain = lt-ltb 0 j chain.0.some

  those_some : (xs : List A) → some_of (λ (x : A). true) (those_of acts xs) ≡ some_of acts xs
  unfolding some_of those_of pick either
  those_some [] = refl
  those_some (x ∷ xs) = step (acts x) (those_some xs)
    where
      step : (b : Bool) → some_of (λ (y : A). true) (those_of acts xs) ≡ some_of acts xs
          → some_of (λ (y : A). true) (pick b (λ _. x ∷ those_of acts xs) (λ _. those_of acts xs)) ≡ either b (some_of acts xs)
      step true rest = refl
      step false rest = rest

  pub order_some : (a : ℕ) (xs : List A) → InOrder t lines a (map stands (those_of acts xs)) → ltb 0 (first_line t lines a) ≡ some_of acts xs
  unfolding InOrder
  order_some a xs chain = chain_some (those_of acts xs) (first_line t lines a) chain ∙ those_some xs
