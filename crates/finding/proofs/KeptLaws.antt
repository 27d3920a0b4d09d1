-- Noting one part leaves the slots of the others as they are. Assumes nothing.
use Prim.Native.Nat.{ℕ, ◌+◌, ◌-◌, ◌%◌, ◌≤◌, ◌<◌}
use native.Mathlib.Omega.{arith}
use native.Mathlib.Decide.{ℕ_discrete}
use mathlib.Core.Path.{◌≡◌, refl, sym, ◌∙◌, ap, subst}
use mathlib.Core.List.{List, [], ◌∷◌}
use mathlib.Core.Logic.{inl, inr}
use lib.ListN.{length, get_or, set, length-set, length-replicate, get_or-replicate}
use lib.Seq.{get_or-set_same, get_or-set_other}
use lib.Dec.{ltb}
use Rattle.meaning.specs.Tests.{Has}
use Rattle.meaning.specs.Limits.{format}
use Rattle.meaning.specs.Requests.{Sequence}
use Rattle.meaning.proofs.TestLaws.{by-test, pick_true, pick_false}
use Rattle.parsing.specs.Bits.{with_bit}
use Rattle.meaning.specs.declared.Form.{Form}
use Rattle.reading.specs.Noted.{Section, effects, executability, knowledge, Line, effect_lines, run_lines, before, appended, raised, word_bits, pair_slot, bit_noted, pair_noted, action_in, note_line, none_yet, lines_noted, count_slot, section_noted, sensed_from, sensed_to, sensed, line_numbers, line_slots}
use Rattle.reading.proofs.NotesLaws.{before_most}
use Rattle.reading.specs.Planned.{items_of, plan_noted, sequence_noted}
use Rattle.finding.proofs.PlanKept.{rest_length, rest_other}

-- A slot that another one's value does not touch, and the notes' length.
pub kept : (t : List ℕ) (i j v : ℕ) → (j ≡ i → ⊥) → get_or (set t i v) j 0 ≡ get_or t j 0
kept t i j v h = get_or-set_other t i j v 0 h

-- LINES. The last line of each action when k are noted: one of these, and no two actions have the same.
pub record Lasts (k : ℕ) (last : List ℕ) : Type 0 where
  pub sized : length last ≡ format.actions
  pub most : (b : ℕ) → b < format.actions → get_or last b 0 ≤ k
  pub apart : (b d : ℕ) → b < format.actions → d < format.actions → 0 < get_or last b 0 → get_or last b 0 ≡ get_or last d 0 → b ≡ d

pub none_last : (b : ℕ) → b < format.actions → get_or none_yet b 0 ≡ 0
unfolding none_yet
none_last b h = let none : ℕ = 0 in get_or-replicate format.actions b none none h

pub lasts_none : Lasts 0 none_yet
unfolding none_yet
lasts_none = record {
  sized = let none : ℕ = 0 in length-replicate format.actions none;
  most = λ b h. omega (arith, none_last b h);
  apart = λ b d h g some e. absurd (omega (arith, none_last b h));
}

module _ (k a : ℕ) (last : List ℕ) (small : a < format.actions) (lasts : Lasts k last) where
  pub last_here : get_or (set last a (k + 1)) a 0 ≡ k + 1
  last_here = let sized = lasts.sized in get_or-set_same last a (k + 1) 0 (omega arith)

  pub last_other : (b : ℕ) → (b ≡ a → ⊥) → get_or (set last a (k + 1)) b 0 ≡ get_or last b 0
  last_other b other = get_or-set_other last a b (k + 1) 0 other

  pub lasts_next : Lasts (k + 1) (set last a (k + 1))
  lasts_next =
      record {
        sized = length-set last a (k + 1) ∙ lasts.sized;
        most = λ b h. elim (ℕ_discrete b a) [ yes e ↦ rw (there b e) (omega arith) | no d ↦ rw (last_other b d) (older b h) ];
        apart = λ b d h g some e.
            elim (ℕ_discrete b a) [
              | yes f ↦ elim (ℕ_discrete d a) [ yes q ↦ f ∙ sym q | no q ↦ absurd (newer d g (sym (there b f) ∙ e ∙ last_other d q)) ]
              | no f ↦ elim (ℕ_discrete d a) [
                | yes q ↦ absurd (newer b h (sym (there d q) ∙ sym e ∙ last_other b f))
                | no q ↦ lasts.apart b d h g (subst (λ (y : ℕ). 0 < y) (last_other b f) some) (sym (last_other b f) ∙ e ∙ last_other d q)
              ]
            ];
      }
    where
      there : (b : ℕ) → b ≡ a → get_or (set last a (k + 1)) b 0 ≡ k + 1
      there b e = ap (λ (i : ℕ). get_or (set last a (k + 1)) i 0) e ∙ last_here

      older : (b : ℕ) → b < format.actions → get_or last b 0 ≤ k + 1
      older b h = let most = lasts.most b h in omega arith

      newer : (b : ℕ) → b < format.actions → k + 1 ≡ get_or last b 0 → ⊥
      newer b h e = let most = lasts.most b h in omega arith

-- A slot that is none of the section's.
abbrev pub Outside : (lines j : ℕ) → Type 0
Outside lines j = (i : ℕ) → i < line_slots → j ≡ lines + i → ⊥

module _ (j : ℕ) where
  pub appended_kept : (lines last k p a : ℕ) (t : List ℕ) → last < line_numbers → k < line_numbers → a < format.actions → Outside lines j → get_or (appended lines last k p a t) j 0 ≡ get_or t j 0
  unfolding appended
  appended_kept lines last k p a t h g small out =
      let most = before_most last a h small in
      kept (set t (lines + k) p) (lines + line_numbers + before last a) j k (λ e. out (line_numbers + before last a) (omega arith) (omega arith))
      ∙ kept t (lines + k) j p (out k (omega arith))

  pub raised_kept : (slot v : ℕ) (t : List ℕ) → (j ≡ slot → ⊥) → get_or (raised slot v t) j 0 ≡ get_or t j 0
  unfolding raised
  raised_kept slot v t h =
      by-test (ltb (get_or t slot 0) v)
      (λ e. rw (pick_true (ltb (get_or t slot 0) v) (λ _. set t slot v) (λ _. t) e) (kept t slot j v h))
      (λ e. rw (pick_false (ltb (get_or t slot 0) v) (λ _. set t slot v) (λ _. t) e))

  pub bit_noted_kept : (a f : ℕ) (t : List ℕ) → (j ≡ pair_slot a f → ⊥) → get_or (bit_noted a f t) j 0 ≡ get_or t j 0
  unfolding bit_noted
  bit_noted_kept a f t h = kept t (pair_slot a f) j (with_bit (get_or t (pair_slot a f) 0) (f % word_bits)) h

  pub pair_kept : (a f : ℕ) (t : List ℕ) → j < sensed → (j ≡ sensed_from + a → ⊥) → (j ≡ sensed_to + a → ⊥) → get_or (pair_noted a f t) j 0 ≡ get_or t j 0
  unfolding pair_noted
  pair_kept a f t h from to =
      raised_kept (sensed_to + a) (f + 1) (raised (sensed_from + a) (format.fluents - f) (bit_noted a f t)) to
      ∙ raised_kept (sensed_from + a) (format.fluents - f) (bit_noted a f t) from
      ∙ bit_noted_kept a f t (λ e. omega arith)

-- A given number of lines of a section, each of which is good for it.
module _ (c : Section) (j : ℕ) (Good : Line c → Type 0)
    (keeps : (last k : ℕ) (x : Line c) (t : List ℕ) → Good x → last < line_numbers → k < line_numbers → get_or (note_line c last k x t) j 0 ≡ get_or t j 0)
    (acts : (x : Line c) → Good x → action_in c x < format.actions) where
  lines_kept : (k : ℕ) (last : List ℕ) (xs : List (Line c)) (t : List ℕ) → Lasts k last → ((x : Line c) → Has xs x → Good x) → k + length xs < line_numbers
      → get_or (lines_noted c k last xs t) j 0 ≡ get_or t j 0
  unfolding lines_noted
  lines_kept k last [] t lasts good h = refl
  lines_kept k last (x ∷ xs) t lasts good h =
      let small = acts x (good x (inl refl)) in
      let most = lasts.most (action_in c x) small in
      lines_kept (k + 1) (set last (action_in c x) (k + 1)) xs (note_line c (get_or last (action_in c x) 0) (k + 1) x t) (lasts_next k (action_in c x) last small lasts) (λ y has. good y (inr has)) (omega arith)
      ∙ keeps (get_or last (action_in c x) 0) (k + 1) x t (good x (inl refl)) (omega arith) (omega arith)

  -- The section, with its count.
  pub section_kept : (xs : List (Line c)) (u : List ℕ) → ((x : Line c) → Has xs x → Good x) → length xs < line_numbers → (j ≡ count_slot c → ⊥) → get_or (section_noted c xs u) j 0 ≡ get_or u j 0
  unfolding section_noted
  section_kept xs u good few other =
      lines_kept 0 none_yet xs (set u (count_slot c) (length xs)) lasts_none good (omega arith)
      ∙ kept u (count_slot c) j (length xs) other

  -- The count itself stays.
  pub section_counted : (xs : List (Line c)) (u : List ℕ) → ((x : Line c) → Has xs x → Good x) → length xs < line_numbers → j ≡ count_slot c → j < length u → get_or (section_noted c xs u) j 0 ≡ length xs
  unfolding section_noted
  section_counted xs u good few is within =
      lines_kept 0 none_yet xs (set u (count_slot c) (length xs)) lasts_none good (omega arith)
      ∙ rw (sym is) (get_or-set_same u j (length xs) 0 within)

-- No noting changes the notes' length.
pub raised_long : (slot v : ℕ) (t : List ℕ) → length (raised slot v t) ≡ length t
unfolding raised
raised_long slot v t =
    by-test (ltb (get_or t slot 0) v)
    (λ e. rw (pick_true (ltb (get_or t slot 0) v) (λ _. set t slot v) (λ _. t) e) (length-set t slot v))
    (λ e. rw (pick_false (ltb (get_or t slot 0) v) (λ _. set t slot v) (λ _. t) e))

appended_long : (lines last k p a : ℕ) (t : List ℕ) → length (appended lines last k p a t) ≡ length t
unfolding appended
appended_long lines last k p a t = length-set (set t (lines + k) p) (lines + line_numbers + before last a) k ∙ length-set t (lines + k) p

pub bit_noted_long : (a f : ℕ) (t : List ℕ) → length (bit_noted a f t) ≡ length t
unfolding bit_noted
bit_noted_long a f t = length-set t (pair_slot a f) (with_bit (get_or t (pair_slot a f) 0) (f % word_bits))

pub note_long : (c : Section) (last k : ℕ) (l : Line c) (t : List ℕ) → length (note_line c last k l t) ≡ length t
unfolding note_line pair_noted
note_long effects last k e t = appended_long effect_lines last k e.place e.action t
note_long executability last k r t = appended_long run_lines last k r.place r.action t
note_long knowledge last k l t =
    let one : List ℕ = bit_noted l.action l.fluent t in
    raised_long (sensed_to + l.action) (l.fluent + 1) (raised (sensed_from + l.action) (format.fluents - l.fluent) one)
    ∙ raised_long (sensed_from + l.action) (format.fluents - l.fluent) one
    ∙ bit_noted_long l.action l.fluent t

lines_long : (c : Section) (k : ℕ) (last : List ℕ) (xs : List (Line c)) (t : List ℕ) → length (lines_noted c k last xs t) ≡ length t
unfolding lines_noted
lines_long c k last [] t = refl
lines_long c k last (x ∷ xs) t =
    lines_long c (k + 1) (set last (action_in c x) (k + 1)) xs (note_line c (get_or last (action_in c x) 0) (k + 1) x t)
    ∙ note_long c (get_or last (action_in c x) 0) (k + 1) x t

pub section_long : (c : Section) (xs : List (Line c)) (t : List ℕ) → length (section_noted c xs t) ≡ length t
unfolding section_noted
section_long c xs t = lines_long c 0 none_yet xs (set t (count_slot c) (length xs)) ∙ length-set t (count_slot c) (length xs)

pub plan_long : (form : Form) (p : ℕ) (t : List ℕ) (b : Sequence ℕ) → length (plan_noted form p t b) ≡ length t
unfolding plan_noted sequence_noted
plan_long form p t b = rest_length form b format.items 0 0 (p + 2) t

-- THE PLAN touches no slot of the lines.
pub plan_kept : (form : Form) (j : ℕ) → effect_lines ≤ j → (p : ℕ) (t : List ℕ) (b : Sequence ℕ) → items_of b ≤ format.items → get_or (plan_noted form p t b) j 0 ≡ get_or t j 0
unfolding plan_noted sequence_noted
plan_kept form j far p t b h = rest_other form b format.items 0 0 (p + 2) t j (omega arith) (λ some. (λ e. omega arith, λ e. omega arith)) (λ near _ _. omega arith)
