-- What an action senses after the knowledge lines are noted one by one: the bit of a pair, and the smallest and the largest fluent of the
-- action. Noting a line touches the bit of its own pair and the slots of its own action alone, and the bounds only grow. Assumes nothing.
use Prim.Native.Nat.{max, ℕ, ◌+◌, ◌-◌, ◌%◌, ◌≤◌, ◌<◌}
use native.Mathlib.Omega.{arith}
use native.Mathlib.Decide.{ℕ_discrete}
use mathlib.Core.Path.{◌≡◌, refl, sym, ◌∙◌, ap, subst}
use mathlib.Core.Bool.{Bool, true}
use mathlib.Core.List.{List, [], ◌∷◌}
use mathlib.Core.Logic.{inl, inr, ⊎_elim}
use lib.ListN.{length, get_or, set}
use lib.Seq.{get_or-set_same}
use lib.Dec.{eqb, ltb}
use borrow.Author.Tests.{eqb-true, eqb-false, eq-eqb, ltb-true, ltb-false}
use Rattle.meaning.specs.Tests.{both, either, some_of, Has}
use Rattle.meaning.specs.Limits.{format}
use Rattle.meaning.specs.Requests.{Knowledge}
use Rattle.meaning.proofs.TestLaws.{by-test, clash, same_test, both_left, both_right, both_true, either_left, either_right, either_split, pick_true, pick_false}
use Rattle.parsing.specs.Bits.{bit_of, with_bit}
use Rattle.reading.specs.Noted.{knowledge, raised, word_bits, pair_slot, pair_there, bit_noted, pair_noted, action_in, note_line, lines_noted, sensed_from, sensed_to, sensed, slots}
use Rattle.parsing.proofs.BitLaws.{bit_set, bit_kept}
use Rattle.finding.proofs.KeptLaws.{raised_kept, raised_long, bit_noted_kept, bit_noted_long, note_long}

raised_same : (slot v : ℕ) (t : List ℕ) → slot < length t → get_or (raised slot v t) slot 0 ≡ max (get_or t slot 0) v
unfolding raised
raised_same slot v t inside =
    by-test (ltb (get_or t slot 0) v)
    (λ e.
    let less = ltb-true (get_or t slot 0) v e in
    rw (pick_true (ltb (get_or t slot 0) v) (λ _. set t slot v) (λ _. t) e) (get_or-set_same t slot v 0 inside ∙ omega arith))
    (λ e.
    let most = ltb-false (get_or t slot 0) v e in
    rw (pick_false (ltb (get_or t slot 0) v) (λ _. set t slot v) (λ _. t) e) (omega arith))

-- ONE LINE of action b and fluent g.
module _ (b g : ℕ) (acts : b < format.actions) (fits : g < format.fluents) (t : List ℕ) (sized : length t ≡ slots) where
  one : List ℕ
  one = bit_noted b g t

  one_long : length one ≡ slots
  unfolding one
  one_long = bit_noted_long b g t ∙ sized

  two_long : length (raised (sensed_from + b) (format.fluents - g) one) ≡ slots
  two_long = raised_long (sensed_from + b) (format.fluents - g) one ∙ one_long

  one_slot : (j : ℕ) → j < sensed → get_or one j 0 ≡ get_or t j 0
  unfolding one
  one_slot j near = bit_noted_kept j b g t (λ e. omega arith)

  pair_slot_is : (j : ℕ) → sensed ≤ j → get_or (pair_noted b g t) j 0 ≡ get_or one j 0
  unfolding pair_noted one
  pair_slot_is j far = raised_kept j (sensed_to + b) (g + 1) (raised (sensed_from + b) (format.fluents - g) one) (λ e. omega arith) ∙ raised_kept j (sensed_from + b) (format.fluents - g) one (λ e. omega arith)

  word_is : get_or (pair_noted b g t) (pair_slot b g) 0 ≡ with_bit (get_or t (pair_slot b g) 0) (g % word_bits)
  unfolding one bit_noted
  word_is = pair_slot_is (pair_slot b g) (omega arith) ∙ get_or-set_same t (pair_slot b g) (with_bit (get_or t (pair_slot b g) 0) (g % word_bits)) 0 (omega arith)

  pair_same : pair_there (pair_noted b g t) b g ≡ true
  unfolding pair_there
  pair_same = ap (λ (w : ℕ). bit_of w (g % word_bits)) word_is ∙ bit_set (get_or t (pair_slot b g) 0) (g % word_bits)

  -- Another pair has another slot, or another bit of the same one.
  pair_other : (a f : ℕ) → a < format.actions → f < format.fluents → (b ≡ a → g ≡ f → ⊥) → pair_there (pair_noted b g t) a f ≡ pair_there t a f
  unfolding pair_there one
  pair_other a f small low other =
      elim (ℕ_discrete (pair_slot a f) (pair_slot b g)) [
        | yes e ↦
            ap (λ (j : ℕ). bit_of (get_or (pair_noted b g t) j 0) (f % word_bits)) e
            ∙ ap (λ (w : ℕ). bit_of w (f % word_bits)) word_is
            ∙ bit_kept (get_or t (pair_slot b g) 0) (g % word_bits) (f % word_bits) (λ h. other (omega arith) (omega arith))
            ∙ ap (λ (j : ℕ). bit_of (get_or t j 0) (f % word_bits)) (sym e)
        | no d ↦ ap (λ (w : ℕ). bit_of w (f % word_bits)) (pair_slot_is (pair_slot a f) (omega arith) ∙ bit_noted_kept (pair_slot a f) b g t d)
      ]

  from_slot : (a : ℕ) → a < format.actions → get_or (pair_noted b g t) (sensed_from + a) 0 ≡ get_or (raised (sensed_from + b) (format.fluents - g) one) (sensed_from + a) 0
  unfolding pair_noted one
  from_slot a small = raised_kept (sensed_from + a) (sensed_to + b) (g + 1) (raised (sensed_from + b) (format.fluents - g) one) (λ e. omega arith)

  from_same : get_or (pair_noted b g t) (sensed_from + b) 0 ≡ max (get_or t (sensed_from + b) 0) (format.fluents - g)
  from_same =
      from_slot b acts
      ∙ raised_same (sensed_from + b) (format.fluents - g) one (omega (arith, one_long))
      ∙ ap (λ (v : ℕ). max v (format.fluents - g)) (one_slot (sensed_from + b) (omega arith))

  from_other : (a : ℕ) → a < format.actions → (b ≡ a → ⊥) → get_or (pair_noted b g t) (sensed_from + a) 0 ≡ get_or t (sensed_from + a) 0
  from_other a small other =
      from_slot a small
      ∙ raised_kept (sensed_from + a) (sensed_from + b) (format.fluents - g) one (λ e. other (omega arith))
      ∙ one_slot (sensed_from + a) (omega arith)

  to_below : (a : ℕ) → a < format.actions → get_or (raised (sensed_from + b) (format.fluents - g) one) (sensed_to + a) 0 ≡ get_or t (sensed_to + a) 0
  to_below a small = raised_kept (sensed_to + a) (sensed_from + b) (format.fluents - g) one (λ e. omega arith) ∙ one_slot (sensed_to + a) (omega arith)

  to_same : get_or (pair_noted b g t) (sensed_to + b) 0 ≡ max (get_or t (sensed_to + b) 0) (g + 1)
  unfolding pair_noted one
  to_same =
      raised_same (sensed_to + b) (g + 1) (raised (sensed_from + b) (format.fluents - g) one) (omega (arith, two_long))
      ∙ ap (λ (v : ℕ). max v (g + 1)) (to_below b acts)

  to_other : (a : ℕ) → a < format.actions → (b ≡ a → ⊥) → get_or (pair_noted b g t) (sensed_to + a) 0 ≡ get_or t (sensed_to + a) 0
  unfolding pair_noted one
  to_other a small other = raised_kept (sensed_to + a) (sensed_to + b) (g + 1) (raised (sensed_from + b) (format.fluents - g) one) (λ e. other (omega arith)) ∙ to_below a small

-- WHAT THE TABLE SAYS of an action that senses just the fluents of `seen`.
pub record Sensed (t : List ℕ) (a : ℕ) (seen : ℕ → Bool) : Type 0 where
  pub pair : (f : ℕ) → f < format.fluents → pair_there t a f ≡ seen f
  pub most : get_or t (sensed_from + a) 0 ≤ format.fluents
  pub from : (f : ℕ) → seen f ≡ true → format.fluents - get_or t (sensed_from + a) 0 ≤ f
  pub to : (f : ℕ) → seen f ≡ true → f < get_or t (sensed_to + a) 0
  pub last : get_or t (sensed_to + a) 0 ≤ format.fluents
  pub some : 0 < get_or t (sensed_to + a) 0 → (f : ℕ) × (seen f ≡ true)

module _ (a : ℕ) where
  -- A line says that the action senses the fluent.
  unfoldable pub says : Knowledge → ℕ → Bool
  says l f = both (eqb l.action a) (eqb l.fluent f)

  unfoldable pub seen_after : (ℕ → Bool) → List Knowledge → ℕ → Bool
  seen_after seen [] = seen
  seen_after seen (l ∷ ls) = seen_after (λ f. either (seen f) (says l f)) ls

  pub seen_some : (seen : ℕ → Bool) (ls : List Knowledge) (f : ℕ) → seen_after seen ls f ≡ either (seen f) (some_of (λ (l : Knowledge). says l f) ls)
  unfolding seen_after some_of either
  seen_some seen [] f = by-test (seen f) (λ e. rw e) (λ e. rw e)
  seen_some seen (l ∷ ls) f = seen_some (λ g. either (seen g) (says l g)) ls f ∙ by-test (seen f) (λ e. rw e) (λ e. rw e)

  module _ (small : a < format.actions) (l : Knowledge) (acts : l.action < format.actions) (fits : l.fluent < format.fluents) (t : List ℕ) (sized : length t ≡ slots) (seen : ℕ → Bool) (before : Sensed t a seen) where
    -- Of another action: the slots of action a stay.
    other_noted : (l.action ≡ a → ⊥) → Sensed (pair_noted l.action l.fluent t) a (λ f. either (seen f) (says l f))
    unfolding says
    other_noted other =
        let from_is = from_other l.action l.fluent acts fits t sized a small other in
        let to_is = to_other l.action l.fluent acts fits t sized a small other in
        let was : (f : ℕ) → either (seen f) (both (eqb l.action a) (eqb l.fluent f)) ≡ true → seen f ≡ true = λ f e. ⊎_elim (λ h. h) (λ h. absurd (other (eqb-true _ _ (both_left _ _ h)))) (either_split _ _ e) in
        let most = before.most in let last = before.last in
        record {
          pair = λ f low.
              pair_other l.action l.fluent acts fits t sized a f small low (λ e _. other e)
              ∙ before.pair f low
              ∙ same_test (seen f) (either (seen f) (both (eqb l.action a) (eqb l.fluent f))) (either_left (seen f) (both (eqb l.action a) (eqb l.fluent f))) (was f);
          most = omega arith;
          from = λ f e. let h = before.from f (was f e) in rw from_is h;
          to = λ f e. let h = before.to f (was f e) in rw to_is h;
          last = omega arith;
          some = λ h. let w = before.some (omega arith) in (w.0, either_left _ _ w.1);
        }

    -- Of action a itself.
    own_noted : l.action ≡ a → Sensed (pair_noted l.action l.fluent t) a (λ f. either (seen f) (says l f))
    unfolding says
    own_noted is =
        let from_is : get_or (pair_noted l.action l.fluent t) (sensed_from + a) 0 ≡ max (get_or t (sensed_from + a) 0) (format.fluents - l.fluent) = subst (λ (b : ℕ). get_or (pair_noted l.action l.fluent t) (sensed_from + b) 0 ≡ max (get_or t (sensed_from + b) 0) (format.fluents - l.fluent)) is (from_same l.action l.fluent acts fits t sized) in
        let to_is : get_or (pair_noted l.action l.fluent t) (sensed_to + a) 0 ≡ max (get_or t (sensed_to + a) 0) (l.fluent + 1) = subst (λ (b : ℕ). get_or (pair_noted l.action l.fluent t) (sensed_to + b) 0 ≡ max (get_or t (sensed_to + b) 0) (l.fluent + 1)) is (to_same l.action l.fluent acts fits t sized) in
        let most = before.most in let last = before.last in
        record {
          pair = λ f low.
              by-test (eqb l.fluent f)
              (λ e.
              subst (λ (b : ℕ). pair_there (pair_noted l.action l.fluent t) b f ≡ true) is
              (subst (λ (g : ℕ). pair_there (pair_noted l.action l.fluent t) l.action g ≡ true) (eqb-true _ _ e) (pair_same l.action l.fluent acts fits t sized))
              ∙ sym (either_right _ _ (both_true _ _ (eq-eqb _ _ is) e)))
              (λ e.
              pair_other l.action l.fluent acts fits t sized a f small low (λ _ h. eqb-false _ _ e h)
              ∙ before.pair f low
              ∙ same_test (seen f) (either (seen f) (both (eqb l.action a) (eqb l.fluent f))) (either_left (seen f) (both (eqb l.action a) (eqb l.fluent f)))
              (λ h. ⊎_elim (λ i. i) (λ i. clash (both_right _ _ i) e) (either_split _ _ h)));
          most = omega arith;
          from = λ f e.
              ⊎_elim
              (λ h. let i = before.from f h in omega arith)
              (λ h. let i : l.fluent ≡ f = eqb-true _ _ (both_right _ _ h) in omega arith)
              (either_split _ _ e);
          to = λ f e.
              ⊎_elim
              (λ h. let i = before.to f h in omega arith)
              (λ h. let i : l.fluent ≡ f = eqb-true _ _ (both_right _ _ h) in omega arith)
              (either_split _ _ e);
          last = omega arith;
          some = λ _. (l.fluent, either_right _ _ (both_true _ _ (eq-eqb _ _ is) (eq-eqb l.fluent l.fluent refl)));
        }

    line_sensed : Sensed (pair_noted l.action l.fluent t) a (λ f. either (seen f) (says l f))
    line_sensed = by-test (eqb l.action a) (λ e. own_noted (eqb-true _ _ e)) (λ e. other_noted (eqb-false _ _ e))

  -- ALL LINES.
  pub lines_sensed : a < format.actions → (k : ℕ) (last : List ℕ) (ls : List Knowledge) (t : List ℕ) (seen : ℕ → Bool) → length t ≡ slots → ((l : Knowledge) → Has ls l → (l.action < format.actions) × (l.fluent < format.fluents)) → Sensed t a seen
      → Sensed (lines_noted knowledge k last ls t) a (seen_after seen ls)
  unfolding lines_noted action_in seen_after note_line
  lines_sensed small k last [] t seen sized good before = before
  lines_sensed small k last (l ∷ ls) t seen sized good before =
      let here = good l (inl refl) in
      lines_sensed small (k + 1) (set last l.action (k + 1)) ls (note_line knowledge (get_or last l.action 0) (k + 1) l t) (λ f. either (seen f) (says l f)) (note_long knowledge (get_or last l.action 0) (k + 1) l t ∙ sized) (λ m has. good m (inr has))
      (line_sensed small l here.0 here.1 t sized seen before)
