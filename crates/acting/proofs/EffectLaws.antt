-- The loop along an action's effects in file order: what the turns of all its effects leave is what those from line k on leave of what is there. At the
-- end that is the state after, since 16 has passed and the action can be run. Assumes nothing.
use Prim.Native.Nat.{ℕ, ◌+◌, ◌*◌, ◌/◌, ◌%◌, ◌≤◌, ◌<◌}
use native.Mathlib.Omega.{arith}
use native.Mathlib.Decide.{ℕ_discrete}
use mathlib.Core.Path.{◌≡◌, refl, sym, ◌∙◌, ap, ap₂, subst}
use mathlib.Core.Bool.{Bool, true, false}
use mathlib.Core.List.{List, [], ◌∷◌, map}
use mathlib.Core.Logic.{inl, inr}
use lib.ListN.{length, get_or, set, length-set}
use lib.Seq.{get_or-set_same, get_or-set_other, ext_get_or}
use lib.Dec.{eqb}
use mir.Syntax.{w64}
use mir.Val.{Fits}
use borrow.Author.Tests.{eq-eqb, ne_eqb}
use Rattle.meaning.specs.Tests.{pick, each_of, Has}
use Rattle.meaning.specs.Limits.{format}
use Rattle.meaning.specs.declared.Form.TheVariants.{Valued}
use Rattle.meaning.specs.Requests.{Effect}
use Rattle.meaning.specs.Reading.{values_in, literals_in}
use Rattle.meaning.specs.Refusals.{nowhere, first_against}
use Rattle.meaning.specs.Lines.{effects_of}
use Rattle.meaning.specs.States.{State}
use Rattle.meaning.specs.Values.{contradictory}
use Rattle.meaning.specs.ValueStates.{is_known, known, possible, can_be_run, known_after, state_after}
use Rattle.meaning.proofs.TestLaws.{pick_true, pick_false, those_has, map_has}
use Rattle.meaning.proofs.PickLaws.{pick_has}
use Rattle.parsing.specs.Masks.{FewValues}
use Rattle.reading.specs.Noted.{effect_lines, line_place, next_line, first_line}
use Rattle.reading.specs.Listed.{ValuesHere, listed_as}
use Rattle.reading.specs.Tables.{table_in}
use Rattle.reading.specs.declared.marks.Look.{Look}
use Rattle.reading.specs.declared.marks.Look.TheVariants as look
use Rattle.valuing.specs.Valuing.{ValuedMarks, look_values}
use Rattle.finding.specs.ValueLines.{ValueEffect, ValueEffects}
use Rattle.finding.proofs.AheadLaws.{Ahead, ahead_starts, ahead_none, ahead_first, line_others, line_rest, line_fit}
use Rattle.acting.proofs.ActingMarks.{told_valued, forgotten_valued}
use Rattle.acting.proofs.ValueApart.{set_apart}
use Rattle.acting.proofs.ValueSweeps.{turned, swept, swept_known, after_is}

-- THE EFFECT whose line stands at p.
abbrev effect_from : List ℕ → ℕ → Effect
effect_from s p = record { place = p; action = get_or s p 0; literal = get_or s (p + 1) 0 * 256 + get_or s (p + 2) 0; body = listed_as Valued s (p + 3) }

-- It is fit to be read: it sets a value of a fluent, and its body stands behind its literal.
pub record EffectFit (s : List ℕ) (p : ℕ) : Type 0 where
  pub fluent : (get_or s (p + 1) 0 * 256 + get_or s (p + 2) 0) / 256 < format.fluents
  pub value : (get_or s (p + 1) 0 * 256 + get_or s (p + 2) 0) % 256 / 2 < values_in s ((get_or s (p + 1) 0 * 256 + get_or s (p + 2) 0) / 256)
  pub body : ValuesHere s (p + 3)

from_is : (s : List ℕ) (e : Effect) → ValueEffect s e → effect_from s e.place ≡ e
from_is s e line = rw (line.action, line.literal, line.body.is)

module _ (s : List ℕ) (few : FewValues s) (e : Effect) (line : ValueEffect s e) where
  line_fits : EffectFit s e.place
  line_fits =
      let near = line.fluent in
      let low = line.second in
      let most = few.each (get_or s (e.place + 1) 0) in
      let is : (get_or s (e.place + 1) 0 * 256 + get_or s (e.place + 2) 0) / 256 ≡ get_or s (e.place + 1) 0 = omega (arith, low, most) in
      record {
        fluent = omega (arith, is, near);
        value = subst (λ (f : ℕ). (get_or s (e.place + 1) 0 * 256 + get_or s (e.place + 2) 0) % 256 / 2 < values_in s f) (sym is) (omega (arith, low, most));
        body = line.body.here;
      }

  line_near : e.literal / 256 < format.fluents
  line_near = subst (λ (l : ℕ). l / 256 < format.fluents) line.literal line_fits.fluent

map_from : (s : List ℕ) (es : List Effect) → ((e : Effect) → Has es e → effect_from s e.place ≡ e) → map (effect_from s) (map (λ (e : Effect). e.place) es) ≡ es
map_from s [] is = refl
map_from s (e ∷ es) is = ap₂ {C = List Effect} (λ g gs. g ∷ gs) (is e (inl refl)) (map_from s es (λ g h. is g (inr h)))

-- WHAT THE TURNS LEFT so far.
pub record Sweeping (s t : List ℕ) (a : ℕ) (marks next : State) (k : ℕ) : Type 0 where
  pub ahead : Ahead (EffectFit s) t effect_lines k
  pub valued : ValuedMarks s next
  pub same : swept (literals_in s) marks (effects_of (table_in Valued s) a) marks ≡ swept (literals_in s) marks (map (effect_from s) ahead.rest) next

module _ (s t : List ℕ) (here : ValueEffects s t) (a : ℕ) where
  line_of : (e : Effect) → Has (effects_of (table_in Valued s) a) e → ValueEffect s e
  unfolding effects_of
  line_of e has = here.line e (those_has _ (table_in Valued s).effects e has).0

  pub sweeping_starts : FewValues s → (k : ℕ) (marks : State) → a < format.actions → ValuedMarks s marks → k ≡ first_line t effect_lines a → Sweeping s t a marks marks k
  unfolding ahead_starts
  sweeping_starts few k marks small so at =
      let es = effects_of (table_in Valued s) a in
      record {
        ahead = ahead_starts (EffectFit s) t effect_lines a (map (λ (e : Effect). e.place) es) (here.order a small)
            (λ p has. let w = map_has (λ (e : Effect). e.place) es p has in subst (EffectFit s) (sym w.2) (line_fits s few w.0 (line_of w.0 w.1)))
            k at;
        valued = so;
        same = ap (λ (gs : List Effect). swept (literals_in s) marks gs marks) (sym (map_from s es (λ e has. from_is s e (line_of e has))));
      }

-- AT A LINE.
module _ (s t : List ℕ) (k : ℕ) (ahead : Ahead (EffectFit s) t effect_lines k) (more : 0 < k) (p : ℕ) (at : p ≡ line_place t effect_lines k) where
  effect_line : EffectFit s p
  effect_line = line_fit (EffectFit s) t effect_lines k ahead more p at

  pub effect_body : ValuesHere s (p + 3)
  effect_body = effect_line.body

  pub effect_one_there : p + 1 < length s
  effect_one_there = let ends = effect_body.ends in omega arith

  pub effect_second_there : p + 2 < length s
  effect_second_there = let ends = effect_body.ends in omega arith

  module _ (room : Fits w64 (length s)) where
    pub effect_one_fits : Fits w64 (p + 1)
    effect_one_fits = let ends = effect_body.ends in let most = room.fits in record { fits = omega arith }

    pub effect_second_fits : Fits w64 (p + 2)
    effect_second_fits = let ends = effect_body.ends in let most = room.fits in record { fits = omega arith }

    pub effect_body_fits : Fits w64 (p + 3)
    effect_body_fits = let ends = effect_body.ends in let most = room.fits in record { fits = omega arith }

  module _ (l : ℕ) (is : l ≡ get_or s (p + 1) 0 * 256 + get_or s (p + 2) 0) where
    pub effect_fluent : l / 256 < format.fluents
    effect_fluent = subst (λ (x : ℕ). x / 256 < format.fluents) (sym is) effect_line.fluent

    effect_value : l % 256 / 2 < values_in s (l / 256)
    effect_value = subst (λ (x : ℕ). x % 256 / 2 < values_in s (x / 256)) (sym is) effect_line.value

-- A mark that is there put in again.
put_again : (next : State) (f mark : ℕ) → get_or next f 0 ≡ mark → f < length next → set next f mark ≡ next
put_again next f mark there near =
    ext_get_or 0 (set next f mark) next (length-set next f mark)
    (λ g _. elim (ℕ_discrete g f) [
      | yes same ↦ ap (λ (h : ℕ). get_or (set next f mark) h 0) same ∙ get_or-set_same next f mark 0 near ∙ sym there ∙ ap (λ (h : ℕ). get_or next h 0) (sym same)
      | no other ↦ get_or-set_other next f g mark 0 other
    ])

-- What a look at a body leads to.
unfoldable by_look : Look → (known possible never : State) → State
by_look o x y z = elim o [ look.Known ↦ x | look.Possible ↦ y | look.Never ↦ z ]

look_is : (s marks b : List ℕ) (x y z : State)
    → pick (each_of (known (literals_in s) marks) b) (λ _. x) (λ _. pick (each_of (possible (literals_in s) marks) b) (λ _. y) (λ _. z)) ≡ by_look (look_values s marks b) x y z
unfolding look_values by_look pick
look_is s marks b x y z = go (each_of (known (literals_in s) marks) b) (each_of (possible (literals_in s) marks) b)
  where
    go : (c d : Bool) → pick c (λ _. x) (λ _. pick d (λ _. y) (λ _. z)) ≡ by_look (pick c (λ _. look.Known) (λ _. pick d (λ _. look.Possible) (λ _. look.Never))) x y z
    go true d = refl
    go false true = refl
    go false false = refl

module _ (s t : List ℕ) (a : ℕ) (marks next : State) (k : ℕ) (sweeps : Sweeping s t a marks next k) where
  sweep_done : k ≤ 0 → swept (literals_in s) marks (effects_of (table_in Valued s) a) marks ≡ next
  unfolding swept
  sweep_done h = sweeps.same ∙ ap (λ (ps : List ℕ). swept (literals_in s) marks (map (effect_from s) ps) next) (ahead_none (EffectFit s) t effect_lines k sweeps.ahead h)

  module _ (more : 0 < k) (p j : ℕ) (at : p ≡ line_place t effect_lines k) (onward : j ≡ next_line t effect_lines k) where
    sweep_on : (after : State) → ValuedMarks s after → turned (literals_in s) marks (effect_from s p) next ≡ after → Sweeping s t a marks after j
    unfolding swept line_others
    sweep_on after fine e = record {
      ahead = line_others (EffectFit s) t effect_lines k sweeps.ahead more j onward;
      valued = fine;
      same =
          sweeps.same
          ∙ ap (λ (ps : List ℕ). swept (literals_in s) marks (map (effect_from s) ps) next) (line_rest (EffectFit s) t effect_lines k sweeps.ahead more p at)
          ∙ ap (swept (literals_in s) marks (map (effect_from s) (ahead_first (EffectFit s) t effect_lines k sweeps.ahead more).others)) e;
    }

    module _ (l mark : ℕ) (is : l ≡ get_or s (p + 1) 0 * 256 + get_or s (p + 2) 0) (marked : mark ≡ l % 256 / 2 + 1) where
      abbrev body : List ℕ
      body = listed_as Valued s (p + 3)

      turn_is : turned (literals_in s) marks (effect_from s p) next
          ≡ pick (eqb (get_or next (l / 256) 0) mark) (λ _. next) (λ _.
          pick (each_of (known (literals_in s) marks) body) (λ _. set next (l / 256) mark) (λ _.
          pick (each_of (possible (literals_in s) marks) body) (λ _. set next (l / 256) 0) (λ _. next)))
      unfolding turned
      turn_is = rw (marked, is)

      near : l / 256 < format.fluents
      near = effect_fluent s t k sweeps.ahead more p at l is

      tells : ValuedMarks s (set next (l / 256) mark)
      tells =
          subst (λ (m : ℕ). ValuedMarks s (set next (l / 256) m)) (sym marked)
          (told_valued s next sweeps.valued (l / 256) (l % 256 / 2) near (effect_value s t k sweeps.ahead more p at l is))

      -- The value that the effect sets is known already.
      pub sweep_known : get_or next (l / 256) 0 ≡ mark → Sweeping s t a marks next j
      sweep_known e = sweep_on next sweeps.valued (turn_is ∙ pick_true _ _ _ (eq-eqb _ _ e))

      module _ (not : get_or next (l / 256) 0 ≡ mark → ⊥) where
        -- None is known: only a body known true does something.
        module _ (sure : Bool) (tested : sure ≡ each_of (known (literals_in s) marks) (listed_as Valued s (p + 3))) where
          pub sweep_told : sure ≡ true → Sweeping s t a marks (set next (l / 256) mark) j
          sweep_told e = sweep_on (set next (l / 256) mark) tells (turn_is ∙ pick_false _ _ _ (ne_eqb _ _ not) ∙ pick_true _ _ _ (sym tested ∙ e))

          pub sweep_unknown : sure ≡ false → get_or next (l / 256) 0 ≡ 0 → Sweeping s t a marks next j
          sweep_unknown e none =
              sweep_on next sweeps.valued
              (turn_is
              ∙ pick_false _ _ _ (ne_eqb _ _ not)
              ∙ pick_false _ _ _ (sym tested ∙ e)
              ∙ pick_has (λ (u : State). u ≡ next) _ _ _ (λ _. put_again next (l / 256) 0 none (subst (λ (n : ℕ). l / 256 < n) (sym sweeps.valued.sized) near)) (λ _. refl))

        -- Another is known: a look at the body tells what becomes of it.
        module _ (o : Look) (looked : o ≡ look_values s marks (listed_as Valued s (p + 3))) where
          look_turns : (result : Look) → o ≡ result → turned (literals_in s) marks (effect_from s p) next ≡ by_look result (set next (l / 256) mark) (set next (l / 256) 0) next
          look_turns result e =
              turn_is
              ∙ pick_false _ _ _ (ne_eqb _ _ not)
              ∙ look_is s marks body (set next (l / 256) mark) (set next (l / 256) 0) next
              ∙ ap (λ (x : Look). by_look x (set next (l / 256) mark) (set next (l / 256) 0) next) (sym looked ∙ e)

          pub look_told : o ≡ look.Known → Sweeping s t a marks (set next (l / 256) mark) j
          unfolding by_look
          look_told e = sweep_on (set next (l / 256) mark) tells (look_turns look.Known e)

          pub look_forgotten : o ≡ look.Possible → Sweeping s t a marks (set next (l / 256) 0) j
          unfolding by_look
          look_forgotten e = sweep_on (set next (l / 256) 0) (forgotten_valued s next sweeps.valued (l / 256) near) (look_turns look.Possible e)

          pub look_kept : o ≡ look.Never → Sweeping s t a marks next j
          unfolding by_look
          look_kept e = sweep_on next sweeps.valued (look_turns look.Never e)

-- AT THE END.
pub after_swept : (s t : List ℕ) (a : ℕ) (marks next : State) (k : ℕ) → ValueEffects s t → FewValues s → ValuedMarks s marks
    → first_against (contradictory (literals_in s) (table_in Valued s)) [] (table_in Valued s).effects ≡ nowhere → can_be_run (literals_in s) (table_in Valued s) a marks ≡ true
    → Sweeping s t a marks next k → k ≤ 0 → next ≡ state_after (literals_in s) (table_in Valued s) a marks
unfolding known_after
after_swept s t a marks next k here few so passed runs sweeps h =
    let table = table_in Valued s in
    let es = effects_of table a in
    let near : (e : Effect) → Has es e → e.literal / 256 < length marks = λ e has. subst (λ (n : ℕ). e.literal / 256 < n) (sym so.sized) (line_near s few e (line_of s t here a e has)) in
    after_is (literals_in s) table a marks next (sweeps.valued.sized ∙ sym so.sized) sweeps.valued.small
    (λ f v.
    ap (λ (u : State). is_known u f v) (sym (sweep_done s t a marks next k sweeps h))
    ∙ swept_known (literals_in s) marks es marks near f v (set_apart (literals_in s) table passed a marks runs f v))
