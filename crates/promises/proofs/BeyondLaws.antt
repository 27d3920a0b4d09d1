-- A walk knows nothing beyond the fluents of its request (FORMAT 4.48): the facts, the literals of effects and the sensed fluents were read below
-- their bound, and fillings fill no other fluents, so no step sets a mark from there up, and a walk keeps what its steps keep. Assumes nothing.
use Prim.Native.Nat.{ℕ, ◌*◌, ◌≤◌, ◌<◌}
use native.Mathlib.Omega.{arith}
use native.Mathlib.Decide.{dec_lt}
use mathlib.Core.Path.{◌≡◌, refl, sym, ◌∙◌}
use mathlib.Core.Bool.{false}
use mathlib.Core.List.{List, [], ◌∷◌, map}
use mathlib.Core.Logic.{inl, inr, ⊎_elim}
use lib.ListN.{length, get_or, replicate, get_or-eq_default}
use lib.Seq.{get_or-set_other}
use borrow.Author.Tests.{le-ltb}
use Rattle.meaning.specs.Tests.{either, each_of, Has}
use Rattle.meaning.specs.Limits.{format}
use Rattle.meaning.specs.Literals.{says_true, says_false, fluent_of}
use Rattle.meaning.specs.Requests.{Table, Entry, Request}
use Rattle.meaning.specs.Lines.{effects_of}
use Rattle.meaning.specs.States.{State, mark_of, known, known_whether, told, told_all, state_of, first_state, known_after, mark_after, state_after}
use Rattle.meaning.specs.Walk.{guarded_step, walked_guarded}
use Rattle.meaning.specs.ByCases.{upward, complete, after_each, after_cases, cases_step, walked_by_cases}
use Rattle.meaning.specs.Reported.{pair_of}
use Rattle.meaning.proofs.TestLaws.{by-test, both_left, clash, either_split, pick_false, each_has, has_map}
use Rattle.meaning.proofs.LiteralLaws.{fluent_true, fluent_false}
use Rattle.meaning.proofs.RangeLaws.{Ranged}
use Rattle.meaning.proofs.StateLaws.{known_true, known_false, unknown_mark, after_length}
use Rattle.meaning.proofs.PairLaws.{given_pair, after_mark, after_known, caused_within}
use Rattle.meaning.proofs.SensingLaws.{unknown_neither, sensed_within, read_is}
use Rattle.meaning.proofs.FillingLaws.{filling_length, some_filling, shared_at, cases_length}
use Rattle.demands.proofs.CompleteLaws.{filling_completes}
use Rattle.glintstring.specs.LentState.{BlankFrom}
use Rattle.verdicts.proofs.KeepingLaws.{EndHas, KeptBy, table_keeps, cases_keep, walked_kept}

module _ (n : ℕ) where
  told_blank : (l : ℕ) → fluent_of l < n → (s : State) → BlankFrom n s → BlankFrom n (told l s)
  unfolding told
  told_blank l near s blank f far = get_or-set_other s (fluent_of l) f (mark_of l) 0 (λ e. omega arith) ∙ blank f far

  told_all_blank : (ls : List ℕ) → ((l : ℕ) → Has ls l → l < 2 * n) → (s : State) → BlankFrom n s → BlankFrom n (told_all ls s)
  unfolding told_all fluent_of
  told_all_blank [] within s blank = blank
  told_all_blank (l ∷ ls) within s blank =
      let near = within l (inl refl) in
      told_all_blank ls (λ k h. within k (inr h)) (told l s) (told_blank l (omega arith) s blank)

module _ (t : Table) (ranged : Ranged format t) where
  first_blank : BlankFrom t.fluents (first_state format t)
  unfolding first_state state_of
  first_blank = told_all_blank t.fluents t.facts ranged.facts (replicate format.state 0) (λ f _. unknown_mark format.state f)

  -- AN ACTION gives no literal from there up, and what was not known is not known after it.
  still_unknown : (a : ℕ) (s : State) (l : ℕ) → 2 * t.fluents ≤ l → known s l ≡ false → known_after (effects_of t a) s l ≡ false
  unfolding known_after
  still_unknown a s l far none =
      by-test _
      (λ e. ⊎_elim (λ is. clash is none) (λ is. clash is (sym (given_pair t a (known s) l) ∙ caused_within t a t.fluents ranged.effects (known s) l far)) (either_split _ _ (both_left _ _ e)))
      (λ e. e)

  mark_blank : (a : ℕ) (s : State) (f : ℕ) → t.fluents ≤ f → get_or s f 0 ≡ 0 → mark_after (effects_of t a) s f ≡ 0
  unfolding mark_after says_true says_false
  mark_blank a s f far none =
      pick_false _ _ _ (still_unknown a s (says_true f) (omega arith) (known_true s f ∙ rw none refl))
      ∙ pick_false _ _ _ (still_unknown a s (says_false f) (omega arith) (known_false s f ∙ rw none refl))

  after_blank : (a : ℕ) (s : State) → BlankFrom t.fluents s → BlankFrom t.fluents (state_after t a s)
  after_blank a s blank f far =
      elim (dec_lt f (length s)) [
        | yes near ↦ after_mark t a s f near ∙ mark_blank a s f far (blank f far)
        | no beyond ↦ get_or-eq_default (state_after t a s) 0 {n = f} (rw (after_length t a s) (omega arith))
      ]

  -- BY CASES a filling knows no fluent from there up, and there is one: so its result shares no mark there.
  filling_unknown : (s u : State) → Has (complete t s) u → (f : ℕ) → t.fluents ≤ f → f < length s → get_or s f 0 ≡ 0 → known_whether u f ≡ false
  unfolding pair_of known_whether either
  filling_unknown s u h f far near none =
      (filling_completes t s (omega (arith, far, near)) u h).domain f
      ∙ rw (known_true s f, known_false s f, none, le-ltb f t.fluents far) refl

  shared_unknown : (a : ℕ) (s : State) (f : ℕ) → t.fluents ≤ f → f < length s → get_or s f 0 ≡ 0 → (l : ℕ) → fluent_of l ≡ f
      → each_of (λ (u : State). known u l) (map (state_after t a) (complete t s)) ≡ false
  unfolding complete fluent_of
  shared_unknown a s f far near none l of-f =
      let w = some_filling (upward 0 t.fluents) s in
      let u : State = w.0 in
      let long = filling_length (upward 0 t.fluents) s u w.1 in
      by-test _
      (λ e. clash (each_has (λ (v : State). known v l) (map (state_after t a) (complete t s)) (state_after t a u) e (has_map (state_after t a) (complete t s) u w.1))
      (after_known t a u l (omega (arith, of-f, near, long)) ∙ still_unknown a u l (omega (arith, of-f, far)) (unknown_neither u l (rw of-f (filling_unknown s u w.1 f far near none)))))
      (λ e. e)

  after_cases_blank : (a : ℕ) (s : State) → BlankFrom t.fluents s → BlankFrom t.fluents (after_cases t a s)
  unfolding after_cases after_each
  after_cases_blank a s blank f far =
      elim (dec_lt f (length s)) [
        | yes near ↦
            shared_at (map (state_after t a) (complete t s)) s f near
            ∙ pick_false _ _ _ (shared_unknown a s f far near (blank f far) (says_true f) (fluent_true f))
            ∙ pick_false _ _ _ (shared_unknown a s f far near (blank f far) (says_false f) (fluent_false f))
        | no beyond ↦ get_or-eq_default (after_cases t a s) 0 {n = f} (rw (cases_length t a s) (omega arith))
      ]

  -- Neither does a reading set one.
  blank_by : (after : ℕ → State → State) → ((a : ℕ) (s : State) → BlankFrom t.fluents s → BlankFrom t.fluents (after a s)) → KeptBy (BlankFrom t.fluents) t after
  unfolding says_true says_false fluent_of
  blank_by after acts = record {
    reads = λ a s f h u blank.
        let near = sensed_within t a t.fluents ranged.knowledge f (read_is t a s f h).1 in
        (told_blank t.fluents (says_true f) (omega arith) u blank, told_blank t.fluents (says_false f) (omega arith) u blank);
    acts = acts;
  }

-- THE WALK from the first state, with guards or without, and by cases.
module _ (r : Request) (ranged : Ranged format r.table) where
  abbrev Blank : State → Type 0
  Blank = BlankFrom r.table.fluents

  pub walked_blank : (gs : List Entry) → EndHas Blank (walked_guarded r gs (first_state format r.table)).end
  unfolding walked_guarded guarded_step
  walked_blank gs =
      walked_kept Blank r (guarded_step r.table gs) (table_keeps Blank r.table (blank_by r.table ranged (state_after r.table) (after_blank r.table ranged)))
      (first_state format r.table) (first_blank r.table ranged)

  pub walked_cases_blank : EndHas Blank (walked_by_cases r (first_state format r.table)).end
  unfolding walked_by_cases cases_step
  walked_cases_blank =
      walked_kept Blank r (cases_step r.table) (cases_keep Blank r.table (blank_by r.table ranged (after_cases r.table) (after_cases_blank r.table ranged)))
      (first_state format r.table) (first_blank r.table ranged)
