-- The loops along an action's lines in file order: what all its lines give is what those from line k on give. Assumes nothing.
use Prim.Native.Nat.{ℕ, ◌+◌, ◌-◌, ◌/◌, ◌≤◌, ◌<◌}
use native.Mathlib.Omega.{arith}
use mathlib.Core.Path.{◌≡◌, refl, sym, ◌∙◌, ap}
use mathlib.Core.Bool.{Bool, true, false}
use mathlib.Core.List.{List}
use lib.ListN.{length, get_or, set}
use lib.Dec.{ltb, eqb}
use mir.Syntax.{w64}
use mir.Val.{Fits}
use borrow.Author.Tests.{eqb-true, eqb-false, eq-eqb, ne_eqb, lt-ltb, le-ltb}
use Rattle.meaning.specs.declared.Runs.{Runs}
use Rattle.meaning.specs.declared.Runs.TheVariants.{By, Short, Never}
use Rattle.meaning.specs.Tests.{pick, each_of}
use Rattle.meaning.specs.Limits.{format, all_literals}
use Rattle.meaning.specs.Literals.{fluent_of, complement}
use Rattle.meaning.specs.Lines.{executability_of}
use Rattle.meaning.specs.States.{State, mark_of, known, told, can_be_run}
use Rattle.meaning.specs.Asking.{short_by, nearest, asked, allows}
use Rattle.meaning.proofs.AskingLaws.{can_be_run_asked}
use Rattle.meaning.proofs.TestLaws.{by-test, pick_true, pick_false}
use Rattle.meaning.proofs.PickLaws.{pick_has}
use Rattle.meaning.proofs.LiteralLaws.{fluent_complement}
use Rattle.reading.specs.Noted.{effect_lines, run_lines, line_place, next_line, first_line, line_numbers}
use Rattle.reading.specs.Listed.{listed, ListHere, holds_as, look_at}
use Rattle.finding.specs.LinesHere.{EffectHere}
use Rattle.finding.proofs.AheadLaws.{Ahead, RunsAhead, ahead_starts, ahead_none, ahead_first, line_few, line_others, line_rest, line_fit}
use Rattle.reading.specs.declared.marks.Test.TheVariants.{Known}
use Rattle.reading.specs.declared.marks.Look.{Look}
use Rattle.reading.specs.declared.marks.Look.TheVariants as look
use Rattle.reading.proofs.MarkLaws.{mark_other, mark_most}
use Rattle.steps.specs.Held.{table_in}
use Rattle.steps.specs.AtHand.{AtHand, Marked}
use Rattle.steps.specs.LinesFound.{run_places, effect_places, short_at, fewest_at, nearest_at, first_allowing_at}
use Rattle.steps.proofs.Served.{runs_at_hand, effects_at_hand}
use Rattle.steps.proofs.Sweeps.{mark_some, undone, turned, turn_is, swept_one, swept_at}
use Rattle.steps.proofs.LookLaws.{marked_set}
use Rattle.meaning.specs.declared.Form.TheVariants.{Flags}

-- EXECUTABILITY LINES.
-- What asking gives where no line allows the action.
abbrev pub near : (s : List ℕ) (a : ℕ) (marks : State) → Runs
near s a marks = nearest (known marks) (executability_of (table_in Flags s) a)

pub record Running (s t : List ℕ) (a : ℕ) (marks : State) (k : ℕ) : Type 0 where
  pub ahead : RunsAhead s t k
  pub same : asked (table_in Flags s) a marks ≡ first_allowing_at s (known marks) ahead.rest (λ _. near s a marks)

-- The best line before line k stands at `best` and is short by `fewest`.
pub record Nearing (s t : List ℕ) (a : ℕ) (marks : State) (best fewest k : ℕ) : Type 0 where
  pub ahead : RunsAhead s t k
  pub same : near s a marks ≡ Short (fewest_at s (known marks) best fewest ahead.rest)

positive : (k : ℕ) → (k ≡ 0 → ⊥) → 0 < k
positive k some = by-test (eqb k 0) (λ t. absurd (some (eqb-true _ _ t))) (λ f. let other = eqb-false k 0 f in omega (arith, other))

-- All the action's lines.
module _ (s t : List ℕ) (a : ℕ) (k : ℕ) (here : AtHand Flags s t) (small : a < format.actions) (at : k ≡ first_line t run_lines a) where
  abbrev runs_all : RunsAhead s t k
  runs_all = ahead_starts (λ (p : ℕ). ListHere all_literals s (p + 1)) t run_lines a (run_places Flags s a) (here.runs a small) (runs_at_hand s t here a).lines k at

  pub running_starts : (marks : State) → Running s t a marks k
  unfolding asked ahead_starts
  running_starts marks = record { ahead = runs_all; same = sym ((runs_at_hand s t here a).first (known marks) (λ _. near s a marks)) }

  -- It has none.
  pub never_near : (marks : State) → k ≡ 0 → Never ≡ near s a marks
  unfolding ahead_starts nearest_at
  never_near marks none =
      sym (sym ((runs_at_hand s t here a).near (known marks)) ∙ ap (nearest_at s (known marks)) (ahead_none (λ (p : ℕ). ListHere all_literals s (p + 1)) t run_lines k runs_all (omega (arith, none))))

  -- Or a first one.
  module _ (some : k ≡ 0 → ⊥) where
    abbrev there : 0 < k
    there = positive k some

    pub first_few : k < line_numbers
    first_few = line_few (λ (p : ℕ). ListHere all_literals s (p + 1)) t run_lines k runs_all there

    module _ (p : ℕ) (stands : p ≡ line_place t run_lines k) where
      pub first_body : ListHere all_literals s (p + 1)
      first_body = line_fit (λ (q : ℕ). ListHere all_literals s (q + 1)) t run_lines k runs_all there p stands

      pub first_body_fits : Fits w64 (length s) → Fits w64 (p + 1)
      first_body_fits room = let ends = first_body.ends in let most = room.fits in record { fits = omega arith }

      pub nearing_starts : (marks : State) (short j : ℕ) → short ≡ short_by (known marks) (listed s (p + 1)) → j ≡ next_line t run_lines k → Nearing s t a marks p short j
      unfolding ahead_starts line_others nearest_at short_at
      nearing_starts marks short j counted onward =
          let Body : ℕ → Type 0 = λ q. ListHere all_literals s (q + 1) in
          record {
            ahead = line_others Body t run_lines k runs_all there j onward;
            same =
                sym ((runs_at_hand s t here a).near (known marks))
                ∙ ap (nearest_at s (known marks)) (line_rest Body t run_lines k runs_all there p stands)
                ∙ ap (λ (n : ℕ). Short (fewest_at s (known marks) p n (ahead_first Body t run_lines k runs_all there).others)) (sym counted);
          }

module _ (s t : List ℕ) (a : ℕ) (marks : State) (k : ℕ) (run : Running s t a marks k) where
  pub running_done : k ≤ 0 → (r : Runs) → r ≡ near s a marks → r ≡ asked (table_in Flags s) a marks
  unfolding first_allowing_at
  running_done h r is =
      is ∙ sym (run.same ∙ ap (λ (ps : List ℕ). first_allowing_at s (known marks) ps (λ _. near s a marks)) (ahead_none _ t run_lines k run.ahead h))

  module _ (more : 0 < k) (p : ℕ) (at : p ≡ line_place t run_lines k) where
    others : List ℕ
    others = (ahead_first (λ (q : ℕ). ListHere all_literals s (q + 1)) t run_lines k run.ahead more).others

    pub run_body : ListHere all_literals s (p + 1)
    run_body = line_fit (λ (q : ℕ). ListHere all_literals s (q + 1)) t run_lines k run.ahead more p at

    pub run_body_fits : Fits w64 (length s) → Fits w64 (p + 1)
    run_body_fits room = let ends = run_body.ends in let most = room.fits in record { fits = omega arith }

    module _ (b : Bool) (tested : b ≡ each_of (holds_as Known marks) (listed s (p + 1))) where
      run_whole : asked (table_in Flags s) a marks ≡ pick b (λ _. By p) (λ _. first_allowing_at s (known marks) others (λ _. near s a marks))
      unfolding others first_allowing_at holds_as
      run_whole =
          run.same ∙ ap (λ (ps : List ℕ). first_allowing_at s (known marks) ps (λ _. near s a marks)) (line_rest _ t run_lines k run.ahead more p at) ∙ rw tested

      pub run_met : b ≡ true → By p ≡ asked (table_in Flags s) a marks
      run_met e = sym (run_whole ∙ pick_true _ _ _ e)

      pub run_next : (j : ℕ) → b ≡ false → j ≡ next_line t run_lines k → Running s t a marks j
      unfolding others line_others
      run_next j e onward = record { ahead = line_others _ t run_lines k run.ahead more j onward; same = run_whole ∙ pick_false _ _ _ e }

module _ (s t : List ℕ) (a : ℕ) (marks : State) (best fewest k : ℕ) (nears : Nearing s t a marks best fewest k) where
  pub nearing_done : k ≤ 0 → Short best ≡ near s a marks
  unfolding fewest_at
  nearing_done h = sym (nears.same ∙ ap (λ (ps : List ℕ). Short (fewest_at s (known marks) best fewest ps)) (ahead_none _ t run_lines k nears.ahead h))

  module _ (more : 0 < k) (p : ℕ) (at : p ≡ line_place t run_lines k) where
    later : List ℕ
    later = (ahead_first (λ (q : ℕ). ListHere all_literals s (q + 1)) t run_lines k nears.ahead more).others

    pub near_body : ListHere all_literals s (p + 1)
    near_body = line_fit (λ (q : ℕ). ListHere all_literals s (q + 1)) t run_lines k nears.ahead more p at

    pub near_body_fits : Fits w64 (length s) → Fits w64 (p + 1)
    near_body_fits room = let ends = near_body.ends in let most = room.fits in record { fits = omega arith }

    module _ (short j : ℕ) (counted : short ≡ short_by (known marks) (listed s (p + 1))) (onward : j ≡ next_line t run_lines k) where
      near_whole : near s a marks ≡ Short (pick (ltb short fewest) (λ _. fewest_at s (known marks) p short later) (λ _. fewest_at s (known marks) best fewest later))
      unfolding later fewest_at short_at
      near_whole =
          nears.same
          ∙ ap (λ (ps : List ℕ). Short (fewest_at s (known marks) best fewest ps)) (line_rest _ t run_lines k nears.ahead more p at)
          ∙ rw counted

      pub near_fewer : short < fewest → Nearing s t a marks p short j
      unfolding later line_others
      near_fewer less = record { ahead = line_others _ t run_lines k nears.ahead more j onward; same = near_whole ∙ ap Short (pick_true _ _ _ (lt-ltb _ _ less)) }

      pub near_kept : fewest ≤ short → Nearing s t a marks best fewest j
      unfolding later line_others
      near_kept not = record { ahead = line_others _ t run_lines k nears.ahead more j onward; same = near_whole ∙ ap Short (pick_false _ _ _ (le-ltb _ _ not)) }

-- WHETHER IT CAN BE RUN.
none_allows : (r : Runs) → ((p : ℕ) → r ≡ By p → ⊥) → false ≡ allows r
unfolding allows
none_allows (By p) other = absurd (other p refl)
none_allows (Short p) other = refl
none_allows Never other = refl

module _ (s : List ℕ) (a : ℕ) (marks : State) (r : Runs) (is : r ≡ asked (table_in Flags s) a marks) where
  runs_is : can_be_run (table_in Flags s) a marks ≡ allows r
  runs_is = can_be_run_asked (table_in Flags s) a marks ∙ ap allows (sym is)

  pub runs_by : (p : ℕ) → r ≡ By p → true ≡ can_be_run (table_in Flags s) a marks
  unfolding allows
  runs_by p e = sym (runs_is ∙ ap allows e)

  pub runs_other : ((p : ℕ) → r ≡ By p → ⊥) → false ≡ can_be_run (table_in Flags s) a marks
  runs_other other = none_allows r other ∙ sym runs_is

-- EFFECTS.
abbrev pub EffectsAhead : (s t : List ℕ) (k : ℕ) → Type 0
EffectsAhead s t k = Ahead (EffectHere Flags s) t effect_lines k

module _ (s t : List ℕ) (k : ℕ) (ahead : EffectsAhead s t k) (more : 0 < k) (p : ℕ) (at : p ≡ line_place t effect_lines k) where
  effect_line : EffectHere Flags s p
  effect_line = line_fit (EffectHere Flags s) t effect_lines k ahead more p at

  pub effect_body : ListHere all_literals s (p + 2)
  effect_body = effect_line.body

  pub effect_one_there : p + 1 < length s
  effect_one_there = let ends = effect_line.body.ends in omega arith

  module _ (room : Fits w64 (length s)) where
    pub effect_body_fits : Fits w64 (p + 2)
    effect_body_fits = let ends = effect_line.body.ends in let most = room.fits in record { fits = omega arith }

    pub effect_one_fits : Fits w64 (p + 1)
    effect_one_fits = let ends = effect_line.body.ends in let most = room.fits in record { fits = omega arith }

  pub effect_fluent : (l : ℕ) → l ≡ get_or s (p + 1) 0 → l / 2 < format.fluents
  effect_fluent l e = let below = effect_line.literal in omega arith

-- Of three marks one is neither of the other two.
third : (m mark : ℕ) → 0 < mark → mark ≤ 2 → m ≤ 2 → (m ≡ mark → ⊥) → (m ≡ 0 → ⊥) → m ≡ 3 - mark
third m mark least most small not some = omega (arith, not, some)

-- What was told and undone so far.
pub record Sweeping (s t : List ℕ) (a : ℕ) (marks next : State) (k : ℕ) : Type 0 where
  pub ahead : EffectsAhead s t k
  pub marked : Marked next
  pub same : swept_at s marks (effect_places Flags s a) marks ≡ swept_at s marks ahead.rest next

pub sweeping_starts : (s t : List ℕ) (a k : ℕ) (marks : State) → AtHand Flags s t → a < format.actions → Marked marks → k ≡ first_line t effect_lines a → Sweeping s t a marks marks k
unfolding ahead_starts
sweeping_starts s t a k marks here small fine at = record {
  ahead = ahead_starts (EffectHere Flags s) t effect_lines a (effect_places Flags s a) (here.effects a small) (effects_at_hand s t here a).lines k at;
  marked = fine;
  same = refl;
}

module _ (s t : List ℕ) (a : ℕ) (marks next : State) (k : ℕ) (sweeps : Sweeping s t a marks next k) where
  pub sweep_done : k ≤ 0 → swept_at s marks (effect_places Flags s a) marks ≡ next
  unfolding swept_at
  sweep_done h = sweeps.same ∙ ap (λ (qs : List ℕ). swept_at s marks qs next) (ahead_none (EffectHere Flags s) t effect_lines k sweeps.ahead h)

  module _ (more : 0 < k) (p j : ℕ) (at : p ≡ line_place t effect_lines k) (onward : j ≡ next_line t effect_lines k) where
    sweep_on : (after : State) → Marked after → swept_one s marks p next ≡ after → Sweeping s t a marks after j
    unfolding swept_at line_others
    sweep_on after fine e = record {
      ahead = line_others (EffectHere Flags s) t effect_lines k sweeps.ahead more j onward;
      marked = fine;
      same =
          sweeps.same
          ∙ ap (λ (qs : List ℕ). swept_at s marks qs next) (line_rest (EffectHere Flags s) t effect_lines k sweeps.ahead more p at)
          ∙ ap (swept_at s marks (ahead_first (EffectHere Flags s) t effect_lines k sweeps.ahead more).others) e;
    }

    module _ (l mark : ℕ) (is : l ≡ get_or s (p + 1) 0) (marked : mark ≡ mark_of l) where
      says_this : known next (get_or s (p + 1) 0) ≡ eqb (get_or next (l / 2) 0) mark
      unfolding known fluent_of
      says_this = rw (marked, is)

      says_against : known next (complement (get_or s (p + 1) 0)) ≡ eqb (get_or next (l / 2) 0) (3 - mark)
      unfolding known fluent_of
      says_against = rw (marked, is, fluent_complement (get_or s (p + 1) 0), mark_other (get_or s (p + 1) 0))

      mark_there : 0 < mark
      mark_there = let some = mark_some l in omega arith

      mark_small : mark ≤ 2
      mark_small = let most = mark_most l in omega arith

      fluent_there : l / 2 < format.fluents
      fluent_there = effect_fluent s t k sweeps.ahead more p at l is

      nothing_against : get_or next (l / 2) 0 ≡ 0 → get_or next (l / 2) 0 ≡ 3 - mark → ⊥
      nothing_against z q = let most = mark_small in omega arith

      -- What the effect gives is known already.
      pub sweep_known : get_or next (l / 2) 0 ≡ mark → Sweeping s t a marks next j
      unfolding swept_one
      sweep_known e = sweep_on next sweeps.marked (pick_true _ _ _ (says_this ∙ eq-eqb _ _ e))

      tells : Marked (set next (l / 2) mark)
      tells = marked_set next (l / 2) mark sweeps.marked fluent_there mark_small

      module _ (not : get_or next (l / 2) 0 ≡ mark → ⊥) where
        says_not : known next (get_or s (p + 1) 0) ≡ false
        says_not = says_this ∙ ne_eqb _ _ not

        -- Nothing is known of the fluent: only a body known true does something.
        module _ (sure : Bool) (tested : sure ≡ each_of (holds_as Known marks) (listed s (p + 2))) where
          pub sweep_told : sure ≡ true → Sweeping s t a marks (set next (l / 2) mark) j
          unfolding swept_one holds_as told fluent_of
          sweep_told e = sweep_on (set next (l / 2) mark) tells (pick_false _ _ _ says_not ∙ pick_true _ _ _ (sym tested ∙ e) ∙ rw (marked, is))

          pub sweep_unknown : sure ≡ false → get_or next (l / 2) 0 ≡ 0 → Sweeping s t a marks next j
          unfolding swept_one holds_as undone
          sweep_unknown e z =
              sweep_on next sweeps.marked
              (pick_false _ _ _ says_not
              ∙ pick_false _ _ _ (sym tested ∙ e)
              ∙ pick_has (λ (u : State). u ≡ next) _ _ _ (λ _. pick_false _ _ _ (says_against ∙ ne_eqb _ _ (nothing_against z))) (λ _. refl))

        -- Its complement is known: a look at the body tells what becomes of it.
        module _ (o : Look) (looked : o ≡ look_at marks (listed s (p + 2))) where
          turn : (result : Look) → o ≡ result → swept_one s marks p next ≡ turned result (get_or s (p + 1) 0) next
          unfolding swept_one
          turn result e =
              pick_false _ _ _ says_not
              ∙ turn_is marks (listed s (p + 2)) (get_or s (p + 1) 0) next
              ∙ ap (λ (x : Look). turned x (get_or s (p + 1) 0) next) (sym looked ∙ e)

          pub look_told : o ≡ look.Known → Sweeping s t a marks (set next (l / 2) mark) j
          unfolding turned told fluent_of
          look_told e = sweep_on (set next (l / 2) mark) tells (turn look.Known e ∙ rw (marked, is))

          pub look_undone : o ≡ look.Possible → (get_or next (l / 2) 0 ≡ 0 → ⊥) → Sweeping s t a marks (set next (l / 2) 0) j
          unfolding turned undone fluent_of
          look_undone e some =
              sweep_on (set next (l / 2) 0) (marked_set next (l / 2) 0 sweeps.marked fluent_there (omega arith))
              (turn look.Possible e ∙ pick_true _ _ _ (says_against ∙ eq-eqb _ _ (third _ _ mark_there mark_small (sweeps.marked.small (l / 2)) not some)) ∙ rw is)

          pub look_kept : o ≡ look.Never → Sweeping s t a marks next j
          unfolding turned
          look_kept e = sweep_on next sweeps.marked (turn look.Never e)
