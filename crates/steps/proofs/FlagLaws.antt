-- The flags of the open fluents of an action: the loop over a body, the loops along its lines, and what a flag then says. Assumes nothing.
use Prim.Native.Nat.{ℕ, suc, ◌+◌, ◌/◌, ◌≤◌, ◌<◌}
use native.Mathlib.Omega.{arith}
use mathlib.Core.Path.{◌≡◌, refl, sym, ◌∙◌, ap}
use mathlib.Core.Bool.{Bool, true, false}
use mathlib.Core.List.{List, [], ◌∷◌}
use mathlib.Core.Logic.{inl, inr}
use lib.ListN.{length, get_or, set, drop, replicate, length-set, drop_of_length-le, get_or-replicate, length-replicate}
use lib.Seq.{get_or-set_same, get_or-set_other, drop-cons}
use lib.Dec.{eqb}
use mir.Syntax.{w64}
use mir.Val.{Fits}
use borrow.Author.Tests.{eqb-true, eqb-false, eq-eqb, ne_eqb}
use Rattle.meaning.specs.Tests.{both, either, fails, pick, some_of}
use Rattle.meaning.specs.Limits.{format, all_literals}
use Rattle.meaning.specs.Literals.{fluent_of}
use Rattle.meaning.specs.States.{State, known_whether}
use Rattle.meaning.specs.ByCases.{in_body, in_bodies}
use Rattle.meaning.proofs.TestLaws.{by-test, pick_true, pick_false, pick_map}
use Rattle.meaning.proofs.PickLaws.{pick_has}
use Rattle.reading.specs.Noted.{effect_lines, run_lines, line_place, next_line, first_line}
use Rattle.reading.specs.Listed.{listed, ListHere}
use Rattle.finding.proofs.AheadLaws.{Ahead, ahead_starts, ahead_none, ahead_first, line_others, line_rest, line_fit}
use Rattle.steps.specs.Held.{table_in}
use Rattle.steps.specs.LinesFound.{run_places, effect_places}
use Rattle.steps.specs.AtHand.{AtHand, Marked}
use Rattle.steps.specs.Flags.{flagged, flagged_at, HasBodies, places_of, OpenFlags}
use Rattle.steps.proofs.SliceLaws.{entries, slice_listed, slice_below}
use Rattle.steps.proofs.Served.{runs_at_hand, effects_at_hand}
use Rattle.steps.proofs.LookLaws.{unmarked_unknown, marked_known}
use Rattle.meaning.specs.declared.Form.TheVariants.{Flags}

-- ONE BODY: flagged its literals from number i on, the flags are the whole's.
pub record FlagsAhead (marks ls whole flags : List ℕ) (i : ℕ) : Type 0 where
  pub is : whole ≡ flagged marks (drop i ls) flags

pub flags_start : (s : List ℕ) (p : ℕ) → ListHere all_literals s p → (x : ℕ) → x ≡ get_or s p 0 → (marks flags : State)
    → FlagsAhead marks (entries s p x) (flagged marks (listed s p) flags) flags 0
flags_start s p here x byte marks flags = record { is = ap (λ (ls : List ℕ). flagged marks ls flags) (slice_listed all_literals s p here x byte) }

pub flag_near : (s : List ℕ) (p : ℕ) → ListHere all_literals s p → (x : ℕ) → x ≡ get_or s p 0 → (i : ℕ) → i < length (entries s p x) → (l : ℕ) → l ≡ get_or (entries s p x) i 0 → l / 2 < format.fluents
flag_near s p here x byte i more l entry = let below = slice_below all_literals s p here x byte i more l entry in omega arith

module _ (marks ls whole flags : List ℕ) (i : ℕ) (so_far : FlagsAhead marks ls whole flags i) where
  module _ (more : i < length ls) (l : ℕ) (entry : l ≡ get_or ls i 0) where
    flag_step : (after : List ℕ) → pick (eqb (get_or marks (l / 2) 0) 0) (λ _. set flags (l / 2) 1) (λ _. flags) ≡ after → FlagsAhead marks ls whole after (i + 1)
    unfolding flagged fluent_of
    flag_step after is =
        let up : suc i ≡ i + 1 = omega arith in
        record { is = so_far.is ∙ rw (drop-cons ls i 0 more, ← entry, up) (ap (flagged marks (drop (i + 1) ls)) is) }

    pub flag_set : get_or marks (l / 2) 0 ≡ 0 → FlagsAhead marks ls whole (set flags (l / 2) 1) (i + 1)
    flag_set e = flag_step (set flags (l / 2) 1) (pick_true _ _ _ (eq-eqb _ _ e))

    pub flag_kept : (get_or marks (l / 2) 0 ≡ 0 → ⊥) → FlagsAhead marks ls whole flags (i + 1)
    flag_kept some = flag_step flags (pick_false _ _ _ (ne_eqb _ _ some))

  pub flags_done : length ls ≤ i → flags ≡ whole
  unfolding flagged
  flags_done h = sym (so_far.is ∙ rw (drop_of_length-le ls {i = i} h))

-- ALONG AN ACTION'S LINES, whose bodies stand so many bytes behind their places.
abbrev pub BodiesAhead : (s t : List ℕ) (lines behind k : ℕ) → Type 0
BodiesAhead s t lines behind k = Ahead (λ (p : ℕ). ListHere all_literals s (p + behind)) t lines k

pub record Flagging (s t : List ℕ) (lines behind : ℕ) (marks flags whole : List ℕ) (k : ℕ) : Type 0 where
  pub ahead : BodiesAhead s t lines behind k
  pub same : whole ≡ flagged_at s marks behind ahead.rest flags

-- The section of effects, or that of executability lines.
effect_section : (s : List ℕ) (a : ℕ) → places_of effect_lines s a ≡ effect_places Flags s a
unfolding places_of
effect_section s a = pick_true _ _ _ (eq-eqb effect_lines effect_lines refl)

run_section : (s : List ℕ) (a : ℕ) → places_of run_lines s a ≡ run_places Flags s a
unfolding places_of
run_section s a = pick_false _ _ _ (ne_eqb run_lines effect_lines (λ e. omega arith))

module _ (s t : List ℕ) (a : ℕ) (here : AtHand Flags s t) (small : a < format.actions) (marks flags : State) where
  pub lines_start : (lines behind k : ℕ) → HasBodies lines behind → k ≡ first_line t lines a → Flagging s t lines behind marks flags (flagged_at s marks behind (places_of lines s a) flags) k
  unfolding ahead_starts
  lines_start lines behind k (inl is) at =
      rw (is.0, is.1, effect_section s a)
      (record {
        ahead = ahead_starts (λ (p : ℕ). ListHere all_literals s (p + 2)) t effect_lines a (effect_places Flags s a) (here.effects a small) (λ p h. ((effects_at_hand s t here a).lines p h).body) k (rw (sym is.0) at);
        same = refl;
      })
  lines_start lines behind k (inr is) at =
      rw (is.0, is.1, run_section s a)
      (record {
        ahead = ahead_starts (λ (p : ℕ). ListHere all_literals s (p + 1)) t run_lines a (run_places Flags s a) (here.runs a small) (runs_at_hand s t here a).lines k (rw (sym is.0) at);
        same = refl;
      })

module _ (s t : List ℕ) (lines behind : ℕ) (marks flags whole : List ℕ) (k : ℕ) (flagging : Flagging s t lines behind marks flags whole k) where
  abbrev Fit : ℕ → Type 0
  Fit p = ListHere all_literals s (p + behind)

  pub lines_done : k ≤ 0 → flags ≡ whole
  unfolding flagged_at
  lines_done h = sym (flagging.same ∙ ap (λ (ps : List ℕ). flagged_at s marks behind ps flags) (ahead_none Fit t lines k flagging.ahead h))

  module _ (more : 0 < k) (p : ℕ) (at : p ≡ line_place t lines k) where
    pub body_there : ListHere all_literals s (p + behind)
    body_there = line_fit Fit t lines k flagging.ahead more p at

    pub body_fits : Fits w64 (length s) → Fits w64 (p + behind)
    body_fits room = let ends = body_there.ends in let most = room.fits in record { fits = omega arith }

    pub line_flagged : (j : ℕ) (after : List ℕ) → j ≡ next_line t lines k → after ≡ flagged marks (listed s (p + behind)) flags → Flagging s t lines behind marks after whole j
    unfolding flagged_at line_others
    line_flagged j after onward is = record {
      ahead = line_others Fit t lines k flagging.ahead more j onward;
      same =
          flagging.same
          ∙ ap (λ (ps : List ℕ). flagged_at s marks behind ps flags) (line_rest Fit t lines k flagging.ahead more p at)
          ∙ ap (flagged_at s marks behind (ahead_first Fit t lines k flagging.ahead more).others) (sym is);
    }

-- WHAT A FLAG SAYS. It is set where a test passes, and is else as it was.
abbrev set_where : Bool → ℕ → ℕ
set_where b m = pick b (λ _. 1) (λ _. m)

set_twice : (b c u : Bool) (m : ℕ) → set_where (both c u) (set_where (both b u) m) ≡ set_where (both (either b c) u) m
unfolding both either pick
set_twice true true true m = refl
set_twice true true false m = refl
set_twice true false true m = refl
set_twice true false false m = refl
set_twice false true true m = refl
set_twice false true false m = refl
set_twice false false u m = refl

module _ (s : List ℕ) (marks : State) (f : ℕ) where
  abbrev unmarked : Bool
  unmarked = eqb (get_or marks f 0) 0

  -- One literal.
  abbrev after_one : ℕ → List ℕ → List ℕ
  after_one l flags = pick (eqb (get_or marks (fluent_of l) 0) 0) (λ _. set flags (fluent_of l) 1) (λ _. flags)

  one_length : (l : ℕ) (flags : List ℕ) → length (after_one l flags) ≡ length flags
  one_length l flags = pick_has (λ (u : List ℕ). length u ≡ length flags) _ _ _ (λ _. length-set flags (fluent_of l) 1) (λ _. refl)

  own_flag : (flags : List ℕ) → f < length flags → get_or (pick unmarked (λ _. set flags f 1) (λ _. flags)) f 0 ≡ set_where unmarked (get_or flags f 0)
  own_flag flags near =
      pick_map (λ (v : List ℕ). get_or v f 0) unmarked (λ _. set flags f 1) (λ _. flags)
      ∙ ap (λ (m : ℕ). pick unmarked (λ _. m) (λ _. get_or flags f 0)) (get_or-set_same flags f 1 0 near)

  one_flag : (l : ℕ) (flags : List ℕ) → f < length flags → get_or (after_one l flags) f 0 ≡ set_where (both (eqb (fluent_of l) f) unmarked) (get_or flags f 0)
  unfolding both
  one_flag l flags near =
      by-test (eqb (fluent_of l) f)
      (λ e.
      ap (λ (g : ℕ). get_or (pick (eqb (get_or marks g 0) 0) (λ _. set flags g 1) (λ _. flags)) f 0) (eqb-true _ _ e)
      ∙ own_flag flags near
      ∙ ap (λ (b : Bool). set_where (both b unmarked) (get_or flags f 0)) (sym e))
      (λ e.
      pick_has (λ (v : List ℕ). get_or v f 0 ≡ get_or flags f 0) _ _ _ (λ _. get_or-set_other flags (fluent_of l) f 1 0 (λ q. eqb-false _ _ e (sym q))) (λ _. refl)
      ∙ sym (pick_false (both (eqb (fluent_of l) f) unmarked) _ _ (ap (λ (b : Bool). both b unmarked) e)))

  -- The literals of a body.
  flagged_length : (ls flags : List ℕ) → length (flagged marks ls flags) ≡ length flags
  unfolding flagged
  flagged_length [] flags = refl
  flagged_length (l ∷ ls) flags = flagged_length ls (after_one l flags) ∙ one_length l flags

  flagged_flag : (ls flags : List ℕ) → f < length flags → get_or (flagged marks ls flags) f 0 ≡ set_where (both (in_body f ls) unmarked) (get_or flags f 0)
  unfolding flagged in_body some_of both pick
  flagged_flag [] flags near = refl
  flagged_flag (l ∷ ls) flags near =
      flagged_flag ls (after_one l flags) (rw (one_length l flags) near)
      ∙ ap (set_where (both (in_body f ls) unmarked)) (one_flag l flags near)
      ∙ set_twice (eqb (fluent_of l) f) (in_body f ls) unmarked (get_or flags f 0)

  -- The bodies of lines.
  module _ (behind : ℕ) where
    abbrev in_body_at : ℕ → Bool
    in_body_at p = in_body f (listed s (p + behind))

    at_length : (ps flags : List ℕ) → length (flagged_at s marks behind ps flags) ≡ length flags
    unfolding flagged_at
    at_length [] flags = refl
    at_length (p ∷ ps) flags = at_length ps (flagged marks (listed s (p + behind)) flags) ∙ flagged_length (listed s (p + behind)) flags

    at_flag : (ps flags : List ℕ) → f < length flags → get_or (flagged_at s marks behind ps flags) f 0 ≡ set_where (both (some_of in_body_at ps) unmarked) (get_or flags f 0)
    unfolding flagged_at some_of both pick
    at_flag [] flags near = refl
    at_flag (p ∷ ps) flags near =
        let now = flagged marks (listed s (p + behind)) flags in
        at_flag ps now (rw (flagged_length (listed s (p + behind)) flags) near)
        ∙ ap (set_where (both (some_of in_body_at ps) unmarked)) (flagged_flag (listed s (p + behind)) flags near)
        ∙ set_twice (in_body_at p) (some_of in_body_at ps) unmarked (get_or flags f 0)

-- An unknown fluent is one without a mark.
unmarked_is : (marks : State) (f : ℕ) → Marked marks → eqb (get_or marks f 0) 0 ≡ fails (known_whether marks f)
unfolding fails
unmarked_is marks f marked =
    by-test (eqb (get_or marks f 0) 0)
    (λ e. e ∙ sym (ap fails (unmarked_unknown marks f (eqb-true _ _ e))))
    (λ e. e ∙ sym (ap fails (marked_known marks f marked (eqb-false _ _ e))))

-- ALL BODIES of the action, from no flag on.
module _ (s t : List ℕ) (a : ℕ) (marks one r : State) (here : AtHand Flags s t) (marked : Marked marks)
    (first-flags : one ≡ flagged_at s marks 2 (places_of effect_lines s a) (replicate format.fluents 0)) (then-flags : r ≡ flagged_at s marks 1 (places_of run_lines s a) one) where
  first : one ≡ flagged_at s marks 2 (effect_places Flags s a) (replicate format.fluents 0)
  first = first-flags ∙ rw (effect_section s a)

  then : r ≡ flagged_at s marks 1 (run_places Flags s a) one
  then = then-flags ∙ rw (run_section s a)

  abbrev none : List ℕ
  none = replicate format.fluents 0

  zeros : length none ≡ format.fluents
  zeros = length-replicate {A = ℕ} format.fluents 0

  long : length one ≡ format.fluents
  long = ap length first ∙ at_length s marks 0 2 (effect_places Flags s a) none ∙ zeros

  flag_is : (f : ℕ) → f < format.fluents → get_or r f 0 ≡ pick (both (in_bodies (table_in Flags s) a f) (fails (known_whether marks f))) (λ _. 1) (λ _. 0)
  unfolding in_bodies
  flag_is f near =
      ap (λ (u : List ℕ). get_or u f 0) then
      ∙ at_flag s marks f 1 (run_places Flags s a) one (rw long near)
      ∙ ap (set_where (both (some_of (in_body_at s marks f 1) (run_places Flags s a)) (unmarked s marks f)))
      (ap (λ (u : List ℕ). get_or u f 0) first ∙ at_flag s marks f 2 (effect_places Flags s a) none (rw zeros near))
      ∙ set_twice (some_of (in_body_at s marks f 2) (effect_places Flags s a)) (some_of (in_body_at s marks f 1) (run_places Flags s a)) (unmarked s marks f) (get_or none f 0)
      ∙ rw (
        (effects_at_hand s t here a).bodies (in_body f),
        (runs_at_hand s t here a).bodies (in_body f),
        unmarked_is marks f marked,
        get_or-replicate {A = ℕ} format.fluents f 0 0 near,
      )

  pub open_flagged : OpenFlags (table_in Flags s) a marks r
  open_flagged = record { flag = flag_is }
