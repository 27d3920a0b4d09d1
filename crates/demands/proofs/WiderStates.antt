-- A padded state is the state, to every test and at every step. A fluent behind its end has the unknown mark there and no mark at all before, so the
-- same literals are known; and lines within the request's fluents neither set nor sense such a fluent. Assumes nothing.
use Prim.Native.Nat.{ℕ, zero, suc, ◌+◌, ◌-◌, ◌*◌, ◌≤◌, ◌<◌}
use native.Mathlib.Omega.{arith}
use mathlib.Core.Path.{◌≡◌, refl, sym, ◌∙◌, ap, ap₂, fun_ext}
use mathlib.Core.Bool.{Bool, false}
use mathlib.Core.List.{List, [], ◌∷◌}
use mathlib.Core.Logic.{inl, inr}
use lib.ListN.{length, get_or, replicate, length-set, length-replicate, replicate-append-replicate}
use lib.Seq.{set-append_left}
use lib.Dec.{eqb}
use Rattle.meaning.specs.Tests.{both, either, fails, Has}
use Rattle.meaning.specs.Limits
use Rattle.meaning.specs.Limits.{Limits}
use Rattle.meaning.specs.Literals.{says_true, says_false, fluent_of, complement}
use Rattle.meaning.specs.Requests.{Effect, Knowledge, Table, Request}
use Rattle.meaning.specs.Lines.{effects_of, executability_of, knowledge_of, allowed, given, sensing, senses}
use Rattle.meaning.specs.States.{State, mark_of, known, possible, known_whether, told, told_all, state_of, can_be_run, known_after, mark_after, marks_after, state_after, unknown_from, unknown_sensed, Outcome, fork, readings, outcome}
use Rattle.meaning.specs.Walk.{missed_in}
use Rattle.demands.specs.Wider.{Wider, padded}
use Rattle.meaning.proofs.TestLaws.{by-test, pick_map, pick_false}
use Rattle.meaning.proofs.PickLaws.{pick_has}
use Rattle.meaning.proofs.LiteralLaws.{fluent_true, fluent_false}
use Rattle.meaning.proofs.RangeLaws.{Ranged}
use Rattle.meaning.proofs.StateLaws.{unknown_mark, unknown_far, after_length}
use Rattle.meaning.proofs.KeptEnds.{OutcomeHas}
use Rattle.meaning.proofs.PairLaws.{senses_pair, given_pair, caused_within}
use Rattle.meaning.proofs.SensingLaws.{sensed_within, read_is}
use Rattle.demands.proofs.MappedWalk.{mapped_outcome}

-- WHAT IS KNOWN.
module _ (more : ℕ) where
  padded_mark : (s : State) (f : ℕ) → get_or (padded more s) f Limits.unknown_mark ≡ get_or s f Limits.unknown_mark
  unfolding padded
  padded_mark [] f = unknown_mark more f
  padded_mark (m ∷ s) zero = refl
  padded_mark (m ∷ s) (suc f) = padded_mark s f

  pub padded_known : (s : State) → known (padded more s) ≡ known s
  unfolding known
  padded_known s = fun_ext λ (l : ℕ). ap (λ (m : ℕ). eqb m (mark_of l)) (padded_mark s (fluent_of l))

  padded_possible : (s : State) → possible (padded more s) ≡ possible s
  unfolding possible
  padded_possible s = fun_ext λ (l : ℕ). ap (λ (test : ℕ → Bool). fails (test (complement l))) (padded_known s)

  padded_whether : (s : State) → known_whether (padded more s) ≡ known_whether s
  unfolding known_whether
  padded_whether s = fun_ext λ (f : ℕ). ap (λ (test : ℕ → Bool). either (test (says_true f)) (test (says_false f))) (padded_known s)

  pub padded_runs : (t : Table) (a : ℕ) (s : State) → can_be_run t a (padded more s) ≡ can_be_run t a s
  unfolding can_be_run
  padded_runs t a s = ap (λ (test : ℕ → Bool). allowed test (executability_of t a)) (padded_known s)

  pub padded_missed : (r : Request) (s : State) → missed_in r (padded more s) ≡ missed_in r s
  unfolding missed_in
  padded_missed r s = rw (padded_known s, padded_whether s)

  padded_mark_after : (es : List Effect) (s : State) (f : ℕ) → mark_after es (padded more s) f ≡ mark_after es s f
  unfolding mark_after known_after
  padded_mark_after es s f = rw (padded_known s, padded_possible s)

  -- WHAT IS TOLD, of fluents within the state.
  padded_told : (l : ℕ) (s : State) → fluent_of l < length s → told l (padded more s) ≡ padded more (told l s)
  unfolding told padded
  padded_told l s within = set-append_left s _ (fluent_of l) (mark_of l) within

  padded_all_told : (ls : List ℕ) (s : State) → ((l : ℕ) → Has ls l → fluent_of l < length s) → told_all ls (padded more s) ≡ padded more (told_all ls s)
  unfolding told_all told
  padded_all_told [] s within = refl
  padded_all_told (l ∷ ls) s within =
      ap (told_all ls) (padded_told l s (within l (inl refl)))
      ∙ padded_all_told ls (told l s) (λ k h. rw (length-set s (fluent_of l) (mark_of l)) (within k (inr h)))

  -- Fluents within the state, true or false.
  readings_padded : (fs : List ℕ) (s : State) → ((f : ℕ) → Has fs f → f < length s) → readings fs (padded more s) ≡ mapped_outcome (padded more) (readings fs s)
  unfolding readings told
  readings_padded [] s within = refl
  readings_padded (f ∷ fs) s within =
      ap₂ {C = Outcome State} (λ o p. fork o (λ _. p))
      (ap (readings fs) (padded_told (says_true f) s (rw (fluent_true f) (within f (inl refl)))) ∙ readings_padded fs (told (says_true f) s) (still (says_true f)))
      (ap (readings fs) (padded_told (says_false f) s (rw (fluent_false f) (within f (inl refl)))) ∙ readings_padded fs (told (says_false f) s) (still (says_false f)))
    where
      still : (l g : ℕ) → Has fs g → g < length (told l s)
      still l g h = rw (length-set s (fluent_of l) (mark_of l)) (within g (inr h))

  -- MARKS AND SENSED FLUENTS, where there are none from the end of the list on.
  marks_padded : (es : List Effect) (s : State) (f : ℕ) (ms : List ℕ) → ((g : ℕ) → f + length ms ≤ g → mark_after es s g ≡ Limits.unknown_mark)
      → marks_after es (padded more s) f (padded more ms) ≡ padded more (marks_after es s f ms)
  unfolding padded marks_after
  marks_padded es s f [] none = behind more f (λ g h. none g (omega arith))
    where
      behind : (k f : ℕ) → ((g : ℕ) → f ≤ g → mark_after es s g ≡ Limits.unknown_mark) → marks_after es (padded more s) f (replicate k Limits.unknown_mark) ≡ replicate k Limits.unknown_mark
      behind zero f none = refl
      behind (suc k) f none = ap₂ {C = List ℕ} (λ m ms. m ∷ ms) (padded_mark_after es s f ∙ none f (omega arith)) (behind k (f + 1) (λ g h. none g (omega arith)))
  marks_padded es s f (m ∷ ms) none = ap₂ {C = List ℕ} (λ n ns. n ∷ ns) (padded_mark_after es s f) (marks_padded es s (f + 1) ms (λ g h. none g (omega arith)))

  unknown_padded : (ks : List Knowledge) (s : State) (f : ℕ) (ms : List ℕ) → ((g : ℕ) → f + length ms ≤ g → senses ks g ≡ false)
      → unknown_from ks (padded more s) f (padded more ms) ≡ unknown_from ks s f ms
  unfolding padded unknown_from both
  unknown_padded ks s f [] none = behind more f (λ g h. none g (omega arith))
    where
      behind : (k f : ℕ) → ((g : ℕ) → f ≤ g → senses ks g ≡ false) → unknown_from ks (padded more s) f (replicate k Limits.unknown_mark) ≡ []
      behind zero f none = refl
      behind (suc k) f none = pick_false _ _ _ (rw (none f (omega arith))) ∙ behind k (f + 1) (λ g h. none g (omega arith))
  unknown_padded ks s f (m ∷ ms) none = rw (padded_whether s, unknown_padded ks s (f + 1) ms (λ g h. none g (omega arith)))

  -- THE STEP of a table that was read, in a state with room for its fluents.
  module _ (lim : Limits) (t : Table) (ranged : Ranged lim t) (a : ℕ) (s : State) (room : t.fluents ≤ length s) where
    not_given : (test : ℕ → Bool) (l : ℕ) → 2 * t.fluents ≤ l → given test (effects_of t a) l ≡ false
    not_given test l far = sym (given_pair t a test l) ∙ caused_within t a t.fluents ranged.effects test l far

    not_known_after : (l : ℕ) → known s l ≡ false → 2 * t.fluents ≤ l → known_after (effects_of t a) s l ≡ false
    unfolding known_after both either
    not_known_after l unknown far = rw (unknown, not_given (known s) l far)

    mark_far : (f : ℕ) → length s ≤ f → mark_after (effects_of t a) s f ≡ Limits.unknown_mark
    unfolding mark_after says_true says_false
    mark_far f far =
        let none = unknown_far s f far in
        pick_false _ _ _ (not_known_after (2 * f) none.0 (omega arith)) ∙ pick_false _ _ _ (not_known_after (2 * f + 1) none.1 (omega arith))

    not_sensed : (f : ℕ) → length s ≤ f → senses (knowledge_of t a) f ≡ false
    not_sensed f far = by-test _ (λ e. let near = sensed_within t a t.fluents ranged.knowledge f (senses_pair t a f ∙ e) in absurd (omega arith)) (λ e. e)

    pub padded_after : state_after t a (padded more s) ≡ padded more (state_after t a s)
    unfolding state_after
    padded_after = marks_padded (effects_of t a) s 0 s (λ g h. mark_far g (omega arith))

    pub padded_unknown : unknown_sensed t a (padded more s) ≡ unknown_sensed t a s
    unfolding unknown_sensed
    padded_unknown = unknown_padded (knowledge_of t a) s 0 s (λ g h. not_sensed g (omega arith))

    pub padded_readings : readings (unknown_sensed t a (padded more s)) (padded more s) ≡ mapped_outcome (padded more) (readings (unknown_sensed t a s) s)
    padded_readings = ap (λ (fs : List ℕ). readings fs (padded more s)) padded_unknown ∙ readings_padded (unknown_sensed t a s) s (λ f h. (read_is t a s f h).0)

    pub padded_outcome : outcome t a (padded more s) ≡ mapped_outcome (padded more) (outcome t a s)
    unfolding outcome
    padded_outcome = rw (padded_readings, padded_after) (sym (pick_map (mapped_outcome (padded more)) (sensing t a) _ _))

-- A step keeps the length of the state.
readings_kept : (size : ℕ) (fs : List ℕ) (s : State) → length s ≡ size → OutcomeHas (λ (u : State). length u ≡ size) (readings fs s)
unfolding readings told
readings_kept size [] s sized = sized
readings_kept size (f ∷ fs) s sized = (readings_kept size fs _ (length-set s _ _ ∙ sized), readings_kept size fs _ (length-set s _ _ ∙ sized))

pub outcome_kept : (size : ℕ) (t : Table) (a : ℕ) (s : State) → length s ≡ size → OutcomeHas (λ (u : State). length u ≡ size) (outcome t a s)
unfolding outcome
outcome_kept size t a s sized =
    pick_has (OutcomeHas (λ (u : State). length u ≡ size)) (sensing t a) _ _ (λ _. readings_kept size _ s sized) (λ _. after_length t a s ∙ sized)

-- THE STATE OF A LIST under wider limits.
pub padded_state : (lim big : Limits) → Wider lim big → (ls : List ℕ) → ((l : ℕ) → Has ls l → l < 2 * lim.state) → state_of big ls ≡ padded (big.state - lim.state) (state_of lim ls)
unfolding state_of padded fluent_of
padded_state lim big wider ls within =
    let whole : lim.state + (big.state - lim.state) ≡ big.state = omega (arith, wider.state) in
    ap (told_all ls) (sym (replicate-append-replicate lim.state (big.state - lim.state) Limits.unknown_mark ∙ ap (λ (k : ℕ). replicate k Limits.unknown_mark) whole))
    ∙ padded_all_told (big.state - lim.state) ls (replicate lim.state Limits.unknown_mark) (λ l h. rw (length-replicate lim.state Limits.unknown_mark) (omega (arith, within l h)))
