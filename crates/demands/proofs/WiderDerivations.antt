-- Wider limits give the derivation call and the whether call the same answer, unless the narrower refuse a count by 12: both inputs are read alike,
-- and the rules that ask for a state ask it of the padded one, in which the same literals are known. Assumes nothing.
use Prim.Native.Nat.{ℕ, ◌+◌, ◌-◌, ◌*◌, ◌≤◌, ◌<◌}
use native.Mathlib.Omega.{arith}
use mathlib.Core.Path.{◌≡◌, refl, sym, ◌∙◌, ap}
use mathlib.Core.Bool.{Bool, true, false}
use mathlib.Core.List.{List, [], ◌∷◌, map, map-append}
use mathlib.Core.Logic.{inl, inr}
use lib.ListN.{length}
use lib.Dec.{ltb}
use Rattle.meaning.specs.declared.Answer.{Answer}
use Rattle.meaning.specs.declared.Layout.{Layout}
use Rattle.meaning.specs.declared.Layout.TheVariants.{Plain, Closing}
use Rattle.meaning.specs.Tests.{either, pick, Has}
use Rattle.meaning.specs.Limits
use Rattle.meaning.specs.Limits.{Limits}
use Rattle.meaning.specs.Requests.{Table, Sequence, done, item, act, branching, Request}
use Rattle.meaning.specs.declared.Form.TheVariants.{Flags}
use Rattle.meaning.specs.Reading.{Got, got, fault, next, byte_at, two_bytes_at, count_at, literals, list_at, repeated, plan_at}
use Rattle.meaning.specs.Refusals.{refuse, settled}
use Rattle.meaning.specs.States.{State, state_of, state_after, unknown_sensed, Outcome, single, fork, readings}
use Rattle.meaning.specs.Derivations.{Conclusion, knows, knows_whether, Line, list_concluded, fluent_concluded, conclusion_at, concludes_fluent, concluded_at, line_at, read_derivation, overlap_in_lines, literals_of, states_of, each_reads, acts, one_action, rule_2, reads, senses_first, rule_3, looks_for, one_look, rule_7, given_by, follows, check_lines, check_end, check_derivation, answer, accepted_if, beyond, check_settled, check}
use Rattle.demands.specs.Wider.{Wider, padded}
use Rattle.meaning.proofs.SettledLaws.{settled_is}
use Rattle.meaning.proofs.RangeLaws.{Ranged, read_ranged}
use Rattle.meaning.proofs.ToldLaws.{state_length}
use Rattle.meaning.proofs.SetLaws.{among_≐, ascending_same, literals_ascend, literals_among}
use Rattle.meaning.proofs.ReadLines.{lines_read}
use Rattle.demands.proofs.MappedWalk.{mapped_outcome}
use Rattle.demands.proofs.WiderReads.{Alike, alike_pick, alike_refuse, alike_read, alike_next, alike_after, list_alike, repeated_alike, plan_alike, settled_alike}
use Rattle.demands.proofs.WiderStates.{padded_known, padded_runs, padded_after, padded_unknown, padded_readings, padded_state}

-- WHAT A PADDED STATE KNOWS, as a list.
module _ (more : ℕ) where
  literals_padded : (s : State) → literals_of (padded more s) ≡ literals_of s
  literals_padded s =
      ascending_same _ _ (literals_ascend (padded more s)) (literals_ascend s)
      (among_≐ _ _ λ l. literals_among (padded more s) l ∙ ap (λ (test : ℕ → Bool). test l) (padded_known more s) ∙ sym (literals_among s l))

  states_padded : (o : Outcome State) → states_of (mapped_outcome (padded more) o) ≡ map (padded more) (states_of o)
  unfolding states_of
  states_padded (single s) = refl
  states_padded (fork o p) = rw (states_padded o, states_padded (p tt)) (sym (map-append (padded more) (states_of o) (states_of (p tt))))

  each_reads_padded : (rest : Sequence ℕ) (Y : Conclusion) (ss : List State) (ls : List Line) → each_reads rest Y (map (padded more) ss) ls ≡ each_reads rest Y ss ls
  unfolding each_reads
  each_reads_padded rest Y [] [] = refl
  each_reads_padded rest Y [] (l ∷ ls) = refl
  each_reads_padded rest Y (s ∷ ss) [] = refl
  each_reads_padded rest Y (s ∷ ss) (l ∷ ls) = rw (literals_padded s, each_reads_padded rest Y ss ls)

module _ (lim big : Limits) (wider : Wider lim big) where
  -- READING.
  module _ (n : ℕ) (s : List ℕ) where
    list_concluded_alike : (p : ℕ) → Alike (list_concluded lim n s p) (list_concluded big n s p)
    unfolding list_concluded
    list_concluded_alike p =
        alike_next (list_at literals n lim.listed s p) (list_at literals n big.listed s p) _ _ (list_alike literals n lim.listed big.listed wider.listed s p) λ Y e. inr refl

    concluded_alike : (layout : Layout) (p : ℕ) → Alike (concluded_at lim n s layout p) (concluded_at big n s layout p)
    unfolding concluded_at conclusion_at fluent_concluded
    concluded_alike Plain p = alike_next (list_concluded lim n s p) (list_concluded big n s p) _ _ (list_concluded_alike p) λ Y q. inr refl
    concluded_alike Closing p =
        alike_after (byte_at s p) _ _ λ rule q.
        alike_next (conclusion_at lim n s rule q) (conclusion_at big n s rule q) _ _
        (alike_pick (concludes_fluent rule) (concludes_fluent rule) refl _ _ _ _ (inr refl) (list_concluded_alike q)) λ Y e. inr refl

  module _ (n m : ℕ) (s : List ℕ) (layout : Layout) where
    line_alike : (p : ℕ) → Alike (line_at lim n m s layout p) (line_at big n m s layout p)
    unfolding line_at
    line_alike p =
        alike_next (list_at literals n lim.listed s p) (list_at literals n big.listed s p) _ _ (list_alike literals n lim.listed big.listed wider.listed s p) λ X q.
        alike_next (plan_at lim Flags n m s q) (plan_at big Flags n m s q) _ _ (plan_alike lim big wider n m s q) λ plan r.
        alike_next (concluded_at lim n s layout r) (concluded_at big n s layout r) _ _ (concluded_alike n s layout r) λ end t.
        alike_next (count_at 0 lim.citations s t) (count_at 0 big.citations s t) _ _ (inr (ap (λ (most : ℕ). count_at 0 most s t) wider.citations)) λ k u. inr refl

    derivation_alike : Alike (read_derivation lim n m s layout) (read_derivation big n m s layout)
    unfolding read_derivation
    derivation_alike =
        alike_refuse (ltb lim.derivation (length s)) (ltb big.derivation (length s)) (ap (λ (most : ℕ). ltb most (length s)) wider.derivation) _ _ _ _
        (alike_after (two_bytes_at s 0) _ _ λ c p.
        alike_refuse (either (ltb c 1) (ltb lim.lines c)) (either (ltb c 1) (ltb big.lines c)) (ap (λ (most : ℕ). either (ltb c 1) (ltb most c)) wider.lines) _ _ _ _
        (alike_next (repeated (line_at lim n m s layout) c p) (repeated (line_at big n m s layout) c p) _ _ (repeated_alike _ _ line_alike c p) λ lines q. inr refl))

  -- THE RULES, of a table that was read with the narrower limits. Those that ask for a state ask for that of X.
  module _ (t : Table) (ranged : Ranged lim t) where
    abbrev more : ℕ
    more = big.state - lim.state

    acts_same : (l : Line) (a : ℕ) (s : State) → t.fluents ≤ length s → acts big t l a (padded more s) ≡ acts lim t l a s
    unfolding acts
    acts_same l a s room = rw (padded_runs more t a s, padded_after more lim t ranged a s room, literals_padded more (state_after t a s))

    reads_same : (cited : List Line) (l : Line) (a : ℕ) (rest : Sequence ℕ) (s : State) → t.fluents ≤ length s → reads big t cited l a rest (padded more s) ≡ reads lim t cited l a rest s
    unfolding reads
    reads_same cited l a rest s room =
        rw (
          padded_runs more t a s,
          padded_readings more lim t ranged a s room,
          padded_unknown more lim t ranged a s room,
          states_padded more (readings (unknown_sensed t a s) s),
          each_reads_padded more rest l.Y (states_of (readings (unknown_sensed t a s) s)) cited,
        )

    looks_for_same : (Y : Conclusion) (a : ℕ) (s : State) → looks_for big t Y a (padded more s) ≡ looks_for lim t Y a s
    unfolding looks_for
    looks_for_same (knows Y) a s = refl
    looks_for_same (knows_whether f) a s = rw (padded_runs more t a s)

    -- A line whose X is within the narrower state.
    module _ (l : Line) (within : (x : ℕ) → Has l.X x → x < 2 * lim.state) where
      XPadded : state_of big l.X ≡ padded more (state_of lim l.X)
      XPadded = padded_state lim big wider l.X within

      XRoom : t.fluents ≤ length (state_of lim l.X)
      XRoom = omega (arith, state_length lim l.X, ranged.fluents, wider.room)

      one_action_same : (c : Sequence ℕ) → one_action big t l c ≡ one_action lim t l c
      unfolding one_action
      one_action_same done = refl
      one_action_same (item (act p a) done) = ap (acts big t l a) XPadded ∙ acts_same l a (state_of lim l.X) XRoom
      one_action_same (item (act p a) (item i rest)) = refl
      one_action_same (item (branching p bs) rest) = refl

      senses_first_same : (cited : List Line) (c : Sequence ℕ) → senses_first big t cited l c ≡ senses_first lim t cited l c
      unfolding senses_first
      senses_first_same cited done = refl
      senses_first_same cited (item (act p a) rest) = ap (reads big t cited l a rest) XPadded ∙ reads_same cited l a rest (state_of lim l.X) XRoom
      senses_first_same cited (item (branching p bs) rest) = refl

      one_look_same : (c : Sequence ℕ) → one_look big t l c ≡ one_look lim t l c
      unfolding one_look
      one_look_same done = refl
      one_look_same (item (act p a) done) = ap (looks_for big t l.Y a) XPadded ∙ looks_for_same l.Y a (state_of lim l.X)
      one_look_same (item (act p a) (item i rest)) = refl
      one_look_same (item (branching p bs) rest) = refl

      follows_same : (cited : List Line) → follows big t cited l ≡ follows lim t cited l
      unfolding follows given_by rule_2 rule_3 rule_7
      follows_same cited = rw (one_action_same l.c, senses_first_same cited l.c, one_look_same l.c)

    check_lines_same : (layout : Layout) (lines : List Line) (i : ℕ) (ls : List Line) → ((l : Line) → Has ls l → (x : ℕ) → Has l.X x → x < 2 * lim.state)
        → check_lines big layout t lines i ls ≡ check_lines lim layout t lines i ls
    unfolding check_lines
    check_lines_same layout lines i [] within = refl
    check_lines_same layout lines i (l ∷ ls) within =
        rw (follows_same l (within l (inl refl)) _, check_lines_same layout lines (i + 1) ls (λ k h. within k (inr h)))

  -- THE CALLS.
  checked_alike : (layout : Layout) (r : Request) → Ranged lim r.table → (s : List ℕ) → Alike (check_derivation lim layout r s) (check_derivation big layout r s)
  unfolding check_derivation
  checked_alike layout r ranged s =
      alike_read (read_derivation lim n m s layout) (read_derivation big n m s layout) _ _ (derivation_alike n m s layout) λ d e q.
      inr (ap (λ (checked : Got (Unit {0})). refuse Limits.not_exclusive (overlap_in_lines d.lines) λ _. next checked λ _ _. check_end layout r d)
      (check_lines_same r.table ranged layout d.lines 0 d.lines
      (λ l h. (lines_read lim n m (omega (arith, ranged.fluents, wider.room)) s layout d e q l h).proper.XClear.within)))
    where
      n : ℕ
      n = r.table.fluents

      m : ℕ
      m = r.table.actions

  accepted_same : (g h : Got (Unit {0})) → Alike g h → ((accepted_if g).number ≡ Limits.count_outside → ⊥) → accepted_if h ≡ accepted_if g
  unfolding accepted_if answer
  accepted_same (got x e) h (inl o) other = absurd o
  accepted_same (got x e) h (inr q) other = rw q
  accepted_same (fault n p) h (inl o) other = absurd (other o)
  accepted_same (fault n p) h (inr q) other = rw q

  picked_same : (b : Bool) (f g h : Unit {0} → Answer) → ((pick b f g).number ≡ Limits.count_outside → ⊥) → (((g tt).number ≡ Limits.count_outside → ⊥) → h tt ≡ g tt) → pick b f h ≡ pick b f g
  unfolding pick
  picked_same true f g h other same = refl
  picked_same false f g h other same = same other

  settled_same : (layout : Layout) (derivation : List ℕ) (g h : Got Request) → Alike g h → ((r : Request) (e : ℕ) → g ≡ got r e → Ranged lim r.table)
      → ((check_settled lim layout derivation g).number ≡ Limits.count_outside → ⊥) → check_settled big layout derivation h ≡ check_settled lim layout derivation g
  unfolding check_settled answer
  settled_same layout derivation (got r e) h (inl o) ranged other = absurd o
  settled_same layout derivation (got r e) h (inr q) ranged other =
      rw q (picked_same (beyond layout r) _ _ _ other (accepted_same (check_derivation lim layout r derivation) (check_derivation big layout r derivation) (checked_alike layout r (ranged r e refl) derivation)))
  settled_same layout derivation (fault n p) h (inl o) ranged other = absurd (other o)
  settled_same layout derivation (fault n p) h (inr q) ranged other = rw q

  pub same_check : (layout : Layout) (request derivation : List ℕ) → ((check lim layout request derivation).number ≡ Limits.count_outside → ⊥)
      → check big layout request derivation ≡ check lim layout request derivation
  unfolding check
  same_check layout request derivation other =
      settled_same layout derivation (settled lim request) (settled big request) (settled_alike lim big wider request)
      (λ r e q. read_ranged lim request r e (settled_is lim request r e q).reads) other
