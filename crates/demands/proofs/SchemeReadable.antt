-- Every line of the scheme can be read, and 18 finds nothing in its plan: a state that the walk comes to knows nothing but literals of the request's fluents, what is left of
-- the plan has no more items than the plan, each of them a part of it, and Y is the goals. By induction on the plan with what the rest writes. Assumes nothing.
use Prim.Native.Nat.{ℕ, suc, ◌+◌, ◌-◌, ◌*◌, ◌/◌, ◌%◌, ◌≤◌, ◌<◌}
use native.Mathlib.Omega.{arith}
use native.Mathlib.Decide.{ℕ_discrete, dec_lt}
use mathlib.Core.Path.{◌≡◌, refl, sym, ◌∙◌, subst}
use mathlib.Core.Bool.{true, false}
use mathlib.Core.List.{List, [], ◌∷◌, ◌++◌}
use mathlib.Core.Logic.{inl, inr, ⊎_elim}
use lib.ListN.{length, length-set}
use lib.Dec.{ltb, eqb}
use borrow.Author.Tests.{ltb-true, le-ltb, lt-leb, eqb-true, eqb-false}
use Rattle.meaning.specs.Tests.{both, each_of, Each, Has}
use Rattle.meaning.specs.Limits.{Limits}
use Rattle.meaning.specs.Literals.{says_true, says_false, fluent_of, complement}
use Rattle.meaning.specs.Requests.{Table, Sequence, done, item, Item, act, branching, Branches, none, branch, Request, values}
use Rattle.meaning.specs.Lines.{sensing, effects_of}
use Rattle.meaning.specs.Reading.{literals, bound_of, have_complements}
use Rattle.meaning.specs.Refusals.{failing_in, Found, nowhere, at, or_else, overlap_in, overlap_at, overlap_below}
use Rattle.meaning.specs.States.{State, known, told, known_after, state_after, unknown_sensed, Outcome, single, fork, readings, first_state}
use Rattle.meaning.specs.Derivations.{Conclusion, knows, Line, join, known_from, literals_of, goals_of}
use Rattle.meaning.specs.Schemes.{Writes, line_of, empty_lines, and_cites, one_read, both_read, then_read, read_lines, sensing_lines, acting_lines, action_lines, branching_lines, lines, item_lines, branch_lines, lines_from, derivation_of}
use Rattle.meaning.proofs.TestLaws.{by-test, clash, both_left, both_right, either_split, pick-cases}
use Rattle.meaning.proofs.PickLaws.{pick_has}
use Rattle.meaning.proofs.LiteralLaws.{complement_even, complement_odd, fluent_true, fluent_false, among_has}
use Rattle.meaning.proofs.RefusalLaws.{at≢nowhere}
use Rattle.meaning.proofs.SettledLaws.{or_else_nowhere}
use Rattle.meaning.proofs.RangeLaws.{Ranged}
use Rattle.meaning.proofs.StateLaws.{known_within, after_length}
use Rattle.meaning.proofs.ToldLaws.{told_keeps, first_length, first_known}
use Rattle.meaning.proofs.PairLaws.{given_pair, after_known, caused_within}
use Rattle.meaning.proofs.SensingLaws.{sensed_within, read_is}
use Rattle.meaning.proofs.KeptEnds.{OutcomeHas}
use Rattle.meaning.proofs.ListReads.{InOrder}
use Rattle.meaning.proofs.SchemeLaws.{join_done}
use Rattle.demands.proofs.Readable.{all_items, all_below, all_joined, ListFits, ItemsFit, BranchesFit, PlanFits, branches_out, items_joined, ConclusionFits, SayingFits}

-- STATES over n fluents: of no other fluent anything is known.
pub record StateFits (n most : ℕ) (s : State) : Type 0 where
  pub below : (l : ℕ) → known s l ≡ true → l < 2 * n
  pub short : length s ≤ most

-- What is known of the fluents from f up stands in order behind whatever is known of those before them.
complement_low : (l f : ℕ) → l < 2 * f → complement l < 2 * f
complement_low l f less =
    by-test (eqb (l % 2) 0)
    (λ t. let m : l % 2 ≡ 0 = eqb-true _ _ t in let q = complement_even l m in omega arith)
    (λ u. let m : l % 2 ≡ 0 → ⊥ = eqb-false _ _ u in let q = complement_odd l m in omega arith)

not_beside : (f floor x : ℕ) → floor ≤ 2 * f → 2 * f ≤ x → both (have_complements literals) (both (ltb 0 floor) (eqb x (complement (floor - 1)))) ≡ false
not_beside f floor x low high =
    by-test _
    (λ t.
    let inner = both_right _ _ t in
    let some = ltb-true 0 floor (both_left _ _ inner) in
    let same = eqb-true x (complement (floor - 1)) (both_right _ _ inner) in
    let less = complement_low (floor - 1) f (omega arith) in
    absurd (omega arith))
    (λ e. e)

module _ (n : ℕ) (s : State) (below : (l : ℕ) → known s l ≡ true → l < 2 * n) where
  known_in_order : (f floor : ℕ) (ms : List ℕ) → floor ≤ 2 * f → InOrder literals n floor (known_from s f ms)
  unfolding known_from bound_of says_true says_false
  known_in_order f floor [] low = tt
  known_in_order f floor (m ∷ ms) low =
      pick_has (InOrder literals n floor) (known s (says_true f)) _ _
      (λ t. (lt-leb (2 * n) (2 * f) (below (2 * f) t), le-ltb (2 * f) floor low, not_beside f floor (2 * f) low (omega arith), known_in_order (f + 1) (2 * f + 1) ms (omega arith))) λ _.
      pick_has (InOrder literals n floor) (known s (says_false f)) _ _
      (λ t. (lt-leb (2 * n) (2 * f + 1) (below (2 * f + 1) t), le-ltb (2 * f + 1) floor (omega arith), not_beside f floor (2 * f + 1) low (omega arith), known_in_order (f + 1) (2 * f + 1 + 1) ms (omega arith))) λ _.
      known_in_order (f + 1) floor ms (omega arith)

known_few : (s : State) (f : ℕ) (ms : List ℕ) → length (known_from s f ms) ≤ length ms
unfolding known_from
known_few s f [] = omega arith
known_few s f (m ∷ ms) =
    let less = known_few s (f + 1) ms in
    pick_has (λ (xs : List ℕ). length xs ≤ suc (length ms)) (known s (says_true f)) _ _ (λ _. omega arith) λ _.
    pick_has (λ (xs : List ℕ). length xs ≤ suc (length ms)) (known s (says_false f)) _ _ (λ _. omega arith) λ _.
    omega arith

pub literals_fit : (n most : ℕ) (s : State) → StateFits n most s → ListFits n most (literals_of s)
unfolding literals_of
literals_fit n most s fits =
    let few = known_few s 0 s in
    let short = fits.short in
    record { order = known_in_order n s fits.below 0 0 s (omega arith); few = omega arith }

-- Each state that the walk comes to is so.
told_fits : (n most l : ℕ) (s : State) → fluent_of l < n → StateFits n most s → StateFits n most (told l s)
unfolding told fluent_of
told_fits n most l s near fits = record {
  below = λ k is. elim (ℕ_discrete (k / 2) (l / 2)) [ yes same ↦ omega arith | no other ↦ fits.below k (sym (told_keeps l s k other) ∙ is) ];
  short = rw (length-set s (l / 2) _) fits.short;
}

readings_fit : (n most : ℕ) (fs : List ℕ) → ((f : ℕ) → Has fs f → f < n) → (s : State) → StateFits n most s → OutcomeHas (StateFits n most) (readings fs s)
unfolding readings
readings_fit n most [] near s fits = fits
readings_fit n most (f ∷ fs) near s fits =
    let here = near f (inl refl) in (
      readings_fit n most fs (λ g h. near g (inr h)) (told (says_true f) s) (told_fits n most (says_true f) s (rw (fluent_true f) here) fits),
      readings_fit n most fs (λ g h. near g (inr h)) (told (says_false f) s) (told_fits n most (says_false f) s (rw (fluent_false f) here) fits),
    )

module _ (lim : Limits) (t : Table) (ranged : Ranged lim t) (most : ℕ) where
  abbrev n : ℕ
  n = t.fluents

  after_fits : (a : ℕ) (s : State) → StateFits n most s → StateFits n most (state_after t a s)
  unfolding known_after
  after_fits a s fits = record {
    below = λ l is.
        let near = rw (after_length t a s) at (known_within (state_after t a s) l is) in
        let after : known_after (effects_of t a) s l ≡ true = sym (after_known t a s l near) ∙ is in
        ⊎_elim (fits.below l)
        (λ given. elim (dec_lt l (2 * n)) [ yes less ↦ less | no far ↦ clash given (sym (given_pair t a (known s) l) ∙ caused_within t a n ranged.effects (known s) l (omega arith)) ])
        (either_split _ _ (both_left _ _ after));
    short = rw (after_length t a s) fits.short;
  }

  sensed_fit : (a : ℕ) (s : State) → StateFits n most s → OutcomeHas (StateFits n most) (readings (unknown_sensed t a s) s)
  sensed_fit a s fits = readings_fit n most (unknown_sensed t a s) (λ f h. sensed_within t a n ranged.knowledge f (read_is t a s f h).1) s fits

  pub first_fits : lim.fluents ≤ lim.state → lim.state ≤ most → StateFits n most (first_state lim t)
  first_fits room few = record {
    below = λ l is. ranged.facts l (among_has l t.facts (sym (first_known lim room t ranged l) ∙ is));
    short = rw (first_length lim t) few;
  }

-- WHAT IS LEFT of a plan can be read, and 18 finds nothing in it.
pub nowhere_both : (f : Found) (k : Unit {0} → Found) → f ≡ nowhere → k tt ≡ nowhere → or_else f k ≡ nowhere
unfolding or_else
nowhere_both nowhere k e h = h
nowhere_both (at p) k e h = e

pub overlap_joined : (p q : Sequence ℕ) → overlap_in p ≡ nowhere → overlap_in q ≡ nowhere → overlap_in (join p q) ≡ nowhere
unfolding join failing_in
overlap_joined done q one more = more
overlap_joined (item i p) q one more = let w = or_else_nowhere (overlap_at i) _ one in nowhere_both (overlap_at i) _ w.0 (overlap_joined p q w.1 more)

module _ (lim : Limits) (n m : ℕ) where
  pub record Left (c : Sequence ℕ) : Type 0 where
    pub fits : PlanFits lim n m c
    pub apart : overlap_in c ≡ nowhere

  left_none : Left done
  unfolding failing_in
  left_none = record { fits = record { items = tt; few = omega arith }; apart = refl }

  left_behind : (i : Item ℕ) (c : Sequence ℕ) → Left (item i c) → Left c
  unfolding failing_in
  left_behind i c left =
      let few = left.fits.few in
      record { fits = record { items = left.fits.items.1; few = omega arith }; apart = (or_else_nowhere (overlap_at i) _ left.apart).1 }

  left_one : (p a : ℕ) (c : Sequence ℕ) → Left (item (act p a) c) → Left (item (act p a) done)
  unfolding failing_in or_else
  left_one p a c left =
      let few = left.fits.few in
      record { fits = record { items = (left.fits.items.0, tt); few = omega arith }; apart = refl }

  -- Where a branching is next: its branches from one on, and what is left behind it.
  record LeftAt (bs : Branches ℕ) (rest : Sequence ℕ) : Type 0 where
    branches : BranchesFit lim n m lim.nested bs
    items : ItemsFit lim n m lim.nested rest
    few : all_below bs + all_items rest ≤ lim.items
    apart_below : overlap_below bs ≡ nowhere
    apart : overlap_in rest ≡ nowhere

  left_branching : (p : ℕ) (bs : Branches ℕ) (rest : Sequence ℕ) → Left (item (branching p bs) rest) → LeftAt bs rest
  unfolding failing_in
  left_branching p bs rest left =
      let few = left.fits.few in
      let w = or_else_nowhere (overlap_at (branching p bs)) _ left.apart in
      record {
        branches = branches_out lim n m lim.nested p bs left.fits.items.0;
        items = left.fits.items.1;
        few = omega arith;
        apart_below = pick-cases _ _ _ w.0 (λ _ r. r) (λ _ r. absurd (at≢nowhere r));
        apart = w.1;
      }

  left_branch : (φ : List ℕ) (b : Sequence ℕ) (bs : Branches ℕ) (rest : Sequence ℕ) → LeftAt (branch φ b bs) rest → Left (join b rest)
  unfolding failing_in
  left_branch φ b bs rest left =
      let few = left.few in
      let size = all_joined b rest in
      record {
        fits = record { items = items_joined lim n m lim.nested b rest left.branches.1 left.items; few = omega arith };
        apart = overlap_joined b rest (or_else_nowhere (overlap_in b) _ left.apart_below).0 left.apart;
      }

  left_others : (φ : List ℕ) (b : Sequence ℕ) (bs : Branches ℕ) (rest : Sequence ℕ) → LeftAt (branch φ b bs) rest → LeftAt bs rest
  unfolding failing_in
  left_others φ b bs rest left =
      let few = left.few in
      record {
        branches = left.branches.2;
        items = left.items;
        few = omega arith;
        apart_below = (or_else_nowhere (overlap_in b) _ left.apart_below).1;
        apart = left.apart;
      }

-- LINES. What one says can be read, and 18 finds nothing in its plan.
each_both : {A : Type 0} (P : A → Type 0) (xs ys : List A) → Each P xs → Each P ys → Each P (xs ++ ys)
each_both P [] ys one more = more
each_both P (x ∷ xs) ys one more = (one.0, each_both P xs ys one.1 more)

pub record Sayable (lim : Limits) (n m : ℕ) (l : Line) : Type 0 where
  pub saying : SayingFits lim n m l
  pub apart : overlap_in l.c ≡ nowhere

module _ (lim : Limits) (t : Table) (ranged : Ranged lim t) where
  abbrev Fitting : State → Type 0
  Fitting = StateFits t.fluents lim.listed

  abbrev Says : List Line → Type 0
  Says = Each (Sayable lim t.fluents t.actions)

  -- What follows writes such lines, from whatever state it starts and whatever its first number is.
  abbrev WritesSo : Writes → Type 0
  WritesSo k = (s : State) → Fitting s → (n : ℕ) → Says (k s n)

  one_line : (s : State) → Fitting s → (c : Sequence ℕ) → Left lim t.fluents t.actions c → (Z : Conclusion) → ConclusionFits lim t.fluents t.actions Z
      → (rule : ℕ) (cites : List ℕ) → Sayable lim t.fluents t.actions (line_of s c Z rule cites)
  unfolding line_of
  one_line s fits c left Z ends rule cites = record {
    saying = record { start = literals_fit t.fluents lim.listed s fits; plan = left.fits; end = ends };
    apart = left.apart;
  }

  -- The empty plan.
  empty_says : (Z : List ℕ) → ListFits t.fluents lim.listed Z → WritesSo (empty_lines Z)
  unfolding empty_lines
  empty_says Z ends s fits n =
      let none_left = left_none lim t.fluents t.actions in
      (one_line s fits done none_left _ (literals_fit t.fluents lim.listed s fits) _ _, (one_line s fits done none_left _ ends _ _, tt))

  -- The readings of an outcome.
  readings_say : (o : Outcome State) → OutcomeHas Fitting o → (k : Writes) → WritesSo k → (n : ℕ) → Says (read_lines o k n).lines
  unfolding read_lines one_read then_read both_read
  readings_say (single s) has k so n = so s has n
  readings_say (fork o p) has k so n =
      each_both _ (read_lines o k n).lines _ (readings_say o has.0 k so n) (readings_say (p tt) has.1 k so (n + length (read_lines o k n).lines))

  module _ (Y : Conclusion) (ends : ConclusionFits lim t.fluents t.actions Y) where
    action_says : (p a : ℕ) (rest : Sequence ℕ) → Left lim t.fluents t.actions (item (act p a) rest) → (k : Writes) → WritesSo k → WritesSo (action_lines t Y p a rest k)
    unfolding action_lines sensing_lines acting_lines and_cites
    action_says p a rest left k so s fits n =
        pick_has Says (sensing t a) _ _
        (λ _. each_both _ (read_lines (readings (unknown_sensed t a s) s) k n).lines _
        (readings_say (readings (unknown_sensed t a s) s) (sensed_fit lim t ranged lim.listed a s fits) k so n)
        (one_line s fits _ left Y ends _ _, tt))
        (λ _.
        let after = after_fits lim t ranged lim.listed a s fits in (
          one_line s fits _ (left_one lim t.fluents t.actions p a rest left) _ (literals_fit t.fluents lim.listed (state_after t a s) after) _ _,
          each_both _ (k (state_after t a s) (n + 1)) _ (so (state_after t a s) after (n + 1)) (one_line s fits _ left Y ends _ _, tt),
        ))

    mutual
      unfolding lines branching_lines and_cites join

      pub lines_say : (p rest : Sequence ℕ) → Left lim t.fluents t.actions (join p rest) → (k : Writes) → WritesSo k → WritesSo (lines t Y p rest k)
      lines_say done rest left k so s fits n = so s fits n
      lines_say (item i p) rest left k so s fits n =
          item_says i (join p rest) left (lines t Y p rest k) (lines_say p rest (left_behind lim t.fluents t.actions i (join p rest) left) k so) s fits n

      item_says : (i : Item ℕ) (rest : Sequence ℕ) → Left lim t.fluents t.actions (item i rest) → (k : Writes) → WritesSo k → WritesSo (item_lines t Y i rest k)
      item_says (act p a) rest left k so s fits n = action_says p a rest left k so s fits n
      item_says (branching p bs) rest left k so s fits n =
          branch_says bs (item (branching p bs) rest) rest left (left_branching lim t.fluents t.actions p bs rest left) k so s fits n

      branch_says : (bs : Branches ℕ) (c rest : Sequence ℕ) → Left lim t.fluents t.actions c → LeftAt lim t.fluents t.actions bs rest → (k : Writes) → WritesSo k
          → WritesSo (branch_lines t Y bs c rest k)
      branch_says none c rest whole left k so s fits n = tt
      branch_says (branch φ b bs) c rest whole left k so s fits n =
          pick_has Says (each_of (known s) φ) _ _
          (λ _. each_both _ (lines t Y b rest k s n) _ (lines_say b rest (left_branch lim t.fluents t.actions φ b bs rest left) k so s fits n) (one_line s fits c whole Y ends _ _, tt))
          (λ _. branch_says bs c rest whole (left_others lim t.fluents t.actions φ b bs rest left) k so s fits n)

-- THE DERIVATION of a request whose plan and goals can be read.
pub derivation_says : (lim : Limits) → lim.fluents ≤ lim.state → lim.state ≤ lim.listed → (r : Request) → Ranged lim r.table
    → Left lim r.table.fluents r.table.actions r.plan → ListFits r.table.fluents lim.listed (values r.goals)
    → Each (Sayable lim r.table.fluents r.table.actions) (derivation_of lim r)
unfolding derivation_of lines_from goals_of
derivation_says lim room few r ranged left ends =
    lines_say lim r.table ranged (knows (values r.goals)) ends r.plan done (subst (Left lim r.table.fluents r.table.actions) (sym (join_done r.plan)) left)
    (empty_lines (values r.goals)) (empty_says lim r.table ranged (values r.goals) ends)
    (first_state lim r.table) (first_fits lim r.table ranged lim.listed room few) 0
