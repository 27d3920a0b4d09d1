-- The line that answer 2 carries is that of the item at its place in the state that it leaves: the byte there is the item's first one, which tells
-- the action, or that it is a branching. That action can't be run there, so the line is the nearest of its lines. Every other answer carries none.
-- Assumes nothing.
use Prim.Native.Nat.{ℕ, ◌≤◌}
use mathlib.Core.Path.{◌≡◌, refl, sym, ◌∙◌, ap}
use mathlib.Core.Bool.{false}
use mathlib.Core.List.{List, []}
use mathlib.Core.Logic.{◌⊎◌, inl, inr}
use lib.ListN.{length, get_or}
use borrow.Author.Tests.{eq-eqb, ne_eqb}
use Rattle.meaning.specs.declared.Runs.{Runs}
use Rattle.meaning.specs.declared.Runs.TheVariants.{By, Short, Never}
use Rattle.meaning.specs.Limits
use Rattle.meaning.specs.Limits.{Limits}
use Rattle.meaning.specs.Requests.{Table, Item, act, branching, Request}
use Rattle.meaning.specs.Reading.{Got, got, fault}
use Rattle.meaning.specs.Refusals.{settled}
use Rattle.meaning.specs.Lines.{executability_of}
use Rattle.meaning.specs.States.{State, can_be_run}
use Rattle.meaning.specs.Judging.{Judgement, judge, number}
use Rattle.meaning.specs.Asking.{nearest, first_allowing, asked, allows, line_of, line_at, line_told, line_got, line}
use Rattle.meaning.specs.Reported.{pair_of, ItemIn, item_place, NotRun, Nearest, StandsFor, item_line}
use Rattle.meaning.proofs.TestLaws.{clash, pick_true, pick_false}
use Rattle.meaning.proofs.SettledLaws.{settled_is}
use Rattle.meaning.proofs.PairLaws.{runs_pair}
use Rattle.meaning.proofs.AskingLaws.{can_be_run_asked, asked_stands}
use Rattle.meaning.proofs.ItemBytes.{FirstByte, items_there}
use Rattle.meaning.proofs.ReportLaws.{stopped_there}

-- AN ITEM by its first byte.
pub line_of_item : (t : Table) (s : List ℕ) (m : ℕ) (i : Item ℕ) → FirstByte s m i → (u : State) → line_at t (get_or s (item_place i) 0) u ≡ item_line t i u
unfolding line_at item_line item_place
line_of_item t s m (act p a) byte u = rw byte.0 (pick_false _ _ _ (ne_eqb _ _ byte.2))
line_of_item t s m (branching p bs) byte u = pick_true _ _ _ (eq-eqb _ _ byte)

-- OTHER ANSWERS.
pub told_not : (t : Table) (request : List ℕ) (j : Judgement) → (j.answer.number ≡ Limits.not_executable → ⊥) → line_told t request j ≡ 0
unfolding line_told
told_not t request j other = pick_false _ _ _ (ne_eqb _ _ other)

pub line_not : {A : Type 0} (table : A → Table) (request : List ℕ) (j : Judgement) → (j.answer.number ≡ Limits.not_executable → ⊥) → (x : Got A) → line_got table request j x ≡ 0
unfolding line_got
line_not table request j other (got x e) = told_not (table x) request j other
line_not table request j other (fault n p) = refl

-- THE WALK CALL.
module _ (lim : Limits) (b lent : List ℕ) (budget : ℕ) where
  -- Every answer but 2 has the line 0.
  pub no_line : (number lim b lent budget ≡ Limits.not_executable → ⊥) → line lim b lent budget ≡ 0
  unfolding line
  no_line other = line_not _ b (judge lim b lent budget) other (settled lim b)

  module _ (r : Request) (e : ℕ) (past : settled lim b ≡ got r e) where
    line_is : line lim b lent budget ≡ line_told r.table b (judge lim b lent budget)
    unfolding line line_got
    line_is = rw past

    -- In answer 2 it is that of the item which stands at the place, in the state left.
    pub line_there : number lim b lent budget ≡ Limits.not_executable → (i : Item ℕ) → ItemIn r.plan i → item_place i ≡ (judge lim b lent budget).answer.place
        → line lim b lent budget ≡ item_line r.table i (judge lim b lent budget).state
    unfolding line_told
    line_there stuck i within at =
        line_is
        ∙ pick_true _ _ _ (eq-eqb _ _ stuck)
        ∙ ap (λ (p : ℕ). line_at r.table (get_or b p 0) (judge lim b lent budget).state) (sym at)
        ∙ line_of_item r.table b r.table.actions i (items_there lim b r e (settled_is lim b r e past).reads i within).byte (judge lim b lent budget).state

-- AN ACTION WITHOUT LINES has none.
pub never_asked : (t : Table) (a : ℕ) (s : State) → executability_of t a ≡ [] → asked t a s ≡ Never
unfolding asked first_allowing nearest
never_asked t a s none = rw none

-- AN ACTION THAT CAN'T BE RUN: no line allows it.
pub not_run_near : (t : Table) (a : ℕ) (s : State) → can_be_run t a s ≡ false
    → ((executability_of t a ≡ []) × (line_of (asked t a s) ≡ 0)) ⊎ Nearest s (executability_of t a) (line_of (asked t a s))
unfolding allows line_of
not_run_near t a s not = by_case (asked t a s) (sym (can_be_run_asked t a s) ∙ not) (asked_stands t a s)
  where
    by_case : (r : Runs) → allows r ≡ false → StandsFor s (executability_of t a) r → ((executability_of t a ≡ []) × (line_of r ≡ 0)) ⊎ Nearest s (executability_of t a) (line_of r)
    by_case (By p) f first = clash refl f
    by_case (Short p) f near = inr near
    by_case Never f none = inl (none, refl)

-- Where answer 2 is placed at an action, that action can't be run in the state left: whatever item the walk stopped at has the same first byte.
module _ (lim : Limits) (room : lim.fluents ≤ lim.state) (b lent : List ℕ) (budget : ℕ) (r : Request) (e : ℕ) (lent_length : length lent ≡ lim.state) (past : settled lim b ≡ got r e) where
  pub same_action : (p a : ℕ) → ItemIn r.plan (act p a) → (i : Item ℕ) → ItemIn r.plan i → item_place i ≡ p → (u : State) → NotRun r.table i (pair_of u) → can_be_run r.table a u ≡ false
  unfolding item_place
  same_action p a within i has at u not =
      let reads = (settled_is lim b r e past).reads in
      by_item i (items_there lim b r e reads i has).byte at not (items_there lim b r e reads (act p a) within).byte
    where
      by_item : (i : Item ℕ) → FirstByte b r.table.actions i → item_place i ≡ p → NotRun r.table i (pair_of u) → FirstByte b r.table.actions (act p a) → can_be_run r.table a u ≡ false
      by_item (act q c) byte at not here =
          let same : c ≡ a = sym byte.0 ∙ ap (λ (k : ℕ). get_or b k 0) at ∙ here.0 in
          sym (runs_pair r.table a u) ∙ (rw same at not)
      by_item (branching q bs) byte at not here = absurd (here.2 (sym here.0 ∙ ap (λ (k : ℕ). get_or b k 0) (sym at) ∙ byte))

  -- The line is 0 where the action has none; else none is short by fewer, and none before it by as few (FORMAT 18.21).
  pub line_missing : number lim b lent budget ≡ Limits.not_executable → (a : ℕ) → ItemIn r.plan (act (judge lim b lent budget).answer.place a)
      → ((executability_of r.table a ≡ []) × (line lim b lent budget ≡ 0)) ⊎ Nearest (judge lim b lent budget).state (executability_of r.table a) (line lim b lent budget)
  unfolding item_place item_line
  line_missing stuck a within =
      let there = stopped_there lim room b lent budget r e lent_length past stuck in
      let u : State = (judge lim b lent budget).state in
      let not = same_action (judge lim b lent budget).answer.place a within there.stop there.in_plan there.stands u there.not_run in
      let is : line lim b lent budget ≡ line_of (asked r.table a u) = line_there lim b lent budget r e past stuck (act (judge lim b lent budget).answer.place a) within refl in
      rw is (not_run_near r.table a u not)
