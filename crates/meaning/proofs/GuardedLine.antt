-- The line that answer 2 of the guarded call carries is that of the item at its place in the state that it leaves, and every other answer, 43 among them,
-- carries none (FORMAT 18.10 to 18.12, 21.20). The plan's bytes are those of its own request, of which it is known. Assumes nothing.
use Prim.Native.Nat.{ℕ, ◌≤◌}
use native.Mathlib.Omega.{arith}
use mathlib.Core.Path.{◌≡◌, refl, sym, ◌∙◌, ap}
use mathlib.Core.List.{List, []}
use mathlib.Core.Logic.{◌⊎◌}
use lib.ListN.{length, get_or}
use borrow.Author.Tests.{eq-eqb}
use Rattle.meaning.specs.Limits
use Rattle.meaning.specs.Limits.{Limits}
use Rattle.meaning.specs.Requests.{Item, act, branching}
use Rattle.meaning.specs.Reading.{got}
use Rattle.meaning.specs.Lines.{executability_of}
use Rattle.meaning.specs.States.{State}
use Rattle.meaning.specs.Asking.{asked, line_of, line_at, line_told, line_got}
use Rattle.meaning.specs.Guards.{GuardedRequest, settled_guarded, judge_guarded, line_guarded, number}
use Rattle.meaning.specs.Reported.{ItemIn, item_place, Nearest, item_line}
use Rattle.meaning.proofs.TestLaws.{pick_true}
use Rattle.meaning.proofs.SettledLaws.{settled_is}
use Rattle.meaning.proofs.ItemBytes.{FirstByte, items_there}
use Rattle.meaning.proofs.ReportedLine.{line_of_item, line_not, not_run_near, same_action}
use Rattle.meaning.proofs.GuardedReads.{own, parts, own_length, own_same, own_settled}
use Rattle.meaning.proofs.GuardedReports.{guarded_stopped_there}

-- An item's first byte, in bytes that are the same there.
first_byte_in : (s b : List ℕ) (m : ℕ) (i : Item ℕ) → get_or s (item_place i) 0 ≡ get_or b (item_place i) 0 → FirstByte s m i → FirstByte b m i
unfolding item_place
first_byte_in s b m (act p a) same byte = (sym same ∙ byte.0, byte.1, byte.2)
first_byte_in s b m (branching p bs) same byte = sym same ∙ byte

module _ (lim : Limits) (b lent : List ℕ) (budget : ℕ) where
  -- Every answer but 2 has the line 0.
  pub guarded_no_line : (number lim b lent budget ≡ Limits.not_executable → ⊥) → line_guarded lim b lent budget ≡ 0
  unfolding line_guarded
  guarded_no_line other = line_not _ b (judge_guarded lim b lent budget) other (settled_guarded lim b)

  -- So has 43.
  pub no_line_broken : number lim b lent budget ≡ Limits.guard_broken → line_guarded lim b lent budget ≡ 0
  no_line_broken q = guarded_no_line (λ k. omega (arith, q, k))

  module _ (g : GuardedRequest) (e : ℕ) (past : settled_guarded lim b ≡ got g e) where
    first_byte : (i : Item ℕ) → ItemIn g.request.plan i → FirstByte b g.request.table.actions i
    first_byte i has =
        let whole = own lim b g e past in
        let there = items_there lim whole g.request _ (settled_is lim whole g.request _ (own_settled lim b g e past)).reads i has in
        let inside = there.there in
        first_byte_in whole b g.request.table.actions i (own_same lim b g e past (item_place i) (omega (arith, inside, own_length lim b g e past))) there.byte

    -- In answer 2 it is that of the item which stands at the place, in the state left.
    pub guarded_line_there : number lim b lent budget ≡ Limits.not_executable → (i : Item ℕ) → ItemIn g.request.plan i → item_place i ≡ (judge_guarded lim b lent budget).answer.place
        → line_guarded lim b lent budget ≡ item_line g.request.table i (judge_guarded lim b lent budget).state
    unfolding line_guarded line_got line_told
    guarded_line_there stuck i has at =
        let is : line_guarded lim b lent budget ≡ line_told g.request.table b (judge_guarded lim b lent budget) = rw past in
        is
        ∙ pick_true _ _ _ (eq-eqb _ _ stuck)
        ∙ ap (λ (p : ℕ). line_at g.request.table (get_or b p 0) (judge_guarded lim b lent budget).state) (sym at)
        ∙ line_of_item g.request.table b g.request.table.actions i (first_byte i has) (judge_guarded lim b lent budget).state

    -- Where it is placed at an action, the line is 0 where the action has none; else none is short by fewer, and none before it by as few (FORMAT 18.21).
    pub guarded_line_missing : lim.fluents ≤ lim.state → length lent ≡ lim.state → number lim b lent budget ≡ Limits.not_executable
        → (a : ℕ) → ItemIn g.request.plan (act (judge_guarded lim b lent budget).answer.place a)
        → ((executability_of g.request.table a ≡ []) × (line_guarded lim b lent budget ≡ 0))
        ⊎ Nearest (judge_guarded lim b lent budget).state (executability_of g.request.table a) (line_guarded lim b lent budget)
    unfolding item_place item_line
    guarded_line_missing room lent_length stuck a within =
        let whole = own lim b g e past in
        let there = guarded_stopped_there lim room b lent budget g e lent_length past stuck in
        let u : State = (judge_guarded lim b lent budget).state in
        let place : ℕ = (judge_guarded lim b lent budget).answer.place in
        let not = same_action lim room whole lent budget g.request (parts lim b g e past).request_end lent_length (own_settled lim b g e past)
        place a within there.stop there.in_plan there.stands u there.not_run in
        let is : line_guarded lim b lent budget ≡ line_of (asked g.request.table a u) = guarded_line_there stuck (act place a) within refl in
        rw is (not_run_near g.request.table a u not)
