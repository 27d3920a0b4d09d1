-- The mode is a slot of its own: a request at hand stays at hand whatever it holds, and the request and its guards are what they were. Notes that hold
-- a table and were given no mode have 0 there. Assumes nothing.
use Prim.Native.Nat.{ℕ, ◌+◌}
use native.Mathlib.Omega.{arith}
use mathlib.Core.Path.{◌≡◌}
use mathlib.Core.List.{List}
use lib.ListN.{length, get_or, set}
use lib.Seq.{get_or-set_same}
use Rattle.reading.specs.Noted.{effect_lines, run_lines, mode_slot, slots}
use Rattle.finding.specs.TablesHere.{TableHere}
use Rattle.finding.proofs.KeptLaws.{kept}
use Rattle.finding.proofs.ChainLaws.{order_same}
use Rattle.finding.proofs.ReadLaws.{whole_table, mode_empty}
use Rattle.steps.specs.Held.{table_in, guards_in, request_in}
use Rattle.steps.specs.LinesFound.{run_places, effect_places}
use Rattle.steps.specs.AtHand.{AtHand}
use Rattle.steps.specs.Steps.{mode_in}
use Rattle.steps.proofs.SameHand.{Other, request_same, guards_same, hand_same}
use Rattle.meaning.specs.declared.Form.{Form}

-- NOTES that hold a table.
pub table_mode : {form : Form} (s t : List ℕ) → TableHere form s t → mode_in t ≡ 0
unfolding mode_in
table_mode {form} s t here = mode_empty s here.bytes (table_in form s) here.table_end (whole_table s t here) t here.noted

-- ANOTHER MODE.
module _ (form : Form) (s t : List ℕ) (m : ℕ) where
  abbrev u : List ℕ
  u = set t mode_slot m

  other : (j : ℕ) → Other j → get_or u j 0 ≡ get_or t j 0
  other j apart = kept t mode_slot j m apart.mode

  pub new_mode : length t ≡ slots → mode_in (set t mode_slot m) ≡ m
  unfolding mode_in
  new_mode sized = get_or-set_same t mode_slot m 0 (omega (arith, sized))

  pub same_request : request_in form s (set t mode_slot m) ≡ request_in form s t
  same_request = request_same form s t u other

  pub same_guarded : guards_in s (set t mode_slot m) ≡ guards_in s t
  same_guarded = guards_same form s t u other

  pub hand_stays : AtHand form s t → AtHand form s (set t mode_slot m)
  hand_stays here =
      hand_same form s t u other here
      (λ a small. order_same effect_lines t u (λ i less. kept t mode_slot (effect_lines + i) m (λ e. omega arith)) a (effect_places form s a) small (here.effects a small))
      (λ a small. order_same run_lines t u (λ i less. kept t mode_slot (run_lines + i) m (λ e. omega arith)) a (run_places form s a) small (here.runs a small))
