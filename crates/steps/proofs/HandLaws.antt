-- A request at hand: its counts and its facts stand where every request's do, its goals and whether entries where the notes say, and the
-- notes have the number of its items. Each follows from how the section was read. Assumes nothing.
use Prim.Native.Nat.{ℕ, ◌≤◌}
use native.Mathlib.Omega.{arith}
use mathlib.Core.Path.{◌≡◌}
use mathlib.Core.List.{List}
use lib.ListN.{get_or}
use Rattle.meaning.specs.declared.Form.{Form}
use Rattle.meaning.specs.Limits.{format}
use Rattle.meaning.specs.Reading
use Rattle.meaning.specs.Reading.{bound_of, plan_at}
use Rattle.reading.specs.Listed.{listed, ListHere, listed_as, LiteralsHere}
use Rattle.reading.specs.Planned.{items_of}
use Rattle.reading.proofs.PlanSizes.{sequence_read}
use Rattle.reading.specs.Noted.{plan_slot, items_slot, goals_slot}
use Rattle.finding.specs.Branches.{sequence_place}
use Rattle.finding.specs.TablesHere.{facts_place}
use Rattle.finding.proofs.HereLaws.{list_here, literals_read}
use Rattle.finding.proofs.ReadLaws.{TableParts, table_parts}
use Rattle.finding.proofs.StartLaws.{Starts, table_starts}
use Rattle.steps.specs.Held.{table_in, plan_in, goals_in, whether_in}
use Rattle.steps.specs.AtHand.{AtHand}

module _ {form : Form} (s t : List ℕ) (here : AtHand form s t) where
  pub starts : Starts form s (table_in form s)
  starts = table_starts form s (table_in form s) here.table.end here.table.is

  pub facts_here : LiteralsHere form s (facts_place form s)
  facts_here = starts.here

  pub sections : TableParts form s (table_in form s) here.table.end
  sections = table_parts form s (table_in form s) here.table.end here.table.is

  pub few_items : items_of (plan_in form s t) ≤ format.items
  few_items = here.held.few

  pub items_are : get_or t items_slot 0 ≡ items_of (plan_in form s t)
  unfolding plan_at
  items_are =
      let counted = ((sequence_read form (table_in form s).fluents (table_in form s).actions s 8 (get_or t plan_slot 0) 0 (omega arith)).holds (record { value = plan_in form s t; items = get_or t items_slot 0 }) (goals_in t) here.plan).counted in
      omega arith

  -- The goals, and the whether entries behind them.
  module _ (goals : ℕ) (slot : goals ≡ get_or t goals_slot 0) where
    pub goals_here : LiteralsHere form s goals
    unfolding goals_in
    goals_here = rw slot (literals_read form (table_in form s).fluents format.listed s sections.few sections.values (goals_in t) (listed_as form s (goals_in t)) (whether_in form s t) here.goals).here

    module _ (whether : ℕ) (after : whether ≡ sequence_place form s goals) where
      pub is_whether : whether ≡ whether_in form s t
      unfolding goals_in whether_in sequence_place
      is_whether = rw (after, slot)

      pub whether_here : ListHere format.fluents s whether
      unfolding bound_of
      whether_here =
          let few = sections.few in
          rw is_whether ((list_here Reading.fluents (table_in form s).fluents s format.listed (whether_in form s t) (listed s (whether_in form s t)) here.whether.end here.whether.is).1 format.fluents (omega (arith, few)))
