-- The request that an input and notes hold: sections 1 to 5 as they stand at the input's start, and the plan, the goals, the whether entries
-- and the guards as they stand where the notes say. It does not depend on what else the input has.
use Rattle.std.specs.Prelude.{ℕ, ◌+◌, List, [], get_or, eqb}
use Rattle.meaning.specs.Limits.{format}
use Rattle.meaning.specs.Tests.{pick}
use Rattle.meaning.specs.Requests.{Sequence, Entry, Request}
use Rattle.meaning.specs.declared.Form.{Form}
use Rattle.meaning.specs.Reading.{Got, got, fault, Met, plan_at, placed, placed_as}
use Rattle.reading.specs.Noted.{plan_slot, goals_slot, guards_slot}
use Rattle.reading.specs.Listed.{listed, listed_as, span}
-- THE TABLE (FORMAT 2.12 to 2.16).
unfoldable pub use Rattle.finding.specs.TablesHere.{table_in}

-- What was read; a plan that says nothing where a fault was met.
unfoldable pub plan_of : Got (Met (Sequence ℕ)) → Sequence ℕ
plan_of (got x e) = x.value
plan_of (fault n p) = Sequence.done

-- THE PLAN (FORMAT 2.17).
unfoldable pub plan_in : Form → (s t : List ℕ) → Sequence ℕ
plan_in form s t = plan_of (plan_at format form (table_in form s).fluents (table_in form s).actions s (get_or t plan_slot 0))

-- THE GOALS, and the whether entries after them (FORMAT 2.18, 2.19).
unfoldable pub goals_in : List ℕ → ℕ
goals_in t = get_or t goals_slot 0

unfoldable pub whether_in : Form → (s t : List ℕ) → ℕ
whether_in form s t = goals_in t + 1 + span form (get_or s (goals_in t) 0)

-- THE GUARDS, where the notes have a place of them (FORMAT 21.2).
unfoldable pub guards_at : List ℕ → ℕ
guards_at t = get_or t guards_slot 0

unfoldable pub guards_in : (s t : List ℕ) → List Entry
guards_in s t = pick (eqb (guards_at t) 0) (λ _. []) (λ _. placed (guards_at t + 1) (listed s (guards_at t)))

-- THE REQUEST.
unfoldable pub request_in : Form → (s t : List ℕ) → Request
request_in form s t = record {
  table = table_in form s;
  plan = plan_in form s t;
  goals = placed_as form (goals_in t + 1) (listed_as form s (goals_in t));
  whether = placed (whether_in form s t + 1) (listed s (whether_in form s t));
  whether_place = whether_in form s t;
}
