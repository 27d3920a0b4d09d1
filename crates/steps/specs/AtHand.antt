-- A request at hand: the input has each section of it where the notes say, and the notes lead to its lines and through its plan. How the
-- notes came to be, and what else the input has, is not asked.
use Rattle.std.specs.Prelude.{ℕ, ◌≤◌, ◌<◌, ◌≡◌, false, List, [], length, get_or, eqb}
use Rattle.meaning.specs.Limits.{format, all_literals}
use Rattle.meaning.specs.Refusals.{Found, nowhere, first_against, contradiction_in}
use Rattle.meaning.specs.Requests.{Table}
use Rattle.meaning.specs.Values.{contradictory}
use Rattle.meaning.specs.declared.Form.{Form}
use Rattle.meaning.specs.declared.Form.TheVariants.{Flags, Valued}
use Rattle.meaning.specs.Reading.{Got, got, fluents, list_at, literals_at, literals_in, plan_at, table_at}
use Rattle.reading.specs.Noted.{effect_lines, run_lines, plan_slot, items_slot}
use Rattle.reading.specs.Ordered.{InOrder}
use Rattle.reading.specs.Listed.{listed, ListHere, listed_as}
use Rattle.valuing.specs.Valuing.{ValuedMarks}
use Rattle.finding.specs.PlansHeld.{PlanHeld}
use Rattle.steps.specs.Held.{table_in, plan_in, goals_in, whether_in, guards_at}
use Rattle.steps.specs.LinesFound.{run_places, effect_places, Senses}
use Rattle.steps.specs.Rests.{Nexts}

-- The first effect that contradicts one before it (FORMAT 4.37, 26.24).
abbrev pub contradiction_as : Form → List ℕ → Table → Found
contradiction_as Flags s x = contradiction_in x
contradiction_as Valued s x = first_against (contradictory (literals_in s) x) [] x.effects

-- The guards stand at g, unless that is 0 and there are none. A request with values has none.
abbrev pub GuardsHere : Form → List ℕ → (g : ℕ) → Type 0
GuardsHere Flags s g = eqb g 0 ≡ false → ListHere all_literals s g
GuardsHere Valued s g = g ≡ 0

-- This was read, up to some place.
pub record Ends {A : Type 0} (read : Got A) (x : A) : Type 0 where
  pub end : ℕ
  pub is : read ≡ got x end

pub record AtHand (form : Form) (s t : List ℕ) : Type 0 where
  -- The input has bytes, and no more of them than a request may have.
  pub bytes : (i : ℕ) → get_or s i 0 < 256
  pub short : length s ≤ format.request
  -- Sections 1 to 5 stand at the start, and the notes lead to each action's lines in file order and to what it senses.
  pub table : Ends (table_at format form s 0) (table_in form s)
  pub effects : (a : ℕ) → a < format.actions → InOrder t effect_lines a (effect_places form s a)
  pub runs : (a : ℕ) → a < format.actions → InOrder t run_lines a (run_places form s a)
  pub senses : (a : ℕ) → a < format.actions → Senses form s t a
  -- 16 has passed.
  pub no_contradiction : contradiction_as form s (table_in form s) ≡ nowhere
  -- The plan stands from its slot up to the goals, and the notes lead from item to item.
  pub plan : plan_at format form (table_in form s).fluents (table_in form s).actions s (get_or t plan_slot 0) ≡ got (record { value = plan_in form s t; items = get_or t items_slot 0 }) (goals_in t)
  pub held : PlanHeld form s t (plan_in form s t)
  pub nexts : Nexts t format.items 0 (plan_in form s t)
  -- The goals stand where their slot says, and the whether entries behind them.
  pub goals : literals_at form (table_in form s).fluents format.listed s (goals_in t) ≡ got (listed_as form s (goals_in t)) (whether_in form s t)
  pub whether : Ends (list_at fluents (table_in form s).fluents format.listed s (whether_in form s t)) (listed s (whether_in form s t))
  pub guards : GuardsHere form s (guards_at t)

-- Each of the marks is one of the three.
pub record Marked (marks : List ℕ) : Type 0 where
  pub sized : length marks ≡ format.state
  pub small : (f : ℕ) → get_or marks f 0 ≤ 2

-- The marks that a state of such a request has (FORMAT 7.1, 26.15).
abbrev pub MarkedAs : Form → (s marks : List ℕ) → Type 0
MarkedAs Flags s marks = Marked marks
MarkedAs Valued s marks = ValuedMarks s marks
