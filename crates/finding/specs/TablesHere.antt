-- The table that stands at an input's start, the notes that hold it, and its executability lines as the notes find them.
use Rattle.std.specs.Prelude.{ℕ, ◌+◌, ◌≤◌, ◌<◌, ◌≡◌, List, map, length, get_or, replicate}
use Rattle.meaning.specs.Tests.{Has}
use Rattle.meaning.specs.Limits.{format}
use Rattle.meaning.specs.Requests.{Executability}
use Rattle.meaning.specs.Lines.{executability_of}
use Rattle.meaning.specs.declared.Form.{Form}
use Rattle.meaning.specs.declared.Form.TheVariants.{Flags, Valued}
use Rattle.meaning.specs.Reading.{got, table_at}
use Rattle.reading.specs.Noted.{effect_lines, run_lines, plan_slot, items_slot, goals_slot, guards_slot, slots, table_noted}
use Rattle.reading.specs.Ordered.{InOrder}
use Rattle.reading.specs.Listed.{listed_as, LiteralsHere}
use Rattle.finding.specs.LinesHere.{Consistent}
-- THE TABLE (FORMAT 2.12 to 2.16).
unfoldable pub use Rattle.reading.specs.Tables.{table_of, table_in}

-- Where its facts stand: behind both counts, and with values behind how many each fluent has (FORMAT 2.13, 26.2).
abbrev pub facts_place : Form → List ℕ → ℕ
facts_place Flags s = 2
facts_place Valued s = 2 + get_or s 0 0

-- Notes that hold nothing.
unfoldable pub blank : List ℕ
blank = replicate slots 0

-- THE TABLE IN THE NOTES. The slots that a table alone writes are those behind the plan's, but for the four places that go with a plan.
pub record OfTable (j : ℕ) : Type 0 where
  pub far : effect_lines ≤ j
  pub other : (j ≡ plan_slot → ⊥) × (j ≡ items_slot → ⊥) × (j ≡ goals_slot → ⊥) × (j ≡ guards_slot → ⊥)

-- Sections 1 to 5 stand at the start of the input, and these slots are as noting the table leaves them. A plan that is noted too changes none of them.
pub record TableHere (form : Form) (s t : List ℕ) : Type 0 where
  pub bytes : (i : ℕ) → get_or s i 0 < 256
  pub short : length s ≤ format.request
  pub table_end : ℕ
  pub table : table_at format form s 0 ≡ got (table_in form s) table_end
  pub sized : length t ≡ slots
  pub noted : (j : ℕ) → OfTable j → get_or t j 0 ≡ get_or (table_noted (table_in form s) blank) j 0

-- The notes lead to each action's executability lines in file order, and the body of each is fit to be read behind its action byte.
pub record RunsHere (form : Form) (s t : List ℕ) : Type 0 where
  pub order : (a : ℕ) → a < format.actions → InOrder t run_lines a (map (λ (x : Executability). x.place) (executability_of (table_in form s) a))
  pub line : (x : Executability) → Has (table_in form s).executability x → (listed_as form s (x.place + 1) ≡ x.body) × LiteralsHere form s (x.place + 1) × Consistent form s x.body
