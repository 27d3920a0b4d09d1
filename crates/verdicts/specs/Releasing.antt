-- The release call in the terms of its code: what opening a file leaves, the row as it is written, and what is left past the table.
use Rattle.std.specs.Prelude.{ℕ, ◌-◌, ◌*◌, ◌≤◌, ◌≡◌, List, ◌++◌, length, replicate, take}
use Rattle.std.proofs.lemmas.List.Edits.{sets}
use Rattle.meaning.specs.declared.Answer.{Answer}
use Rattle.meaning.specs.Limits
use Rattle.meaning.specs.Limits.{format}
use Rattle.meaning.specs.Reading.{Got, got, next, Met}
use Rattle.meaning.specs.Refusals.{refuse}
use Rattle.meaning.specs.Releases.{Opening, opening, plans_at, byte_after, unreached, answers_at, in_row, rows}
use Rattle.reading.specs.Noted.{table_noted}
use Rattle.finding.specs.TablesHere.{table_in, TableHere}
use Rattle.meaning.specs.declared.Form.TheVariants.{Flags}

-- Sections 1 to 5 are noted, and the plans are counted.
unfoldable pub opening_noted : (s t : List ℕ) → Got (Met (List ℕ))
opening_noted s t = next (opening format s) λ o p. got (record { value = table_noted o.table t; items = o.plans }) p

-- A file that was opened: its table is there, and its plans start at a place.
pub record OpenedHere (s t : List ℕ) (plans start : ℕ) : Type 0 where
  pub here : TableHere Flags s t
  pub opens : Opening
  pub opened : opening format s ≡ got opens start
  pub counts : opens.plans ≡ plans

-- The file is no longer than it may be, and n and m are the numbers of its fluents and actions.
pub record Counted (s : List ℕ) (n m : ℕ) : Type 0 where
  pub short : length s ≤ format.request
  pub few : n ≤ format.fluents
  pub fluents : n ≡ (table_in Flags s).fluents
  pub actions : m ≡ (table_in Flags s).actions

-- THE ROW with the answer of plan k written into it, and with plan k and those behind it not reached.
unfoldable pub with_answer : List ℕ → (k : ℕ) → Answer → List ℕ
with_answer row k a = sets row (4 * k) (in_row a)

unfoldable pub with_unreached : List ℕ → (k plans : ℕ) → List ℕ
with_unreached row k plans = take (4 * k) row ++ rows (replicate (plans - k) unreached)

-- PAST THE TABLE: 20, or the answers of all plans.
unfoldable pub past_table : List ℕ → (budget plans start : ℕ) → Got (List Answer)
past_table s budget plans start =
    refuse Limits.bytes_after (byte_after s (plans_at format s (table_in Flags s) plans start)) λ _.
    got (answers_at format s (table_in Flags s) budget plans start) start
