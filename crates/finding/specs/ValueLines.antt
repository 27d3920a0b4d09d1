-- Effects and executability lines of a request with values, as the notes find them (FORMAT 26.5, 26.8).
use Rattle.std.specs.Prelude.{ℕ, ◌+◌, ◌*◌, ◌<◌, ◌≡◌, true, List, map, get_or}
use Rattle.meaning.specs.Tests.{each_of, Has}
use Rattle.meaning.specs.Limits.{format}
use Rattle.meaning.specs.Literals.{positive}
use Rattle.meaning.specs.Requests.{Effect, Executability}
use Rattle.meaning.specs.Lines.{effects_of, executability_of}
use Rattle.meaning.specs.declared.Form.TheVariants.{Valued}
use Rattle.meaning.specs.Reading.{values_in, leaves_one}
use Rattle.reading.specs.Noted.{effect_lines, run_lines}
use Rattle.reading.specs.Ordered.{InOrder}
use Rattle.reading.specs.Listed.{ValuesHere, listed_as}
use Rattle.reading.specs.Tables.{table_in}

-- A list of literals of values stands at p, and each of its literals leaves its fluent a value (FORMAT 26.11).
pub record ValueBody (s : List ℕ) (p : ℕ) (b : List ℕ) : Type 0 where
  pub here : ValuesHere s p
  pub is : listed_as Valued s p ≡ b
  pub leaves : each_of (λ (l : ℕ). leaves_one s l b) b ≡ true

-- An effect: its action, the two bytes of its literal, and its body.
pub record ValueEffect (s : List ℕ) (e : Effect) : Type 0 where
  pub action : get_or s e.place 0 ≡ e.action
  pub acts : e.action < format.actions
  pub literal : get_or s (e.place + 1) 0 * 256 + get_or s (e.place + 2) 0 ≡ e.literal
  pub fluent : get_or s (e.place + 1) 0 < format.fluents
  pub second : get_or s (e.place + 2) 0 < 2 * values_in s (get_or s (e.place + 1) 0)
  pub says_is : positive e.literal ≡ true
  pub body : ValueBody s (e.place + 3) e.body

-- The notes lead to each action's lines in file order, and each line stands at its place.
pub record ValueEffects (s t : List ℕ) : Type 0 where
  pub order : (a : ℕ) → a < format.actions → InOrder t effect_lines a (map (λ (e : Effect). e.place) (effects_of (table_in Valued s) a))
  pub line : (e : Effect) → Has (table_in Valued s).effects e → ValueEffect s e

pub record ValueRuns (s t : List ℕ) : Type 0 where
  pub order : (a : ℕ) → a < format.actions → InOrder t run_lines a (map (λ (x : Executability). x.place) (executability_of (table_in Valued s) a))
  pub line : (x : Executability) → Has (table_in Valued s).executability x → ValueBody s (x.place + 1) x.body
