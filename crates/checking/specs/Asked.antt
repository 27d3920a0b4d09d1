-- What is asked at the end of a derivation, of whatever lines and closing list stand in the input.
use Rattle.std.specs.Prelude.{Option, Some, None}
use Rattle.std.specs.Prelude.{ℕ, ◌+◌, ◌*◌, ◌≡◌, Bool, List, map, length, get_or}
use Rattle.meaning.specs.declared.Layout.{Layout}
use Rattle.meaning.specs.declared.Layout.TheVariants.{Closing}
use Rattle.meaning.specs.Tests.{both}
use Rattle.meaning.specs.Requests.{Request}
use Rattle.meaning.specs.Derivations.{Conclusion, knows_whether, Line, Derivation, same_list, same_plan, goals_of, names, check_entries, check_closing, check_end}
use Rattle.parsing.specs.Read.{Passed, over, passed}
use Rattle.reading.specs.Listed.{listed}
use Rattle.derivation.specs.DerivationRead.{lines_end}
use Rattle.steps.specs.Held.{request_in}
use Rattle.comparing.specs.Stands.{NumbersStand, LinesStand, ClosingStands}
use Rattle.meaning.specs.declared.Form.TheVariants.{Flags}

-- The conclusion that is asked for: that a fluent is known whether, or the goals.
unfoldable pub conclusion_asked : Request → Option ℕ → Conclusion
conclusion_asked r None = goals_of r
conclusion_asked r (Some f) = knows_whether f

-- X is the initial facts, and c is the plan.
unfoldable pub begins : Request → Line → Bool
begins r l = both (same_list l.X r.table.facts) (same_plan l.c r.plan)

-- Whatever lines stand there, of the given number: the number at `at` names one that asks for it.
pub record Names (r : Request) (d places : List ℕ) (count at : ℕ) (asked : Option ℕ) (answer : Bool) : Type 0 where
  pub holds : (lines : List Line) → LinesStand Closing d places lines → length lines ≡ count → answer ≡ names r lines (get_or d at 0 * 256 + get_or d (at + 1) 0) (conclusion_asked r asked)

-- Whatever lines and numbers stand there, one for each fluent of the list at `whether`.
pub record EntriesChecked (s t d places : List ℕ) (count whether first : ℕ) (answer : Passed) : Type 0 where
  pub holds : (lines : List Line) (ks : List ℕ) → LinesStand Closing d places lines → length lines ≡ count → NumbersStand d first ks → length ks ≡ length (listed s whether)
      → over answer ≡ passed (check_entries (request_in Flags s t) lines first (map knows_whether (listed s whether)) ks)

-- The lines of a derivation, of the given number, and what closes it stand where the places say.
pub record DerivationStands (layout : Layout) (d places : List ℕ) (count : ℕ) (x : Derivation) : Type 0 where
  pub stand : LinesStand layout d places x.lines
  pub size : length x.lines ≡ count
  pub closes : get_or places lines_end 0 ≡ x.closing_place
  pub closing : ClosingStands layout d x.closing_place x.closing

pub record SomeDerivation (layout : Layout) (d places : List ℕ) (count : ℕ) : Type 0 where
  pub derivation : Derivation
  pub stands : DerivationStands layout d places count derivation

-- Whatever derivation stands there.
pub record ClosingChecked (r : Request) (d places : List ℕ) (count : ℕ) (answer : Passed) : Type 0 where
  pub holds : (x : Derivation) → DerivationStands Closing d places count x → over answer ≡ passed (check_closing r x)

pub record EndChecked (layout : Layout) (r : Request) (d places : List ℕ) (count : ℕ) (answer : Passed) : Type 0 where
  pub holds : (x : Derivation) → DerivationStands layout d places count x → over answer ≡ passed (check_end layout r x)
