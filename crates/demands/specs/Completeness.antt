-- What is said of the completeness of the rules: lines for the goals and for each whether entry of a request, and that the rules prove what it asks (FORMAT 24.28). Definitions only.
use Rattle.std.specs.Prelude.{ℕ, List, [], ◌∷◌}
use Rattle.meaning.specs.Tests.{pick}
use Rattle.meaning.specs.Limits
use Rattle.meaning.specs.Limits.{Limits}
use Rattle.meaning.specs.Literals.{says_true, says_false}
use Rattle.meaning.specs.Requests.{done, Entry, Request}
use Rattle.meaning.specs.States.{State, known, first_state}
use Rattle.meaning.specs.Derivations.{knows_whether, Line, all_asked}
use Rattle.meaning.specs.Accepted.{AllFollow, AllNamed}
use Rattle.meaning.specs.Schemes.{Writes, line_of, empty_lines, and_cites, ReadLines, one_read, then_read, lines, derivation_of}

-- A WHETHER ENTRY. The literal of a fluent that a state knows, where it knows whether.
unfoldable pub literal_known : (fluent : ℕ) → State → ℕ
literal_known f s = pick (known s (says_true f)) (λ _. says_true f) (λ _. says_false f)

-- The empty plan, for a fluent: the lines for the literal of it that is known, and then rule 8.
unfoldable pub whether_lines : (fluent : ℕ) → Writes
whether_lines f s n = and_cites n (empty_lines (literal_known f s ∷ []) s n) (λ last. line_of s done (knows_whether f) Limits.literal_rule (last ∷ []))

-- The plan of a request, for a fluent: the scheme, by rules 10 to 12 where it has rules 3 to 5.
unfoldable pub lines_whether : Request → (fluent : ℕ) → Writes
lines_whether r f = lines r.table (knows_whether f) r.plan done (whether_lines f)

-- ALL THAT IS ASKED. The lines of each whether entry in order, and the number of the last line of each.
unfoldable pub entry_lines : Request → State → List Entry → (n : ℕ) → ReadLines
entry_lines r s [] n = record { lines = []; lasts = [] }
entry_lines r s (w ∷ ws) n = then_read n (one_read n (lines_whether r w.value s n)) (λ m. entry_lines r s ws m)

-- The lines of the goals, and behind them those of the whether entries.
unfoldable pub asked_lines : Limits → Request → ReadLines
asked_lines lim r = then_read 0 (one_read 0 (derivation_of lim r)) (λ m. entry_lines r (first_state lim r.table) r.whether m)

-- PROVED BY THE RULES: there are lines, whatever their number, that follow from earlier ones, and a line among them for the goals and one for each whether entry.
pub record ProvedByRules (r : Request) : Type 0 where
  pub lines : List Line
  pub closing : List ℕ
  pub all_follow : AllFollow r.table lines 0 lines
  pub all_named : AllNamed r lines (all_asked r) closing
