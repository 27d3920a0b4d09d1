-- The sections of a request, read from a place on.
use Rattle.std.specs.Prelude.{ℕ, List, length, get_or, set, ltb}
use Rattle.meaning.specs.Tests.{pick}
use Rattle.meaning.specs.Limits
use Rattle.meaning.specs.Limits.{format}
use Rattle.meaning.specs.Requests.{Request}
use Rattle.meaning.specs.declared.Form.{Form}
use Rattle.meaning.specs.declared.Form.TheVariants.{Flags}
use Rattle.meaning.specs.Reading.{Got, got, fault, next, literals, list_at, table_at, request_at}
pub use Rattle.parsing.specs.Read.{actions_place}
use Rattle.reading.specs.Noted.{guards_slot}

-- Whatever their length and whatever follows (FORMAT 2.11).
unfoldable pub sections_as : Form → List ℕ → ℕ → Got Request
sections_as form s p = next (table_at format form s p) λ x q. request_at format form s x q

abbrev pub sections_read : List ℕ → ℕ → Got Request
sections_read = sections_as Flags

-- Nothing stands behind e (FORMAT 5.15).
unfoldable pub up_to : List ℕ → ℕ → Got (Unit {0})
up_to s e = pick (ltb e (length s)) (λ _. fault Limits.bytes_after e) (λ _. got tt e)

-- The ninth section, and nothing after it (FORMAT 21.2). Its place is noted.
unfoldable pub guards_first : List ℕ → ℕ → List ℕ → Got (List ℕ)
guards_first s q t =
    next (list_at literals (get_or s 0 0) Limits.most_guards s q) λ _ e.
    next (up_to s e) λ _ i.
    got (set t guards_slot q) i
