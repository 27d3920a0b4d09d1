-- A request that was read from the start of its input.
use Rattle.std.specs.Prelude.{ℕ, ◌≤◌, ◌≡◌, List, length}
use Rattle.meaning.specs.Limits.{format}
use Rattle.meaning.specs.Requests.{Request}
use Rattle.meaning.specs.Reading.{got}
use Rattle.meaning.specs.declared.Form.{Form}
use Rattle.reading.specs.Requested.{request_with}
use Rattle.reader.specs.Sections.{sections_as}
use Rattle.finding.specs.TablesHere.{blank}

-- All eight sections of a request were read, into notes that held nothing before, with guards at a place, 0 for none.
pub record ReadHere (form : Form) (s t : List ℕ) : Type 0 where
  pub request : Request
  pub end : ℕ
  pub guards : ℕ
  pub short : length s ≤ format.request
  pub reads : sections_as form s 0 ≡ got request end
  pub noted : t ≡ request_with form guards request blank
