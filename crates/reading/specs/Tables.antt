-- The table that stands at an input's start, in either form.
use Rattle.std.specs.Prelude.{ℕ, List, []}
use Rattle.meaning.specs.Limits.{format}
use Rattle.meaning.specs.Requests.{Table}
use Rattle.meaning.specs.declared.Form.{Form}
use Rattle.meaning.specs.Reading.{Got, got, fault, table_at}

-- What was read; a table that says nothing where a fault was met.
unfoldable pub table_of : Got Table → Table
table_of (got x e) = x
table_of (fault n p) = record { fluents = 0; actions = 0; facts = []; effects = []; executability = []; knowledge = [] }

-- THE TABLE (FORMAT 2.12 to 2.16, 26.2).
unfoldable pub table_in : Form → List ℕ → Table
table_in form s = table_of (table_at format form s 0)
