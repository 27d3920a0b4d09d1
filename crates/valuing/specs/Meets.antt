-- What a list leaves possible, by what the form's literals say: of flags a partial state, of values a set for each fluent.
use Rattle.std.specs.Prelude.{ℕ, Bool, List}
use Rattle.meaning.specs.Tests.{each_of}
use Rattle.meaning.specs.Limits.{format}
use Rattle.meaning.specs.States.{state_of}
use Rattle.meaning.specs.declared.Form.{Form}
use Rattle.meaning.specs.declared.Form.TheVariants.{Flags, Valued}
use Rattle.reading.specs.Listed.{holds_as}
use Rattle.reading.specs.declared.marks.Test.TheVariants.{Possible}
use Rattle.valuing.specs.Valuing.{leaves_beside}

-- The second list is possible beside what the first leaves.
unfoldable pub meets_as : Form → (s one other : List ℕ) → Bool
meets_as Flags s c d = each_of (holds_as Possible (state_of format c)) d
meets_as Valued s c d = leaves_beside s c d
