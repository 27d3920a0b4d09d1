use Rattle.reading.specs.Noted.{slots}
-- What the proofs by hand lend: the arrays that reading fills, as types. Assumes nothing.
use denote.Array.{Array}
use denote.Builtin.{u16}
use denote.RattleType.{RattleType}

-- `notes::Notes`
abbrev pub Slots : RattleType
Slots = Array u16 slots
