-- The sensed fluents below f are in the row, with 0 behind them, and those from f up are to come; f rises to the limit.
use Rattle.steps.specs.Held.{table_in}
use Rattle.guide.proofs.SensedReadLaws.{SensedRow}
use Rattle.meaning.specs.declared.Form.TheVariants.{Flags}
use Rattle.guide.proofs.sensed.sensed_by.Given as goal

abbrev pub invariant-loop-f : goal.invariant-loop-f
invariant-loop-f l = SensedRow (table_in Flags l.r.bytes.now) l.a l.row l.count l.f
