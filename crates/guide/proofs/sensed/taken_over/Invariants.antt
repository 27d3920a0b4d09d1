-- Told the readings that are left, those of the sensed fluents from f up, the state is that of all readings.
use Rattle.steps.specs.Held.{table_in}
use Rattle.guide.proofs.SensedReadLaws.{TakenLeft}
use Rattle.meaning.specs.declared.Form.TheVariants.{Flags}
use Rattle.guide.proofs.sensed.taken_over.Given as goal

abbrev pub invariant-loop-f : goal.invariant-loop-f
invariant-loop-f l = TakenLeft (table_in Flags l.r.bytes.now) l.a l.marks l.readings l.state l.i l.f
