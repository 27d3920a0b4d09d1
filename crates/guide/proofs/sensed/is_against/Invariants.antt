-- The readings that are left are those of the sensed fluents from f up, and some reading is against what is known where one of these is.
use Rattle.steps.specs.Held.{table_in}
use Rattle.guide.proofs.SensedReadLaws.{AgainstLeft}
use Rattle.meaning.specs.declared.Form.TheVariants.{Flags}
use Rattle.guide.proofs.sensed.is_against.Given as goal

abbrev pub invariant-loop-f : goal.invariant-loop-f
invariant-loop-f l = AgainstLeft (table_in Flags l.r.bytes.now) l.a l.marks l.readings l.i l.f
