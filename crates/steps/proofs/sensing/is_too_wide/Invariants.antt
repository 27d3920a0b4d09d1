-- As many unknown fluents are counted as were found before the one that is looked at, and the first beyond the limit settles it.
use Prim.Native.Nat.{◌-◌}
use Rattle.meaning.specs.Limits.{most_forked}
use Rattle.steps.specs.Held.{table_in}
use Rattle.steps.proofs.WideLaws.{Counting}
use Rattle.meaning.specs.declared.Form.TheVariants.{Flags}
use Rattle.steps.proofs.sensing.is_too_wide.Given as goal

abbrev pub invariant-loop-f : goal.invariant-loop-f
invariant-loop-f l = Counting (table_in Flags l.r.bytes.now) l.a l.marks l.met l.f

abbrev pub decreases-loop-f : goal.decreases-loop-f
decreases-loop-f l = most_forked - l.met
