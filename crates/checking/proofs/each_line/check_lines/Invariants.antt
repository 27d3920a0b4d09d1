-- What all lines give is what those from line i on give, where each line before it follows.
use Rattle.steps.specs.Held.{table_in}
use Rattle.checking.specs.Checked.{lines_in}
use Rattle.checking.proofs.OrderLaws.{Checking}
use Rattle.meaning.specs.declared.Form.TheVariants.{Flags}
use Rattle.checking.proofs.each_line.check_lines.Given as goal

abbrev pub invariant-loop-i : goal.invariant-loop-i
invariant-loop-i l = Checking l.layout (table_in Flags l.r.bytes.now) (lines_in l.layout l.n l.m l.d) l.i
