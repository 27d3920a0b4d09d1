-- The request is short, or it is not.
use Rattle.std.proofs.Common.{Bool}
use Rattle.std.proofs.lemmas.Bool.{le-leb, lt-leb}
use mathlib.Core.Path.{sym, ap}
use Rattle.meaning.specs.Tests.{pick}
use Rattle.programs.proofs.stack_needed.Goals as goal

pub returns-then-length-le-SHORT : goal.returns-then-length-le-SHORT
unfolding pick
returns-then-length-le-SHORT c = ap (λ (short : Bool). pick short (λ _. 6291456) (λ _. 16777216)) (sym (le-leb c.args.length 1024 c.if-length-le-SHORT.true))

pub returns-else-length-le-SHORT : goal.returns-else-length-le-SHORT
unfolding pick
returns-else-length-le-SHORT c = ap (λ (short : Bool). pick short (λ _. 6291456) (λ _. 16777216)) (sym (lt-leb c.args.length 1024 c.if-length-le-SHORT.false))
