-- A turn looks at the first of the action's lines that are left; what is left gives what the whole gives, and line numbers rise in file order.
use Rattle.finding.specs.TablesHere.{table_in}
use Rattle.finding.proofs.AheadLaws.{to_go}
use Rattle.refusing.specs.Refusal16.{agreeing, passing_lines}
use Rattle.refusing.proofs.AgreeLaws.{Passing}
use Rattle.refusing.proofs.refusal_16.runs_with.Given as goal

abbrev pub invariant-loop-k : goal.invariant-loop-k
invariant-loop-k g l =
    let form = g.H.Held.FORM in
    let test = agreeing g.H.Held.meets l.s l.one l.other in
    Passing form l.s l.t test (passing_lines test (table_in form l.s) l.a) l.k

abbrev pub decreases-loop-k : goal.decreases-loop-k
decreases-loop-k g l = to_go l.k
