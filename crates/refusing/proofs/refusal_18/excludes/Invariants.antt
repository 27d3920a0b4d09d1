-- At each turn what is held rules out every condition exactly where it rules out those left.
use Prim.Native.Nat.{◌-◌}
use Rattle.meaning.specs.Tests.{each_of}
use Rattle.finding.specs.Branches.{conditions_from}
use Rattle.refusing.specs.Refusal18.{rules_out}
use Rattle.refusing.proofs.Laws18.{Left}
use Rattle.refusing.proofs.refusal_18.excludes.Given as goal

abbrev pub invariant-loop : goal.invariant-loop
invariant-loop g l =
    let form = g.H.Held.FORM in
    let out = each_of (rules_out g.H.Held.meets l.s l.held) in
    Left form l.s l.t out (out (conditions_from form l.s l.t l.count l.place l.item)) (l.count - l.counter) l.p l.i
