-- What is left of the plans ends where all do; at a plan that fails nothing is sought.
use Prim.Native.Nat.{◌-◌}
use Rattle.verdicts.proofs.ReleasingLaws.{Seeking}
use Rattle.verdicts.proofs.releasing.byte_after.Given as goal

abbrev pub invariant-loop : goal.invariant-loop
invariant-loop l = Seeking l.file l.plans l.start (l.plans - l.counter) l.p
