-- The place after all the branches is the place after those that are left; each branch says where the next one stands.
use Prim.Native.Nat.{◌-◌}
use mathlib.Core.Path.{◌≡◌}
use Rattle.finding.specs.Branches.{BranchesHere}
use Rattle.ruling.specs.Branched.{branches_end}
use Rattle.meaning.specs.declared.Form.TheVariants.{Flags}
use Rattle.ruling.proofs.branchings.after_branches.Given as goal

abbrev pub invariant-loop : goal.invariant-loop
invariant-loop l = BranchesHere Flags l.d l.t (l.count - l.counter) l.p l.i × (branches_end l.d l.t l.count l.place l.item ≡ branches_end l.d l.t (l.count - l.counter) l.p l.i)
