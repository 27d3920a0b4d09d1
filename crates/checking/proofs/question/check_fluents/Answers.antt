-- What all entries give is what those from number k on give.
use Prim.Native.Nat.{◌+◌, ◌*◌, ◌<◌, ◌≤◌}
use mathlib.Core.Path.{◌≡◌, refl}
use lib.ListN.{get_or}
use native.Mathlib.Omega.{arith}
use Rattle.checking.proofs.ClosingLaws.{list_there, entries_start, entries_done, entry_there, number_there, entries_next, entries_stop}
use Rattle.checking.proofs.question.check_fluents.Goals as goal

pub bounds-r-whether : goal.bounds-r-whether
bounds-r-whether c = search list_there

pub loop-k-init : goal.loop-k-init
loop-k-init c = let at : c.args.first + 2 * 0 ≡ c.args.first = omega arith in let place : c.args.whether + 0 ≡ c.args.whether = omega arith in rw (place, at) (entries_start _ _ _ _ _ _ _ _ _ refl refl c.requires.whether_in_bounds)

pub bounds-r-whether-in-loop-k : goal.bounds-r-whether-in-loop-k
bounds-r-whether-in-loop-k c = let more : c.args.whether + c.loop-k.k < c.args.whether + get_or c.args.r.now.bytes.now c.args.whether 0 = omega arith in search entry_there

pub names-requires-clause-at_in_bounds : goal.names-requires-clause-at_in_bounds
names-requires-clause-at_in_bounds c = let more : c.args.whether + c.loop-k.k < c.args.whether + get_or c.args.r.now.bytes.now c.args.whether 0 = omega arith in search number_there

pub returns-then-not-names : goal.returns-then-not-names
returns-then-not-names c = let more : c.args.whether + c.loop-k.k < c.args.whether + get_or c.args.r.now.bytes.now c.args.whether 0 = omega arith in search entries_stop

pub loop-k-preserved : goal.loop-k-preserved
loop-k-preserved c = let more : c.args.whether + c.loop-k.k < c.args.whether + get_or c.args.r.now.bytes.now c.args.whether 0 = omega arith in let place : c.args.whether + (c.loop-k.k + 1) ≡ c.args.whether + c.loop-k.k + 1 = omega arith in let at : c.args.first + 2 * (c.loop-k.k + 1) ≡ c.args.first + 2 * c.loop-k.k + 2 = omega arith in rw (place, at) (search entries_next)

pub returns : goal.returns
returns c = let over : c.args.whether + get_or c.args.r.now.bytes.now c.args.whether 0 ≤ c.args.whether + c.loop-k.k = omega arith in search entries_done
