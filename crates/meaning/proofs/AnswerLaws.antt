-- Every answer of the walk call is one of the format's numbers (demand 1, FORMAT 11.1), as is said of it beside its place; and a fault of the request has one of
-- its refusals' numbers. Assumes nothing.
use Prim.Native.Nat.{ℕ}
use mathlib.Core.Path.{◌≡◌}
use mathlib.Core.Bool.{true}
use mathlib.Core.List.{List}
use Rattle.meaning.specs.Limits.{Limits}
use Rattle.meaning.specs.Literals.{among}
use Rattle.meaning.specs.Requests.{Request}
use Rattle.meaning.specs.Reading.{Got, got, fault}
use Rattle.meaning.specs.Refusals.{settled}
use Rattle.meaning.specs.Judging.{judge}
use Rattle.meaning.specs.Answers.{refusals, answers}
use Rattle.meaning.proofs.PlaceLaws.{RequestHeld, settled_held}
use Rattle.meaning.proofs.PartLaws.{walk_parts}

-- A fault is one of the numbers ns.
module _ {A : Type 0} where
  abbrev pub NumberedIn : List ℕ → Got A → Type 0
  NumberedIn ns (got x p) = Unit {0}
  NumberedIn ns (fault n p) = among n ns ≡ true

-- A request that is not settled is refused by one of 10 to 21.
pub settled_numbered : (lim : Limits) (s : List ℕ) → NumberedIn refusals (settled lim s)
settled_numbered lim s = by_fault (settled lim s) (settled_held lim s)
  where
    by_fault : (x : Got Request) → RequestHeld lim s x → NumberedIn refusals x
    by_fault (got r e) h = tt
    by_fault (fault n p) h = h.number

-- DEMAND 1: every input gets one of the numbered answers.
pub every_answer_numbered : (lim : Limits) (request lent : List ℕ) (budget : ℕ) → among (judge lim request lent budget).answer.number answers ≡ true
every_answer_numbered lim request lent budget = (walk_parts lim request lent budget).number
