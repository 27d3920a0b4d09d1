-- Demand 3 of the guarded call (FORMAT 21.25): answer 0 is given only to a request whose guarded walk is verified, by the cases of the judgement, and such a
-- request is carried out, with its guards in every possible world all along (`WalkSound`). Assumes nothing.
use Prim.Native.Nat.{ℕ}
use native.Mathlib.Omega.{arith}
use mathlib.Core.Path.{◌≡◌}
use mathlib.Core.List.{List}
use Rattle.meaning.specs.Limits
use Rattle.meaning.specs.Limits.{Limits}
use Rattle.meaning.specs.Requests.{values}
use Rattle.meaning.specs.Reading.{got}
use Rattle.meaning.specs.Guards.{GuardedRequest, settled_guarded, walk_of, judge_guarded, number}
use Rattle.meaning.specs.Worlds.{CarriedOutUnder}
use Rattle.meaning.proofs.WithinLaws.{guarded_never}
use Rattle.meaning.proofs.WalkSound.{guarded_walk_sound}
use Rattle.meaning.proofs.GuardedReads.{own_settled}
use Rattle.meaning.proofs.GuardedAnswers.{guarded_numbered_in}
use Rattle.meaning.proofs.VerifiedLaws.{VerifiedBy, verified_by}

module _ (lim : Limits) (request lent : List ℕ) (budget : ℕ) where
  -- Answer 0 is given to a settled request whose walk is verified.
  pub guarded_verified : number lim request lent budget ≡ Limits.verified → VerifiedBy (walk_of lim) lim (settled_guarded lim request) lent budget (judge_guarded lim request lent budget)
  unfolding judge_guarded walk_of
  guarded_verified =
      verified_by (walk_of lim) lim lent budget (λ g. guarded_never Limits.verified (λ z. omega arith) (λ z. omega arith) g.request g.guards _)
      (settled_guarded lim request) (guarded_numbered_in lim request)

  -- DEMAND 3: it is carried out in every world with the initial facts, and its guards hold all along.
  pub guarded_sound : number lim request lent budget ≡ Limits.verified
      → (g : GuardedRequest) × (e : ℕ) × (settled_guarded lim request ≡ got g e) × CarriedOutUnder (values g.guards) g.request
  unfolding walk_of
  guarded_sound q =
      let v = guarded_verified q in
      (v.says, v.end, v.settles, guarded_walk_sound lim _ v.says.request _ (own_settled lim request v.says v.end v.settles) v.says.guards v.fine)
