-- Demand 3 of the call by cases (FORMAT 22.20): answer 0 is given only to a request whose walk by cases is verified (`VerifiedLaws`), and such a request is carried
-- out (`CaseSound`). Assumes nothing.
use Prim.Native.Nat.{ℕ, ◌≤◌}
use native.Mathlib.Omega.{arith}
use mathlib.Core.Path.{◌≡◌}
use mathlib.Core.List.{List}
use lib.ListN.{length}
use Rattle.meaning.specs.Limits
use Rattle.meaning.specs.Limits.{Limits}
use Rattle.meaning.specs.Requests.{Request}
use Rattle.meaning.specs.Reading.{got}
use Rattle.meaning.specs.Refusals.{settled}
use Rattle.meaning.specs.Walk.{Verified}
use Rattle.meaning.specs.ByCases.{walk_of, judge_by_cases, number, count}
use Rattle.meaning.specs.Worlds.{CarriedOut}
use Rattle.meaning.proofs.AnswerLaws.{settled_numbered}
use Rattle.meaning.proofs.VerifiedLaws.{VerifiedBy, verified_by, by_verified}
use Rattle.meaning.proofs.CaseWalks.{cases_never}
use Rattle.demands.proofs.CaseSound.{cases_walk_sound}

module _ (lim : Limits) (request lent : List ℕ) (budget : ℕ) where
  -- Answer 0 is given to a settled request whose walk is verified, and to every such request within its budget.
  pub cases_verified : number lim request lent budget ≡ Limits.verified → VerifiedBy (walk_of lim) lim (settled lim request) lent budget (judge_by_cases lim request lent budget)
  unfolding judge_by_cases
  cases_verified = verified_by (walk_of lim) lim lent budget (λ r. cases_never Limits.verified (λ z. omega arith) (λ z. omega arith) r _) (settled lim request) (settled_numbered lim request)

  pub verified_cases : length lent ≡ lim.state → (r : Request) (e : ℕ) → settled lim request ≡ got r e → Verified (walk_of lim r) → count lim r ≤ budget
      → (number lim request lent budget ≡ Limits.verified) × ((judge_by_cases lim request lent budget).answer.count ≡ count lim r)
  unfolding judge_by_cases
  verified_cases sized = by_verified (walk_of lim) lim lent budget sized (settled lim request)

  -- DEMAND 3: it is carried out in every world with the initial facts.
  pub cases_sound : number lim request lent budget ≡ Limits.verified → (r : Request) × (e : ℕ) × (settled lim request ≡ got r e) × CarriedOut r
  cases_sound q = let v = cases_verified q in (v.says, v.end, v.settles, cases_walk_sound lim request v.says v.end v.settles v.fine)
