-- What a settled request has passed: it was read, and each of the three refusals found nothing; so every two conditions of a branching are
-- exclusive. Each part of a reading or a refusal that gives something has gone on, and the parts are taken one by one. Assumes nothing.
use Prim.Native.Nat.{ℕ}
use mathlib.Core.Path.{◌≡◌, refl, ◌∙◌, ap, subst}
use mathlib.Core.Bool.{Bool, true}
use mathlib.Core.List.{List}
use Rattle.meaning.specs.Limits.{Limits}
use Rattle.meaning.specs.Requests.{Sequence, done, item, Item, act, branching, Branches, none, branch, Request}
use Rattle.meaning.specs.Reading.{Flags, Got, got, fault, next, read_request}
use Rattle.meaning.specs.Refusals.{failing_in, failing_at, failing_below, Found, nowhere, at, or_else, contradiction_in, mixed_in, all_exclusive, overlap_in, refuse, settled}
use Rattle.meaning.proofs.TestLaws.{pick-cases}
use Rattle.meaning.proofs.RefusalLaws.{at≢nowhere}
use Rattle.meaning.proofs.WalkLaws.{OnConditions, OnConditionsItem, OnConditionsBelow}

module _ {A : Type 0} where
  pub fault≢got : {n i p : ℕ} {x : A} → fault n i ≡ got x p → ⊥
  fault≢got e = subst faulty e tt
    where
      faulty : Got A → Type 0
      faulty (got x p) = ⊥
      faulty (fault n i) = Unit {0}

  pub got_same : {x y : A} {p q : ℕ} → got x p ≡ got y q → x ≡ y
  got_same {x} e = ap value e
    where
      value : Got A → A
      value (got y q) = y
      value (fault n i) = x

  -- A refusal that gives something has found nothing.
  pub refuse_got : (n : ℕ) (f : Found) (k : Unit {0} → Got A) {x : A} {p : ℕ} → refuse n f k ≡ got x p → (f ≡ nowhere) × (k tt ≡ got x p)
  unfolding refuse
  refuse_got n nowhere k e = (refl, e)
  refuse_got n (at q) k e = absurd (fault≢got e)

module _ {A B : Type 0} where
  -- What gives something after a first part has got that part.
  pub next_got : (m : Got A) (k : A → ℕ → Got B) {x : B} {p : ℕ} → next m k ≡ got x p → (a : A) × (q : ℕ) × (m ≡ got a q) × (k a q ≡ got x p)
  unfolding next
  next_got (got a q) k e = (a, q, refl, e)
  next_got (fault n i) k e = absurd (fault≢got e)

-- What a settled request has passed.
pub record Settled (lim : Limits) (b : List ℕ) (r : Request) (e : ℕ) : Type 0 where
  pub reads : read_request lim Flags b ≡ got r e
  pub no_contradiction : contradiction_in r.table ≡ nowhere
  pub not_mixed : mixed_in r.table.effects r.table.knowledge ≡ nowhere
  pub no_overlap : overlap_in r.plan ≡ nowhere

pub settled_is : (lim : Limits) (b : List ℕ) (r : Request) (e : ℕ) → settled lim b ≡ got r e → Settled lim b r e
unfolding settled
settled_is lim b r e past =
    let n = next_got (read_request lim Flags b) _ past in
    let u = refuse_got _ _ _ n.3 in
    let v = refuse_got _ _ _ u.1 in
    let w = refuse_got _ _ _ v.1 in
    let same : n.0 ≡ r = got_same w.1 in
    record {
      reads = n.2 ∙ w.1;
      no_contradiction = rw same at u.0;
      not_mixed = rw same at v.0;
      no_overlap = rw same at w.0;
    }

-- In every branching of a plan every two conditions are exclusive.
abbrev pub Fit : Sequence ℕ → Type 0
Fit = OnConditions (λ cs. all_exclusive cs ≡ true)

abbrev pub FitItem : Item ℕ → Type 0
FitItem = OnConditionsItem (λ cs. all_exclusive cs ≡ true)

abbrev pub FitBranches : Branches ℕ → Type 0
FitBranches = OnConditionsBelow (λ cs. all_exclusive cs ≡ true)

pub or_else_nowhere : (f : Found) (k : Unit {0} → Found) → or_else f k ≡ nowhere → (f ≡ nowhere) × (k tt ≡ nowhere)
unfolding or_else
or_else_nowhere nowhere k e = (refl, e)
or_else_nowhere (at p) k e = absurd (at≢nowhere e)

-- Where no branching fails the test, each passes it.
module _ {L : Type 0} (test : List (List L) → Bool) where
  mutual
    unfolding failing_in

    pub none_failing : (p : Sequence L) → failing_in test p ≡ nowhere → OnConditions (λ cs. test cs ≡ true) p
    none_failing done e = tt
    none_failing (item i rest) e = let w = or_else_nowhere (failing_at test i) _ e in (none_failing_item i w.0, none_failing rest w.1)

    none_failing_item : (i : Item L) → failing_at test i ≡ nowhere → OnConditionsItem (λ cs. test cs ≡ true) i
    none_failing_item (act p a) e = tt
    none_failing_item (branching p bs) e =
        pick-cases _ _ _ e (λ apart below. (apart, none_failing_below bs below)) (λ _ r. absurd (at≢nowhere r))

    none_failing_below : (bs : Branches L) → failing_below test bs ≡ nowhere → OnConditionsBelow (λ cs. test cs ≡ true) bs
    none_failing_below none e = tt
    none_failing_below (branch c b bs) e = let w = or_else_nowhere (failing_in test b) _ e in (none_failing b w.0, none_failing_below bs w.1)

-- Where 18 has found nothing, it is so.
pub fit : (p : Sequence ℕ) → overlap_in p ≡ nowhere → Fit p
fit = none_failing all_exclusive
