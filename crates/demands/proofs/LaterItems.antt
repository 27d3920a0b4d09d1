-- A part of a plan that is read after so many more items is read alike before them: only the limit of items looks at how many were met, and what is
-- below it with more is below it with fewer. By going through the readers. Assumes nothing.
use Prim.Native.Nat.{ℕ, zero, suc, ◌+◌}
use native.Mathlib.Omega.{arith}
use mathlib.Core.Path.{◌≡◌, refl, sym, ◌∙◌, ap, subst}
use mathlib.Core.Bool.{Bool, true, false}
use mathlib.Core.List.{List}
use lib.Dec.{leb}
use borrow.Author.Tests.{leb-false, lt-leb}
use Rattle.meaning.specs.Tests.{pick}
use Rattle.meaning.specs.Limits.{Limits}
use Rattle.meaning.specs.Requests.{Sequence, done, item, Item}
use Rattle.meaning.specs.declared.Form.TheVariants.{Flags}
use Rattle.meaning.specs.Reading.{Got, got, fault, next, byte_at, two_bytes_at, count_at, body_at, Met, Part, item_at, items_at, sequence_at, branches_at, branching_at}
use Rattle.meaning.specs.Derivations.{join}
use Rattle.meaning.proofs.TestLaws.{clash}
use Rattle.meaning.proofs.SettledLaws.{got_same, next_got}
use Rattle.meaning.proofs.RangeLaws.{got_place}
use Rattle.meaning.proofs.MovedReads.{next_is}
use Rattle.meaning.proofs.PlanReads.{part}

module _ (more : ℕ) where
  -- What the second reads, after so many more items, the first does.
  abbrev pub Sooner : {A : Type 0} → Got (Met A) → Got (Met A) → Type 0
  Sooner g (got y f) = (k : ℕ) × (g ≡ got (part y.value k) f) × (y.items ≡ k + more)
  Sooner g (fault n i) = Unit {0}

  module _ {A B : Type 0} where
    sooner_next : (g h : Got (Met A)) (j k : Met A → ℕ → Got (Met B)) → Sooner g h → ((x : A) (i q : ℕ) → Sooner (j (part x i) q) (k (part x (i + more)) q)) → Sooner (next g j) (next h k)
    unfolding next
    sooner_next g (got y f) j k one rest =
        subst (λ (n : ℕ). Sooner (next g j) (k (part y.value n) f)) (sym one.2)
        (subst (λ (m : Got (Met B)). Sooner m (k (part y.value (one.0 + more)) f)) (sym (next_is g j (part y.value one.0) f one.1)) (rest y.value one.0 f))
    sooner_next g (fault n i) j k one rest = tt

    same_next : (g : Got A) (j k : A → ℕ → Got (Met B)) → ((x : A) (q : ℕ) → Sooner (j x q) (k x q)) → Sooner (next g j) (next g k)
    unfolding next
    same_next (got x q) j k rest = rest x q
    same_next (fault n i) j k rest = tt

  module _ {A : Type 0} where
    sooner_pick : (b : Bool) (f g h k : Unit {0} → Got (Met A)) → Sooner (f tt) (h tt) → Sooner (g tt) (k tt) → Sooner (pick b f g) (pick b h k)
    unfolding pick
    sooner_pick true f g h k first second = first
    sooner_pick false f g h k first second = second

    -- Where the second is not refused, the first is not.
    limit_pick : (a b : Bool) (n i : ℕ) (g k : Unit {0} → Got (Met A)) → (b ≡ false → a ≡ false) → Sooner (g tt) (k tt) → Sooner (pick a (λ _. fault n i) g) (pick b (λ _. fault n i) k)
    unfolding pick
    limit_pick a true n i g k below then = tt
    limit_pick false false n i g k below then = then
    limit_pick true false n i g k below then = clash refl (below refl)

    -- Two readers of a part.
    abbrev pub PartsSooner : Part A → Part A → Type 0
    PartsSooner one other = (p met : ℕ) → Sooner (one p met) (other p (met + more))

  module _ (lim : Limits) (n m : ℕ) (s : List ℕ) where
    item_sooner : (deeper : Part (Item ℕ)) → PartsSooner deeper deeper → PartsSooner (item_at lim Flags n m s deeper) (item_at lim Flags n m s deeper)
    unfolding item_at
    item_sooner deeper inner p met =
        same_next (byte_at s p) _ _ λ x q.
        limit_pick (leb lim.items met) (leb lim.items (met + more)) _ p _ _ (λ few. let below = leb-false lim.items (met + more) few in lt-leb lim.items met (omega (arith, below)))
        (sooner_pick _ _ _ _ _ (subst (λ (k : ℕ). Sooner (deeper p (met + 1)) (deeper p k)) again (inner p (met + 1)))
        (sooner_pick _ _ _ _ _ tt (met + 1, refl, sym again)))
      where
        again : met + 1 + more ≡ met + more + 1
        again = omega arith

    items_sooner : (one : Part (Item ℕ)) → PartsSooner one one → (left : ℕ) → PartsSooner (items_at lim Flags n m s one left) (items_at lim Flags n m s one left)
    unfolding items_at
    items_sooner one inner zero p met = (met, refl, refl)
    items_sooner one inner (suc left) p met =
        sooner_next (one p met) (one p (met + more)) _ _ (inner p met) λ i k q.
        sooner_next (items_at lim Flags n m s one left q k) (items_at lim Flags n m s one left q (k + more)) _ _ (items_sooner one inner left q k) λ rest l r. (l, refl, refl)

    sequence_sooner : (deeper : Part (Item ℕ)) → PartsSooner deeper deeper → PartsSooner (sequence_at lim Flags n m s deeper) (sequence_at lim Flags n m s deeper)
    unfolding sequence_at
    sequence_sooner deeper inner p met = same_next (two_bytes_at s p) _ _ λ c q. items_sooner (item_at lim Flags n m s deeper) (item_sooner deeper inner) c q met

    branches_sooner : (sequence : Part (Sequence ℕ)) → PartsSooner sequence sequence → (left : ℕ) → PartsSooner (branches_at lim Flags n m s sequence left) (branches_at lim Flags n m s sequence left)
    unfolding branches_at
    branches_sooner sequence inner zero p met = (met, refl, refl)
    branches_sooner sequence inner (suc left) p met =
        same_next (body_at lim Flags n s p) _ _ λ c q.
        sooner_next (sequence q met) (sequence q (met + more)) _ _ (inner q met) λ b k r.
        sooner_next (branches_at lim Flags n m s sequence left r k) (branches_at lim Flags n m s sequence left r (k + more)) _ _ (branches_sooner sequence inner left r k) λ rest l e. (l, refl, refl)

    branching_sooner : (left : ℕ) → PartsSooner (branching_at lim Flags n m s left) (branching_at lim Flags n m s left)
    unfolding branching_at
    branching_sooner zero p met = tt
    branching_sooner (suc left) p met =
        same_next (count_at 1 lim.branches s (p + 1)) _ _ λ c q.
        sooner_next (branches_at lim Flags n m s (sequence_at lim Flags n m s (branching_at lim Flags n m s left)) c q met) (branches_at lim Flags n m s (sequence_at lim Flags n m s (branching_at lim Flags n m s left)) c q (met + more)) _ _
        (branches_sooner _ (sequence_sooner _ (branching_sooner left)) c q met) λ bs k r. (k, refl, refl)

    pub plan_items_sooner : (deep left : ℕ) → PartsSooner (items_at lim Flags n m s (item_at lim Flags n m s (branching_at lim Flags n m s deep)) left) (items_at lim Flags n m s (item_at lim Flags n m s (branching_at lim Flags n m s deep)) left)
    plan_items_sooner deep left = items_sooner (item_at lim Flags n m s (branching_at lim Flags n m s deep)) (item_sooner (branching_at lim Flags n m s deep) (branching_sooner deep)) left

-- ITEMS in two stretches.
pub record TwoStretches (lim : Limits) (n m : ℕ) (s : List ℕ) (one : Part (Item ℕ)) (few rest p met : ℕ) (x : Met (Sequence ℕ)) (e : ℕ) : Type 0 where
  pub first : Met (Sequence ℕ)
  pub middle : ℕ
  pub first_read : items_at lim Flags n m s one few p met ≡ got first middle
  pub second : Met (Sequence ℕ)
  pub second_read : items_at lim Flags n m s one rest middle first.items ≡ got second e
  pub value : x.value ≡ join first.value second.value

pub two_stretches : (lim : Limits) (n m : ℕ) (s : List ℕ) (one : Part (Item ℕ)) (few rest p met : ℕ) (x : Met (Sequence ℕ)) (e : ℕ)
    → items_at lim Flags n m s one (few + rest) p met ≡ got x e → TwoStretches lim n m s one few rest p met x e
unfolding items_at join
two_stretches lim n m s one zero rest p met x e read =
    let all : 0 + rest ≡ rest = omega arith in
    record {
      first = part done met;
      middle = p;
      first_read = refl;
      second = x;
      second_read = subst (λ (k : ℕ). items_at lim Flags n m s one k p met ≡ got x e) all read;
      value = refl;
    }
two_stretches lim n m s one (suc few) rest p met x e read =
    let all : suc few + rest ≡ suc (few + rest) = omega arith in
    let a = next_got (one p met) _ (subst (λ (k : ℕ). items_at lim Flags n m s one k p met ≡ got x e) all read) in
    let b = next_got (items_at lim Flags n m s one (few + rest) a.1 a.0.items) _ a.3 in
    let more = two_stretches lim n m s one few rest a.1 a.0.items b.0 b.1 b.2 in
    record {
      first = part (item a.0.value more.first.value) more.first.items;
      middle = more.middle;
      first_read = next_is _ _ _ _ a.2 ∙ next_is _ _ _ _ more.first_read;
      second = more.second;
      second_read = more.second_read ∙ ap (λ (q : ℕ). got more.second q) (got_place b.3);
      value = ap (λ (y : Met (Sequence ℕ)). y.value) (sym (got_same b.3)) ∙ ap {B = Sequence ℕ} (λ q. item a.0.value q) more.value;
    }
