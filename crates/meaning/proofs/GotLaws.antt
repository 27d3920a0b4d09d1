-- What is true of whatever a reader gives, and of each fault: what is put together from parts has it from its parts. By the cases of what was read,
-- and of the test. Assumes nothing.
use Prim.Native.Nat.{ℕ}
use mathlib.Core.Path.{◌≡◌, refl, subst}
use mathlib.Core.Bool.{Bool, true, false}
use Rattle.meaning.specs.Tests.{pick}
use Rattle.meaning.specs.Reading.{Got, got, fault, next}
use Rattle.meaning.proofs.SettledLaws.{fault≢got}

-- WHAT WAS READ.
pub record On {A : Type 0} (m : Got A) (P : A → ℕ → Type 0) : Type 0 where
  pub holds : (x : A) (e : ℕ) → m ≡ got x e → P x e

module _ {A : Type 0} {P : A → ℕ → Type 0} where
  pub got_on : (x : A) (p : ℕ) → P x p → On (got x p) P
  got_on x p h = record { holds = λ y q e. subst given e h }
    where
      given : Got A → Type 0
      given (got y q) = P y q
      given (fault n i) = Unit {0}

  fault_on : (n i : ℕ) → On (fault n i) P
  fault_on n i = record { holds = λ y q e. absurd (fault≢got e) }

  pub pick_on : (b : Bool) (f g : Unit {0} → Got A) → (b ≡ true → On (f tt) P) → (b ≡ false → On (g tt) P) → On (pick b f g) P
  unfolding pick
  pick_on true f g h k = h refl
  pick_on false f g h k = k refl

  -- What is refused gives nothing.
  pub refuse_on : (b : Bool) (n i : ℕ) (g : Unit {0} → Got A) → (b ≡ false → On (g tt) P) → On (pick b (λ _. fault n i) g) P
  refuse_on b n i g k = pick_on b _ g (λ _. fault_on n i) k

module _ {A B : Type 0} {P : A → ℕ → Type 0} {Q : B → ℕ → Type 0} where
  pub next_on : (m : Got A) (k : A → ℕ → Got B) → On m P → ((x : A) (q : ℕ) → P x q → On (k x q) Q) → On (next m k) Q
  unfolding next
  next_on (got x q) k h f = f x q (h.holds x q refl)
  next_on (fault n i) k h f = fault_on n i

-- AND OF FAULTS, where `Bad n p` is what is said of a fault with number n at place p.
module _ (Bad : ℕ → ℕ → Type 0) where
  module _ {A : Type 0} where
    abbrev pub Held : (A → ℕ → Type 0) → Got A → Type 0
    Held so (got x p) = so x p
    Held so (fault n p) = Bad n p

    -- Of a fault alone.
    abbrev pub Faulty : Got A → Type 0
    Faulty = Held (λ _ _. Unit {0})

    module _ (so : A → ℕ → Type 0) (m : Got A) (h : Held so m) where
      pub held_got : (x : A) (p : ℕ) → m ≡ got x p → so x p
      held_got x p e = subst (Held so) e h

      pub held_on : On m so
      held_on = record { holds = held_got }

    pub held_then : (so then : A → ℕ → Type 0) (m : Got A) → Held so m → ((x : A) (p : ℕ) → so x p → then x p) → Held then m
    held_then so then (got x p) h f = f x p h
    held_then so then (fault n p) h f = h

    pub held_faulty : (so : A → ℕ → Type 0) (m : Got A) → Held so m → Faulty m
    held_faulty so m h = held_then so (λ _ _. Unit {0}) m h λ _ _ _. tt

  module _ {A B : Type 0} (so : A → ℕ → Type 0) (then : B → ℕ → Type 0) where
    pub next_held : (m : Got A) (k : A → ℕ → Got B) → Held so m → ((x : A) (p : ℕ) → m ≡ got x p → so x p → Held then (k x p)) → Held then (next m k)
    unfolding next
    next_held (got x p) k h g = g x p refl h
    next_held (fault n p) k h g = h

-- Where nothing is said of faults, all have it.
pub any_fault : {A : Type 0} (m : Got A) → Faulty (λ _ _. Unit {0}) m
any_fault (got x p) = tt
any_fault (fault n p) = tt
