-- The fluents from one up that pass a test, and the bodies of a table that was read: each of their fluents is one of the table's. Assumes nothing.
use Prim.Native.Nat.{ℕ, zero, suc, ◌+◌, ◌*◌, ◌/◌, ◌≤◌, ◌<◌}
use native.Mathlib.Omega.{arith}
use mathlib.Core.Path.{◌≡◌, refl, ◌∙◌}
use mathlib.Core.Bool.{Bool, true, false}
use mathlib.Core.List.{List, []}
use mathlib.Core.Logic.{⊎_elim}
use lib.Dec.{eqb}
use borrow.Author.Tests.{eqb-true}
use Rattle.meaning.specs.Tests.{those_of, Has}
use Rattle.meaning.specs.Limits.{Limits}
use Rattle.meaning.specs.Literals.{fluent_of}
use Rattle.meaning.specs.Requests.{Effect, Executability, Table}
use Rattle.meaning.specs.Lines.{effects_of, executability_of}
use Rattle.meaning.specs.ByCases.{upward, in_body, in_bodies}
use Rattle.meaning.proofs.TestLaws.{either_split, pick_false, some_has, those_has}
use Rattle.meaning.proofs.RangeLaws.{Ranged}

-- FLUENTS FROM ONE UP. None passes.
upward_none : (p : ℕ → Bool) (n f : ℕ) → ((g : ℕ) → f ≤ g → g < f + n → p g ≡ false) → those_of p (upward f n) ≡ []
unfolding those_of upward
upward_none p zero f none = refl
upward_none p (suc n) f none = pick_false _ _ _ (none f (omega arith) (omega arith)) ∙ upward_none p n (f + 1) (λ g h i. none g (omega arith) (omega arith))

-- Two tests that agree on the first n of them, where none of the others passes.
pub upward_same : (p q : ℕ → Bool) (n m f : ℕ) → n ≤ m → ((g : ℕ) → g < f + n → p g ≡ q g) → ((g : ℕ) → f + n ≤ g → g < f + m → p g ≡ false)
    → those_of p (upward f m) ≡ those_of q (upward f n)
unfolding those_of upward
upward_same p q zero m f less same none = upward_none p m f (λ g h i. none g (omega arith) (omega arith))
upward_same p q (suc n) zero f less same none = absurd (omega arith)
upward_same p q (suc n) (suc m) f less same none =
    rw (same f (omega arith), upward_same p q n m (f + 1) (omega arith) (λ g h. same g (omega arith)) (λ g h i. none g (omega arith) (omega arith)))

-- BODIES of a table that was read.
module _ (lim : Limits) (t : Table) (ranged : Ranged lim t) (a f : ℕ) where
  body_within : (ls : List ℕ) → ((l : ℕ) → Has ls l → l < 2 * t.fluents) → in_body f ls ≡ true → f < t.fluents
  unfolding in_body fluent_of
  body_within ls small e =
      let w = some_has (λ (l : ℕ). eqb (fluent_of l) f) ls e in
      let below = small w.0 w.1 in
      let same : w.0 / 2 ≡ f = eqb-true _ _ w.2 in
      omega arith

  pub in_bodies_within : in_bodies t a f ≡ true → f < t.fluents
  unfolding in_bodies effects_of executability_of
  in_bodies_within e =
      ⊎_elim
      (λ h.
      let w = some_has (λ (x : Effect). in_body f x.body) (those_of (λ (x : Effect). eqb x.action a) t.effects) h in
      let has = (those_has (λ (x : Effect). eqb x.action a) t.effects w.0 w.1).0 in
      body_within w.0.body (ranged.bodies w.0 has) w.2)
      (λ h.
      let w = some_has (λ (x : Executability). in_body f x.body) (those_of (λ (x : Executability). eqb x.action a) t.executability) h in
      let has = (those_has (λ (x : Executability). eqb x.action a) t.executability w.0 w.1).0 in
      body_within w.0.body (ranged.lines w.0 has) w.2)
      (either_split _ _ e)
