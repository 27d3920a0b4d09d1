-- The 1-approximation, as Son and Baral set it out in section 3.2 and definition 11 of their paper (FORMAT 1.12, 22.18): the 0-approximation's own
-- terms, and all complete extensions of an a-state. It shares the request with the definitions of the walk and nothing else.
use Rattle.std.specs.Prelude.{ℕ, ◌≡◌, true, false, ◌⊎◌, ◌↔◌, ltb}
use Rattle.meaning.specs.Tests.{either}
use Rattle.meaning.specs.Requests.{Table, Sequence, Request}
use Rattle.meaning.specs.Approximation.{Pair, Disjoint, ◌≼◌, executable, sensing_action, Res, failed, state, Results, Sensed, extended, EntailedBy}

-- Comp(σ): the a-states that extend σ and have every fluent of the domain true or false.
pub record Completes (t : Table) (σ δ : Pair) : Type 0 where
  pub disjoint : Disjoint δ
  pub extends : σ ≼ δ
  pub domain : (f : ℕ) → either (δ.T f) (δ.F f) ≡ either (either (σ.T f) (σ.F f)) (ltb f t.fluents)

module _ (t : Table) where
  -- An action is 1-executable where it is 0-executable in all of Comp(σ).
  abbrev pub ExecutableInAll : ℕ → Pair → Type 0
  ExecutableInAll a σ = (δ : Pair) → Completes t σ δ → executable t a δ ≡ true

  abbrev pub NotExecutableInOne : ℕ → Pair → Type 0
  NotExecutableInOne a σ = (δ : Pair) × Completes t σ δ × (executable t a δ ≡ false)

  -- Res_1(a, σ): what Res_0(a, δ) has for every δ of Comp(σ), true and false each.
  pub record Shared (a : ℕ) (σ ρ : Pair) : Type 0 where
    pub T : (f : ℕ) → (ρ.T f ≡ true) ↔ ((δ : Pair) → Completes t σ δ → (Res t a δ).T f ≡ true)
    pub F : (f : ℕ) → (ρ.F f ≡ true) ↔ ((δ : Pair) → Completes t σ δ → (Res t a δ).F f ≡ true)

  -- The 1-transition function.
  abbrev pub Φ₁ : ℕ → Pair → Results
  Φ₁ a σ failed = NotExecutableInOne a σ
  Φ₁ a σ (state ρ) = ExecutableInAll a σ × (((sensing_action t a ≡ false) × Shared a σ ρ) ⊎ ((sensing_action t a ≡ true) × Sensed t a σ ρ))

  -- Its extension to plans.
  abbrev pub Φ̂₁ : Sequence ℕ → Pair → Results
  Φ̂₁ = extended Φ₁

-- What a request asks is entailed by it.
abbrev pub Entailed₁ : Request → Type 0
Entailed₁ r = EntailedBy (Φ₁ r.table) r
