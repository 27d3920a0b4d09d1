-- The loops along an action's lines in file order: the lines from line k on, and how far they go. Assumes nothing.
use Prim.Native.Nat.{ℕ, zero, suc, ◌+◌, ◌-◌, ◌≤◌, ◌<◌}
use native.Mathlib.Omega.{arith}
use mathlib.Core.Path.{◌≡◌, refl, sym, ◌∙◌, ap, subst}
use mathlib.Core.List.{List, [], ◌∷◌}
use mathlib.Core.Logic.{inl, inr}
use Rattle.meaning.specs.Tests.{Has}
use Rattle.meaning.specs.Limits.{all_literals}
use Rattle.reading.specs.Noted.{run_lines, line_place, next_line, first_line, line_numbers}
use Rattle.reading.specs.Ordered.{LineIn, Chain, InOrder}
use Rattle.reading.specs.Listed.{ListHere}

-- HOW FAR the lines go on from line k: numbers rise from line to line and stay below 256, and 0 is no line.
unfoldable pub to_go : ℕ → ℕ
to_go zero = 0
to_go (suc k) = line_numbers - k

goes_on : (k j : ℕ) → 0 < k → k < line_numbers → (0 < j → k < j) → to_go j < to_go k
unfolding to_go
goes_on zero j some few rises = absurd (omega arith)
goes_on (suc k) zero some few rises = omega arith
goes_on (suc k) (suc j) some few rises = let more = rises (omega arith) in omega arith

-- LINES from line k on, each of which is fit to be read; effects and executability lines alike.
pub record Ahead (Fit : ℕ → Type 0) (t : List ℕ) (lines k : ℕ) : Type 0 where
  pub rest : List ℕ
  pub chain : Chain t lines k rest
  pub fit : (p : ℕ) → Has rest p → Fit p

module _ (Fit : ℕ → Type 0) (t : List ℕ) (lines : ℕ) where
  unfoldable pub ahead_starts : (a : ℕ) (ps : List ℕ) → InOrder t lines a ps → ((p : ℕ) → Has ps p → Fit p) → (k : ℕ) → k ≡ first_line t lines a → Ahead Fit t lines k
  unfolding InOrder
  ahead_starts a ps order fit k at = record { rest = ps; chain = subst (λ (j : ℕ). Chain t lines j ps) (sym at) order; fit = fit }

  module _ (k : ℕ) (ahead : Ahead Fit t lines k) where
    pub ahead_none : k ≤ 0 → ahead.rest ≡ []
    unfolding Chain
    ahead_none h = none ahead.rest ahead.chain
      where
        none : (ps : List ℕ) → Chain t lines k ps → ps ≡ []
        none [] chain = refl
        none (p ∷ ps) chain = let some = chain.0.some in absurd (omega arith)

    -- The first of them, and those after it.
    pub record First : Type 0 where
      pub place : ℕ
      pub others : List ℕ
      pub is : ahead.rest ≡ place ∷ others
      pub line : LineIn t lines k place
      pub chain : Chain t lines (next_line t lines k) others

    module _ (more : 0 < k) where
      pub ahead_first : First
      unfolding Chain
      ahead_first = first ahead.rest refl ahead.chain
        where
          first : (ps : List ℕ) → ahead.rest ≡ ps → Chain t lines k ps → First
          first [] e chain = absurd (omega arith)
          first (p ∷ ps) e chain = record { place = p; others = ps; is = e; line = chain.0; chain = chain.1 }

      pub line_few : k < line_numbers
      line_few = ahead_first.line.few

      module _ (j : ℕ) (onward : j ≡ next_line t lines k) where
        pub line_less : to_go j < to_go k
        line_less = goes_on k j more line_few (rw onward ahead_first.line.rises)

        unfoldable pub line_others : Ahead Fit t lines j
        line_others = record {
          rest = ahead_first.others;
          chain = subst (λ (i : ℕ). Chain t lines i ahead_first.others) (sym onward) ahead_first.chain;
          fit = λ p h. ahead.fit p (subst (λ (ps : List ℕ). Has ps p) (sym ahead_first.is) (inr h));
        }

      module _ (p : ℕ) (at : p ≡ line_place t lines k) where
        pub line_rest : ahead.rest ≡ p ∷ ahead_first.others
        line_rest = ahead_first.is ∙ ap (λ (q : ℕ). q ∷ ahead_first.others) (sym ahead_first.line.stands ∙ sym at)

        pub line_fit : Fit p
        line_fit = ahead.fit p (subst (λ (ps : List ℕ). Has ps p) (sym line_rest) (inl refl))

-- EXECUTABILITY LINES.
abbrev pub RunsAhead : (s t : List ℕ) (k : ℕ) → Type 0
RunsAhead s t k = Ahead (λ (p : ℕ). ListHere all_literals s (p + 1)) t run_lines k
