-- The proved cases, row by row: two lists that are equal have equal entries, so what the definition gives of a row's inputs is what the row says.
-- Assumes nothing.
use Prim.Native.Nat.{ℕ}
use mathlib.Core.Path.{◌≡◌, sym, ◌∙◌, ap, ap₂}
use mathlib.Core.List.{List, [], ◌∷◌, map}
use mathlib.Core.Logic.{inl, inr}
use lib.ListN.{get_or, drop}
use Rattle.meaning.specs.declared.Answer.{Answer}
use Rattle.meaning.specs.Showing.{Part, show}
use Rattle.meaning.specs.Tests.{Has}
use Rattle.meaning.proofs.DerivationCases.{Shown, showings, showings_hold}
use Rattle.guidance.proofs.GuideCases.{Heard, GuideCase, heard_in, guide_cases, guide_cases_hold}
use Rattle.demands.proofs.ProvedCases.{Call, outcome_of, Row, proved_cases, proved_cases_hold}

module _ {A B : Type 0} (f g : A → B) where
  entry_same : (xs : List A) → map f xs ≡ map g xs → (x : A) → Has xs x → f x ≡ g x
  entry_same [] same x has = absurd has
  entry_same (y ∷ ys) same x (inl here) = ap f here ∙ ap (λ (l : List B). get_or l 0 (f y)) same ∙ sym (ap g here)
  entry_same (y ∷ ys) same x (inr later) = entry_same ys (ap (drop 1) same) x later

-- A ROW of the proved cases, whose call is this one: what the definition gives of the call is what the row says.
pub row_holds : (row : Row) → Has proved_cases row → (call : Call) → row.call ≡ call → row.gives ≡ outcome_of call
row_holds row has call is = sym (entry_same (λ (r : Row). outcome_of r.call) (λ (r : Row). r.gives) proved_cases proved_cases_hold row has) ∙ ap outcome_of is

-- A row of the showing call, whose inputs are these.
pub showing_holds : (row : Shown) → Has showings row → (a : Answer) (request derivation : List ℕ) → row.answer ≡ a → row.request ≡ request → row.derivation ≡ derivation → row.part ≡ show a request derivation
showing_holds row has a request derivation same_answer same_request same-derivation =
    sym (entry_same (λ (c : Shown). show c.answer c.request c.derivation) (λ (c : Shown). c.part) showings showings_hold row has)
    ∙ ap (λ (z : Answer). show z row.request row.derivation) same_answer
    ∙ ap₂ {C = Part} (show a) same_request same-derivation

-- A row of a guide, whose request and budget are these.
pub guide_holds : (row : GuideCase) → Has guide_cases row → (request : List ℕ) (budget : ℕ) → row.request ≡ request → row.budget ≡ budget → row.hears ≡ heard_in request budget row.calls
guide_holds row has request budget same_request same-budget =
    sym (entry_same (λ (c : GuideCase). heard_in c.request c.budget c.calls) (λ (c : GuideCase). c.hears) guide_cases guide_cases_hold row has)
    ∙ ap₂ {C = Heard} (λ q n. heard_in q n row.calls) same_request same-budget
