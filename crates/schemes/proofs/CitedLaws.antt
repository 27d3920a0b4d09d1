-- Lines that cite the line before them, or another one first. Assumes nothing.
use Prim.Native.Nat.{ℕ, ◌-◌, ◌≤◌, ◌<◌}
use native.Mathlib.Omega.{arith}
use mathlib.Core.Path.{◌≡◌, ◌∙◌, ap}
use mathlib.Core.List.{List, [], ◌∷◌, ◌++◌}
use lib.ListN.{length, length-append}
use Rattle.meaning.specs.Limits.{format}
use Rattle.meaning.specs.Requests.{Sequence}
use Rattle.meaning.specs.States.{State}
use Rattle.meaning.specs.Derivations.{Conclusion}
use Rattle.meaning.specs.Schemes.{line_of}
use Rattle.writing.specs.declared.lines.Progress.{Progress}
use Rattle.writing.specs.Progress.{add, standing, Underway}
use Rattle.schemes.specs.Put.{Put}
use Rattle.schemes.proofs.AddLaws.{some_added}

-- There is room behind none, and behind one.
pub none_fits : (cites : List ℕ) → cites ≡ [] → length cites < format.citations
none_fits cites none = let long = ap length none in omega (arith, long)

pub one_fits : (line : ℕ) (cites cites₁ : List ℕ) → cites ≡ [] → cites₁ ≡ cites ++ (line ∷ []) → length cites₁ < format.citations
one_fits line cites cites₁ none one = let long = ap length none in let more = ap length one ∙ length-append cites (line ∷ []) in omega (arith, long, more)

-- NUMBERS OF LINES.
module _ (progress : Progress) where
  pub line_there : 0 < progress.lines → 1 ≤ progress.lines
  line_there some = some

  module _ (underway : Underway progress) where
    pub line_near : progress.lines < 65536
    line_near = let few = underway.few in omega arith

    pub last_near : progress.lines - 1 < 65536
    last_near = let near = line_near in omega arith

-- A LINE that cites the line before it, and one that cites another first.
module _ (marks : State) (c : Sequence ℕ) (Y : Conclusion) (rule : ℕ) (progress : Progress) (room : List ℕ) (progress₁ : Progress) (room₁ : List ℕ) where
  cited_put : (cites : List ℕ) → standing progress₁ room₁ ≡ add (standing progress room) (line_of marks c Y rule cites ∷ []) → Underway progress₁
      → Put (line_of marks c Y rule cites ∷ []) progress room progress₁ room₁
  cited_put cites puts underway = record { stands = puts; underway = underway; some = some_added progress room (line_of marks c Y rule cites ∷ []) progress₁ room₁ puts (omega arith) }

  -- The rule is put as the byte that says it.
  by_rule : (byte : ℕ) → byte ≡ rule → (cites : List ℕ) → standing progress₁ room₁ ≡ add (standing progress room) (line_of marks c Y byte cites ∷ []) → standing progress₁ room₁ ≡ add (standing progress room) (line_of marks c Y rule cites ∷ [])
  by_rule byte same cites puts = puts ∙ ap (λ (n : ℕ). add (standing progress room) (line_of marks c Y n cites ∷ [])) same

  pub next_put : (cites : List ℕ) → cites ≡ [] → (cites₁ : List ℕ) → cites₁ ≡ cites ++ ((progress.lines - 1) ∷ []) → (byte : ℕ) → byte ≡ rule → standing progress₁ room₁ ≡ add (standing progress room) (line_of marks c Y byte cites₁ ∷ []) → Underway progress₁
      → Put (line_of marks c Y rule ((progress.lines - 1) ∷ []) ∷ []) progress room progress₁ room₁
  next_put cites none cites₁ one byte same puts underway =
      let is : cites₁ ≡ (progress.lines - 1) ∷ [] = one ∙ ap (λ (xs : List ℕ). xs ++ ((progress.lines - 1) ∷ [])) none in
      rw is at (cited_put cites₁ (by_rule byte same cites₁ puts) underway)

  pub composed_put : (first : ℕ) (cites : List ℕ) → cites ≡ [] → (cites₁ : List ℕ) → cites₁ ≡ cites ++ (first ∷ []) → (cites₂ : List ℕ) → cites₂ ≡ cites₁ ++ ((progress.lines - 1) ∷ [])
      → (byte : ℕ) → byte ≡ rule → standing progress₁ room₁ ≡ add (standing progress room) (line_of marks c Y byte cites₂ ∷ []) → Underway progress₁
      → Put (line_of marks c Y rule (first ∷ (progress.lines - 1) ∷ []) ∷ []) progress room progress₁ room₁
  composed_put first cites none cites₁ one cites₂ two byte same puts underway =
      let is : cites₂ ≡ first ∷ (progress.lines - 1) ∷ [] = two ∙ ap (λ (xs : List ℕ). xs ++ ((progress.lines - 1) ∷ [])) (one ∙ ap (λ (xs : List ℕ). xs ++ (first ∷ [])) none) in
      rw is at (cited_put cites₂ (by_rule byte same cites₂ puts) underway)
