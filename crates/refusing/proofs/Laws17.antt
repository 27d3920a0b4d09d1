-- Refusal 17 over the notes that reading left. Assumes nothing.
use Prim.Native.Nat.{ℕ, zero, suc, ◌+◌, ◌-◌, ◌*◌, ◌≤◌, ◌<◌}
use native.Mathlib.Omega.{arith}
use mathlib.Core.Path.{◌≡◌, sym, ◌∙◌, ap, subst}
use mathlib.Core.List.{List}
use lib.ListN.{length, get_or}
use lib.Dec.{ltb}
use mir.Syntax.{w64}
use mir.Val.{Fits}
use borrow.Author.Tests.{lt-ltb, le-ltb}
use Rattle.std.specs.Prelude.{None, Some}
use Rattle.meaning.specs.Tests.{pick}
use Rattle.meaning.specs.Limits.{format}
use Rattle.meaning.specs.Requests.{Effect}
use Rattle.meaning.specs.Refusals
use Rattle.meaning.specs.Refusals.{mixed_in}
use Rattle.meaning.proofs.TestLaws.{pick_true, pick_false}
use Rattle.finding.specs.Places.{found}
use Rattle.finding.specs.LinesHere.{knowledge_from, knowledge_in, KnowledgeHere, Acting}
use Rattle.refusing.specs.Refusal17.{MixedFound}
use Rattle.reading.specs.Noted.{effect_lines, first_line}

-- 17. What is left to be looked at, from line k on.
pub record Looked (s t : List ℕ) (start count k : ℕ) : Type 0 where
  pub rest : (es : List Effect) → Acting t es → mixed_in es (knowledge_in s start 0 count) ≡ mixed_in es (knowledge_in s start k (count - k))

pub looked_starts : (s t : List ℕ) (start count : ℕ) → Looked s t start count 0
looked_starts s t start count = let same : count - 0 ≡ count = omega arith in record { rest = λ es acting. rw same }

module _ (s : List ℕ) (start count : ℕ) (here : KnowledgeHere s start count) (k : ℕ) (more : k < count) where
  pub twice_fits : Fits w64 (length s) → Fits w64 (2 * k)
  twice_fits room = let ends = here.ends in let most = room.fits in record { fits = omega arith }

  pub line_fits : Fits w64 (length s) → Fits w64 (start + 2 * k)
  line_fits room = let ends = here.ends in let most = room.fits in record { fits = omega arith }

  pub line_there : start + 2 * k < length s
  line_there = let ends = here.ends in omega arith

  module _ (a : ℕ) (read : a ≡ get_or s (start + 2 * k) 0) where
    pub acts : a < format.actions
    acts = subst (λ (x : ℕ). x < format.actions) (sym read) (here.acts k more)

    module _ (t : List ℕ) (looked : Looked s t start count k) (first : ℕ) (got : first ≡ first_line t effect_lines a) where
      look_is : (es : List Effect) → Acting t es → mixed_in es (knowledge_in s start 0 count) ≡ pick (ltb 0 first) (λ _. Refusals.Found.at (start + 2 * k)) (λ _. mixed_in es (knowledge_in s start (k + 1) (count - (k + 1))))
      unfolding mixed_in knowledge_in knowledge_from
      look_is es acting =
          let left : count - k ≡ suc (count - (k + 1)) = omega arith in
          looked.rest es acting ∙ rw (left, sym read, sym (acting.slot a acts), got)

      pub look_met : 0 < first → MixedFound s t start count (Some (start + 2 * k))
      unfolding found
      look_met h = record { holds = λ es acting. sym (ap found (look_is es acting ∙ pick_true _ _ _ (lt-ltb 0 first h))) }

      pub look_next : first ≤ 0 → Looked s t start count (k + 1)
      look_next h = record { rest = λ es acting. look_is es acting ∙ pick_false _ _ _ (le-ltb 0 first h) }

pub look_done : (s t : List ℕ) (start count k : ℕ) → Looked s t start count k → count ≤ k → MixedFound s t start count None
unfolding mixed_in knowledge_in found
look_done s t start count k looked h = record {
  holds = λ es acting.
      let none : count - k ≡ zero = omega arith in
      let is : mixed_in es (knowledge_in s start 0 count) ≡ Refusals.Found.nowhere = looked.rest es acting ∙ rw none in
      sym (ap found is);
}
