-- Lines behind others: what is added by the number of lines that are there is added behind these. Assumes nothing.
use Prim.Native.Nat.{ℕ, ◌+◌, ◌≤◌, ◌<◌}
use native.Mathlib.Omega.{arith}
use mathlib.Core.Path.{◌≡◌, sym, ◌∙◌, ap}
use mathlib.Core.List.{List, ◌++◌}
use lib.ListN.{length}
use lib.Dec.{ltb}
use borrow.Author.Tests.{ltb-true, ltb-false}
use Rattle.meaning.specs.Limits.{format}
use Rattle.meaning.specs.Derivations.{Line}
use Rattle.meaning.proofs.TestLaws.{by-test}
use Rattle.writing.specs.declared.lines.Progress.{Progress}
use Rattle.writing.specs.Progress.{Standing, over, so_far, add, standing}
use Rattle.writing.proofs.ProgressLaws.{add_within, add_above, add_none, add_both, stands_over, stands_so_far}

so_far≢over : {n b : ℕ} {room : List ℕ} → so_far n b room ≡ over → ⊥
so_far≢over e = let z : ◌≡◌ {A = ℕ} 0 1 = cc in omega arith

lines_same : {n m b c : ℕ} {room room' : List ℕ} → so_far n b room ≡ so_far m c room' → n ≡ m
lines_same e = cc

-- Where there are too many lines, what is added makes no difference.
pub over_adds : (progress : Progress) (room : List ℕ) → format.lines < progress.lines → (ls : List Line) → add (standing progress room) ls ≡ over
over_adds progress room many ls = add_none (standing progress room) ls (stands_over progress room many)

module _ (progress : Progress) (room : List ℕ) (ls : List Line) (progress' : Progress) (room' : List ℕ) (puts : standing progress' room' ≡ add (standing progress room) ls) where
  -- Where there are not too many, they are so many more.
  pub count_grows : progress'.lines ≤ format.lines → (progress.lines ≤ format.lines) × (progress'.lines ≡ progress.lines + length ls)
  count_grows few =
      let now = sym (stands_so_far progress' room' few) ∙ puts in
      by-test (ltb format.lines progress.lines)
      (λ u. absurd (so_far≢over (now ∙ over_adds progress room (ltb-true _ _ u) ls)))
      (λ u.
      let before = ltb-false format.lines progress.lines u in
      let added = now ∙ ap (λ (x : Standing). add x ls) (stands_so_far progress room before) in
      by-test (ltb format.lines (progress.lines + length ls))
      (λ v. absurd (so_far≢over (added ∙ add_above progress.lines progress.end room ls (ltb-true _ _ v))))
      (λ v. (before, lines_same (added ∙ add_within progress.lines progress.end room ls (ltb-false _ _ v)))))

  -- There is a line where one was added.
  pub some_added : 0 < length ls → 0 < progress'.lines
  some_added some =
      by-test (ltb format.lines progress'.lines)
      (λ u. let many = ltb-true format.lines progress'.lines u in omega arith)
      (λ u. let more = count_grows (ltb-false format.lines progress'.lines u) in omega (arith, more.1))

  pub behind : (ms : List Line) → add (standing progress' room') ms ≡ add (standing progress room) (ls ++ ms)
  behind ms = ap (λ (x : Standing). add x ms) puts ∙ add_both (standing progress room) ls ms

  pub adds_behind : (k : (n : ℕ) → List Line) → add (standing progress' room') (k progress'.lines) ≡ add (standing progress room) (ls ++ k (progress.lines + length ls))
  adds_behind k =
      by-test (ltb format.lines progress'.lines)
      (λ u.
      let many = ltb-true format.lines progress'.lines u in
      over_adds progress' room' many (k progress'.lines) ∙ sym (over_adds progress' room' many (k (progress.lines + length ls))) ∙ behind (k (progress.lines + length ls)))
      (λ u. ap (λ (n : ℕ). add (standing progress' room') (k n)) (count_grows (ltb-false _ _ u)).1 ∙ behind (k (progress.lines + length ls)))
