-- What lines add to a standing: some lines after others add first the ones and then the others. And what one line that is put leaves behind: it is added to the standing, and
-- the progress still fits its numbers. Assumes nothing.
use Prim.Native.Nat.{ℕ, ◌+◌, ◌≤◌, ◌<◌}
use native.Mathlib.Omega.{arith}
use mathlib.Core.Path.{◌≡◌, refl, sym, ◌∙◌, ap, ap₂}
use mathlib.Core.List.{List, [], ◌∷◌, ◌++◌, append_assoc, append-nil}
use lib.ListN.{length, length-append}
use lib.Seq.{sets}
use lib.Dec.{ltb}
use borrow.Author.Tests.{ltb-true, ltb-false, lt-ltb, le-ltb}
use Rattle.meaning.specs.declared.Layout.{Layout}
use Rattle.meaning.specs.declared.Layout.TheVariants.{Plain}
use Rattle.meaning.specs.Limits.{format}
use Rattle.meaning.specs.Derivations.{Line}
use Rattle.meaning.specs.Layouts.{line_written, lines_written}
use Rattle.meaning.proofs.TestLaws.{by-test, pick_true, pick_false}
use Rattle.writing.specs.declared.lines.Progress.{Progress}
use Rattle.writing.specs.Progress.{Standing, over, so_far, add, standing, most_line, Underway}
use Rattle.steps.proofs.StoreLaws.{stores_behind}

-- LINES one after another.
pub lines_append : (layout : Layout) (a b : List Line) → lines_written layout (a ++ b) ≡ lines_written layout a ++ lines_written layout b
unfolding lines_written
lines_append layout [] b = refl
lines_append layout (l ∷ a) b =
    ap (λ (xs : List ℕ). line_written layout l ++ xs) (lines_append layout a b)
    ∙ sym (append_assoc (line_written layout l) (lines_written layout a) (lines_written layout b))

-- ADDING lines, within the limit or above it.
module _ (n m : ℕ) (room : List ℕ) (ls : List Line) where
  pub add_within : n + length ls ≤ format.lines → add (so_far n m room) ls ≡ so_far (n + length ls) (m + length (lines_written Plain ls)) (sets room m (lines_written Plain ls))
  unfolding add
  add_within few = pick_false _ _ _ (le-ltb format.lines (n + length ls) few)

  pub add_above : format.lines < n + length ls → add (so_far n m room) ls ≡ over
  unfolding add
  add_above many = pick_true _ _ _ (lt-ltb format.lines (n + length ls) many)

pub add_none : (x : Standing) → (ls : List Line) → x ≡ over → add x ls ≡ over
unfolding add
add_none x ls is = ap (λ (y : Standing). add y ls) is

module _ (n m : ℕ) (room : List ℕ) (a b : List Line) where
  sum : n + length (a ++ b) ≡ n + length a + length b
  sum = let long = length-append a b in omega (arith, long)

  -- The first lines are within the limit.
  within_first : n + length a ≤ format.lines → add (add (so_far n m room) a) b ≡ add (so_far n m room) (a ++ b)
  within_first few =
      let x : List ℕ = lines_written Plain a in
      let y : List ℕ = lines_written Plain b in
      let both = lines_append Plain a b in
      ap (λ (u : Standing). add u b) (add_within n m room a few)
      ∙ by-test (ltb format.lines (n + length a + length b))
      (λ t. let many = ltb-true _ _ t in let same = sum in add_above (n + length a) (m + length x) (sets room m x) b many ∙ sym (add_above n m room (a ++ b) (omega (arith, many, same))))
      (λ f.
      let small = ltb-false _ _ f in
      let same = sum in
      let long : m + length x + length y ≡ m + length (lines_written Plain (a ++ b)) = let size = ap length both ∙ length-append x y in omega (arith, size) in
      add_within (n + length a) (m + length x) (sets room m x) b small
      ∙ ap₂ (λ (k : ℕ) (j : ℕ). so_far k j (sets (sets room m x) (m + length x) y)) (sym same) long
      ∙ ap (so_far (n + length (a ++ b)) (m + length (lines_written Plain (a ++ b)))) (sym (stores_behind x y room m) ∙ ap (sets room m) (sym both))
      ∙ sym (add_within n m room (a ++ b) (omega (arith, small, same))))

  above_first : format.lines < n + length a → add (add (so_far n m room) a) b ≡ add (so_far n m room) (a ++ b)
  above_first many =
      let same = sum in
      add_none (add (so_far n m room) a) b (add_above n m room a many) ∙ sym (add_above n m room (a ++ b) (omega (arith, many, same)))

pub add_both : (x : Standing) (a b : List Line) → add (add x a) b ≡ add x (a ++ b)
unfolding add
add_both over a b = refl
add_both (so_far n m room) a b =
    by-test (ltb format.lines (n + length a))
    (λ t. above_first n m room a b (ltb-true _ _ t))
    (λ f. within_first n m room a b (ltb-false _ _ f))

-- THE PROGRESS. It stands over exactly where there are too many lines.
module _ (progress : Progress) (room : List ℕ) where
  pub stands_over : format.lines < progress.lines → standing progress room ≡ over
  unfolding standing
  stands_over many = pick_true _ _ _ (lt-ltb format.lines progress.lines many)

  pub stands_so_far : progress.lines ≤ format.lines → standing progress room ≡ so_far progress.lines progress.end room
  unfolding standing
  stands_so_far few = pick_false _ _ _ (le-ltb format.lines progress.lines few)

  pub over_stands : standing progress room ≡ over → format.lines < progress.lines
  over_stands is =
      by-test (ltb format.lines progress.lines)
      (λ t. ltb-true _ _ t)
      (λ f. absurd (never (sym (stands_so_far (ltb-false _ _ f)) ∙ is)))
    where
      never : so_far progress.lines progress.end room ≡ over → ⊥
      never e = let z : ◌≡◌ {A = ℕ} 0 1 = cc in omega arith

  -- Nothing more is written then.
  pub lines_over : format.lines < progress.lines → (ls : List Line) → standing progress room ≡ add (standing progress room) ls
  lines_over many ls = let is = stands_over many in is ∙ sym (add_none (standing progress room) ls is)

-- A LINE behind those that are there.
module _ (progress : Progress) (underway : Underway progress) (few : progress.lines ≤ format.lines) where
  pub progress_near : progress.end < 34393292800
  progress_near = let short = underway.short in omega (arith, short, few)

  module _ (end : ℕ) where
    abbrev next : Progress
    next = record { lines = progress.lines + 1; end = end }

    pub line_goes_on : end ≤ progress.end + most_line → Underway next
    line_goes_on near =
        let short = underway.short in
        record {
          few = omega (arith, few);
          short = omega (arith, short, near);
        }

    pub line_added : (room after : List ℕ) (l : Line) → after ≡ sets room progress.end (line_written Plain l) → end ≡ progress.end + length (line_written Plain l)
        → standing next after ≡ add (standing progress room) (l ∷ [])
    unfolding lines_written
    line_added room after l put ends =
        let n = progress.lines in
        let m = progress.end in
        let same : line_written Plain l ≡ line_written Plain l ++ [] = sym (append-nil (line_written Plain l)) in
        by-test (ltb format.lines (n + 1))
        (λ t.
        let many = ltb-true _ _ t in
        stands_over next after many ∙ sym (add_above n m room (l ∷ []) many) ∙ ap (λ (u : Standing). add u (l ∷ [])) (sym (stands_so_far progress room few)))
        (λ f.
        let small = ltb-false _ _ f in
        stands_so_far next after small
        ∙ ap (λ (j : ℕ). so_far (n + 1) j after) (ends ∙ ap (λ (xs : List ℕ). m + length xs) same)
        ∙ ap (so_far (n + 1) (m + length (line_written Plain l ++ []))) (put ∙ ap (sets room m) same)
        ∙ sym (add_within n m room (l ∷ []) small)
        ∙ ap (λ (u : Standing). add u (l ∷ [])) (sym (stands_so_far progress room few)))
