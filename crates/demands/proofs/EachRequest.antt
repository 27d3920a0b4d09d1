-- Each request that was read is the bytes of parts, and is cut as they are: its parts are what was read and the bytes between. So what is said of requests
-- in parts is said of every request. Assumes nothing.
use Prim.Native.Nat.{ℕ, zero, suc, ◌+◌, ◌-◌, ◌≤◌}
use native.Mathlib.Omega.{arith}
use mathlib.Core.Path.{◌≡◌, refl, sym, ◌∙◌, ap, ap₂, subst}
use mathlib.Core.List.{List, [], ◌∷◌, ◌++◌}
use lib.ListN.{length, get_or}
use borrow.Author.Tests.{ltb-false}
use Rattle.meaning.specs.Limits.{Limits}
use Rattle.meaning.specs.Requests.{Table, Sequence, Request}
use Rattle.meaning.specs.declared.Form.TheVariants.{Flags}
use Rattle.meaning.specs.Reading.{got, literals, fluents, count_at, list_at, Met, plan_at, table_at, request_at, read_request}
use Rattle.meaning.specs.Layouts.{list_written}
use Rattle.demands.specs.Reuse.{Parts, before_plan, bytes_of, CutSo}
use Rattle.meaning.proofs.RangeLaws.{not_refused, after_got, got_place}
use Rattle.meaning.proofs.MovedReads.{Stands, stands_both, stands_whole, stands_inside, stands_length, count_copied, list_copied}
use Rattle.meaning.proofs.KeptReads.{kept_of, plan_kept}
use Rattle.demands.proofs.PartReads.{lines_at, lines_kept, lines_counts, behind_is}

-- So many bytes of an input, from a place on.
stretch : List ℕ → (p left : ℕ) → List ℕ
stretch s p zero = []
stretch s p (suc left) = get_or s p 0 ∷ stretch s (p + 1) left

stretch_stands : (s : List ℕ) (p left : ℕ) → p + left ≤ length s → Stands s p (stretch s p left) (p + left)
unfolding stretch
stretch_stands s p zero inside = omega arith
stretch_stands s p (suc left) inside =
    let more = stretch_stands s (p + 1) left (omega (arith, inside)) in
    let same : p + 1 + left ≡ p + suc left = omega arith in
    (omega (arith, inside), refl, subst (λ (e : ℕ). Stands s (p + 1) (stretch s (p + 1) left) e) same more)

-- The bytes between two places.
abbrev between : List ℕ → (p q : ℕ) → List ℕ
between s p q = stretch s p (q - p)

between_stands : (s : List ℕ) (p q : ℕ) → p ≤ q → q ≤ length s → Stands s p (between s p q) q
between_stands s p q up inside =
    let same : p + (q - p) ≡ q = omega (arith, up) in
    subst (λ (e : ℕ). Stands s p (between s p q) e) same (stretch_stands s p (q - p) (omega (arith, up, inside)))

module _ (lim : Limits) (s : List ℕ) where
  -- A reader goes on, and stays within the input.
  plan_within : (n m p : ℕ) (x : Met (Sequence ℕ)) (e : ℕ) → plan_at lim Flags n m s p ≡ got x e → (p ≤ e) × (p ≤ length s → e ≤ length s)
  plan_within n m p x e read =
      let kept = kept_of s s 0 (omega arith) (λ i less. refl) p _ _ (plan_kept s s 0 (omega arith) (λ i less. refl) lim n m p) x e read in
      (kept.0, kept.1)

  lines_within : (n m p : ℕ) (l : Table) (e : ℕ) → lines_at lim n m s p ≡ got l e → (p ≤ e) × (p ≤ length s → e ≤ length s)
  lines_within n m p l e read =
      let kept = kept_of s s 0 (omega arith) (λ i less. refl) p _ _ (lines_kept lim n m s s 0 (omega arith) (λ i less. refl) p) l e read in
      (kept.0, kept.1)

  -- Parts put together.
  module _ (n m p₁ p₂ p₃ p p₄ p₅ p₆ : ℕ) (facts goals whether : List ℕ) (first : Stands s 0 (n ∷ []) p₁) (second : Stands s p₁ (m ∷ []) p₂) (third : Stands s p₂ (list_written facts) p₃)
      (lines-on : p₃ ≤ p) (plan_on : p ≤ p₄) (inside : p₄ ≤ length s) (asked : Stands s p₄ (list_written goals) p₅) (asked-too : Stands s p₅ (list_written whether) p₆) (last : p₆ ≡ length s)
      (t : Table) (table : table_at lim Flags s 0 ≡ got t p) (plan : Met (Sequence ℕ)) (plan_there : plan_at lim Flags n m s p ≡ got plan p₄) where
    abbrev x : Parts
    x = record { fluents = n; actions = m; facts = facts; lines = between s p₃ p; plan = between s p p₄; goals = goals; whether = whether }

    before_stands : Stands s 0 (before_plan x) p
    unfolding before_plan
    before_stands =
        stands_both s 0 (n ∷ []) p₁ (m ∷ (list_written facts ++ between s p₃ p)) p first
        (stands_both s p₁ (m ∷ []) p₂ (list_written facts ++ between s p₃ p) p second
        (stands_both s p₂ (list_written facts) p₃ (between s p₃ p) p third (between_stands s p₃ p lines-on (omega (arith, plan_on, inside)))))

    plan_stands : Stands s p (between s p p₄) p₄
    plan_stands = between_stands s p p₄ plan_on inside

    whole : bytes_of x ≡ s
    unfolding bytes_of
    whole =
        stands_whole s (bytes_of x)
        (stands_both s 0 (before_plan x) p (between s p p₄ ++ (list_written goals ++ list_written whether)) (length s) before_stands
        (stands_both s p (between s p p₄) p₄ (list_written goals ++ list_written whether) (length s) plan_stands
        (stands_both s p₄ (list_written goals) p₅ (list_written whether) (length s) asked (subst (λ (e : ℕ). Stands s p₅ (list_written whether) e) last asked-too))))

    put_together : (x : Parts) × (bytes_of x ≡ s) × CutSo lim x
    put_together =
        let start : p ≡ length (before_plan x) = stands_length s 0 (before_plan x) p before_stands ∙ omega arith in
        let end : p₄ ≡ length (before_plan x) + length (between s p p₄) = stands_length s p (between s p p₄) p₄ plan_stands ∙ ap (λ (k : ℕ). k + length (between s p p₄)) start in (
          x,
          whole,
          record {
            table = t;
            table_read = ap (λ (b : List ℕ). table_at lim Flags b 0) whole ∙ table ∙ ap (λ (k : ℕ). got t k) start;
            plan = plan;
            plan_read = ap₂ (λ (b : List ℕ) (k : ℕ). plan_at lim Flags n m b k) whole (sym start) ∙ plan_there ∙ ap (λ (k : ℕ). got plan k) end;
          },
        )

  pub each_request : (r : Request) (e : ℕ) → read_request lim Flags s ≡ got r e → (x : Parts) × (bytes_of x ≡ s) × CutSo lim x
  unfolding read_request request_at table_at
  each_request r e read =
      let short = not_refused _ _ _ _ read in
      after_got (table_at lim Flags s 0) _ short.1 λ t p et e₁.
      after_got (request_at lim Flags s t p) _ e₁ λ q i eq last.
      after_got (count_at 1 lim.fluents s 0) _ et λ n p₁ en f₁.
      after_got (count_at 1 lim.actions s p₁) _ f₁ λ m p₂ em f₂.
      after_got (list_at literals n lim.listed s p₂) _ f₂ λ facts p₃ ef f₃.
      after_got (plan_at lim Flags t.fluents t.actions s p) _ eq λ plan p₄ ep g₁.
      after_got (list_at literals t.fluents lim.listed s p₄) _ g₁ λ goals p₅ eg g₂.
      after_got (list_at fluents t.fluents lim.listed s p₅) _ g₂ λ whether p₆ ew same.
      let first = ((count_copied s 1 lim.fluents 0).holds n p₁ en).there in
      let second = ((count_copied s 1 lim.actions p₁).holds m p₂ em).there in
      let third = ((list_copied literals n s lim.listed p₂).holds facts p₃ ef).there in
      let fifth = ((list_copied literals t.fluents s lim.listed p₄).holds goals p₅ eg).there in
      let sixth = ((list_copied fluents t.fluents s lim.listed p₅).holds whether p₆ ew).there in
      let behind = behind_is lim n m facts s p₃ t p f₃ in
      let lines = lines_within n m p₃ behind.0 p behind.1 in
      let counts = lines_counts lim n m s p₃ behind.0 p behind.1 in
      let goes = plan_within t.fluents t.actions p plan p₄ ep in
      let in_one = stands_inside s 0 (n ∷ []) p₁ (omega arith) first in
      let in_two = stands_inside s p₁ (m ∷ []) p₂ in_one second in
      let in_three = stands_inside s p₂ (list_written facts) p₃ in_two third in
      let in_four = goes.1 (lines.1 in_three) in
      let in-five = stands_inside s p₄ (list_written goals) p₅ in_four fifth in
      let in-six = stands_inside s p₅ (list_written whether) p₆ in-five sixth in
      let all = ltb-false i (length s) (not_refused _ _ _ _ last).0 in
      let end : p₆ ≡ length s = let place = got_place same in omega (arith, place, all, in-six) in
      let few : t.fluents ≡ n = ap (λ (u : Table). u.fluents) behind.2 ∙ counts.0 in
      let many : t.actions ≡ m = ap (λ (u : Table). u.actions) behind.2 ∙ counts.1 in
      put_together n m p₁ p₂ p₃ p p₄ p₅ p₆ facts goals whether first second third lines.0 goes.0 in_four fifth sixth end t et plan
      (ap₂ (λ (a b : ℕ). plan_at lim Flags a b s p) (sym few) (sym many) ∙ ep)
