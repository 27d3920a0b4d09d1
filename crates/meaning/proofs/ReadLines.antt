-- What reading guarantees of the lines of a derivation and of the question: every list of literals ascends, X is clear, the conclusion is of the
-- kind that its rule byte says, and no more lines are cited than the limit. Each reader that gives something has passed its own tests.
-- Assumes nothing.
use Prim.Native.Nat.{ℕ, zero, suc, ◌+◌, ◌≤◌}
use native.Mathlib.Omega.{arith}
use mathlib.Core.Path.{◌≡◌, refl, sym, ◌∙◌, ap, subst}
use mathlib.Core.Bool.{true, false}
use mathlib.Core.List.{List, [], ◌∷◌}
use mathlib.Core.Logic.{◌⊎◌, inl, inr}
use lib.ListN.{length}
use Rattle.meaning.specs.Tests.{Has}
use Rattle.meaning.specs.declared.Layout.{Layout}
use Rattle.meaning.specs.declared.Layout.TheVariants.{Plain, Closing}
use Rattle.meaning.specs.Limits.{Limits}
use Rattle.meaning.specs.Requests.{Table, Request, values}
use Rattle.meaning.specs.Reading.{Flags, got, byte_at, two_bytes_at, count_at, below_at, literals, fluents, entry_at, entries_at, list_at, repeated, section_at, effect_at, executability_at, knowledge_at, plan_at, table_at, placed, request_at, read_request}
use Rattle.meaning.specs.Derivations.{Conclusion, knows, knows_whether, Line, Derivation, Concluded, concludes_fluent, list_concluded, fluent_concluded, conclusion_at, concluded_at, line_at, closing_at, read_derivation}
use Rattle.meaning.proofs.TestLaws.{pick-cases}
use Rattle.meaning.proofs.SettledLaws.{got_same}
use Rattle.meaning.proofs.RangeLaws.{after_got, not_refused, count_within, entry_above, list_within, list_consistent, line_read, repeated_length}
use Rattle.meaning.proofs.SetLaws.{Ascending}
use Rattle.meaning.proofs.RulesExact.{ConclusionAscends, Proper}

-- LISTS.
entries_ascend : (n : ℕ) (s : List ℕ) (left p floor : ℕ) (xs : List ℕ) (q : ℕ) → entries_at literals n s left p floor ≡ got xs q → Ascending floor xs
unfolding entries_at
entries_ascend n s zero p floor xs q e = subst (Ascending floor) (got_same e) tt
entries_ascend n s (suc left) p floor xs q e =
    after_got (entry_at literals n s p floor) _ e λ x i ex e'.
    after_got (entries_at literals n s left i (x + 1)) _ e' λ ys j eys e''.
    subst (Ascending floor) (got_same e'') ((entry_above n s p floor x i ex).1.least, entries_ascend n s left i (x + 1) ys j eys)

pub list_ascends : (n most : ℕ) (s : List ℕ) (p : ℕ) (xs : List ℕ) (q : ℕ) → list_at literals n most s p ≡ got xs q → Ascending 0 xs
unfolding list_at
list_ascends n most s p xs q e = after_got (count_at 0 most s p) _ e λ c i _ entries. entries_ascend n s c i 0 xs q entries

-- CONCLUSIONS.
abbrev pub IsList : Conclusion → Type 0
IsList (knows Y) = Unit {0}
IsList (knows_whether f) = ⊥

abbrev pub IsFluent : Conclusion → Type 0
IsFluent (knows Y) = ⊥
IsFluent (knows_whether f) = Unit {0}

-- The plain layout has lists only, and the closing one goes by the rule byte.
abbrev pub OfKind : Layout → (rule : ℕ) → Conclusion → Type 0
OfKind Plain rule Y = IsList Y
OfKind Closing rule Y = ((concludes_fluent rule ≡ true) × IsFluent Y) ⊎ ((concludes_fluent rule ≡ false) × IsList Y)

module _ (lim : Limits) (n : ℕ) (s : List ℕ) where
  list_is : (p : ℕ) (Y : Conclusion) (q : ℕ) → list_concluded lim n s p ≡ got Y q → ConclusionAscends Y × IsList Y
  unfolding list_concluded
  list_is p Y q e =
      after_got (list_at literals n lim.listed s p) _ e λ ys i read same.
      subst (λ (Z : Conclusion). ConclusionAscends Z × IsList Z) (got_same same) (list_ascends n lim.listed s p ys i read, tt)

  fluent_is : (p : ℕ) (Y : Conclusion) (q : ℕ) → fluent_concluded lim n s p ≡ got Y q → ConclusionAscends Y × IsFluent Y
  unfolding fluent_concluded
  fluent_is p Y q e =
      after_got (below_at n s p) _ e λ f i _ same.
      subst (λ (Z : Conclusion). ConclusionAscends Z × IsFluent Z) (got_same same) (tt, tt)

  concluded_is : (layout : Layout) (p : ℕ) (end : Concluded) (q : ℕ) → concluded_at lim n s layout p ≡ got end q → ConclusionAscends end.Y × OfKind layout end.rule end.Y
  unfolding concluded_at conclusion_at
  concluded_is Plain p end q e =
      after_got (list_concluded lim n s p) _ e λ Y i read e'.
      after_got (byte_at s i) _ e' λ rule j _ same.
      subst (λ (x : Concluded). ConclusionAscends x.Y × IsList x.Y) (got_same same) (list_is p Y i read)
  concluded_is Closing p end q e =
      after_got (byte_at s p) _ e λ rule i _ e'.
      after_got (conclusion_at lim n s rule i) _ e' λ Y j read same.
      subst (λ (x : Concluded). ConclusionAscends x.Y × OfKind Closing x.rule x.Y) (got_same same)
      (pick-cases (concludes_fluent rule) _ _ read
      (λ t r. let w = fluent_is i Y j r in (w.0, inl (t, w.1)))
      (λ f r. let w = list_is i Y j r in (w.0, inr (f, w.1))))

-- LINES.
pub record ReadLine (lim : Limits) (layout : Layout) (l : Line) : Type 0 where
  pub proper : Proper lim l
  pub kind : OfKind layout l.rule l.Y
  pub few : length l.cites ≤ lim.citations

line_is : (lim : Limits) (n m : ℕ) → n ≤ lim.state → (s : List ℕ) (layout : Layout) (p : ℕ) (l : Line) (q : ℕ) → line_at lim n m s layout p ≡ got l q → ReadLine lim layout l
unfolding line_at
line_is lim n m room s layout p l q e =
    after_got (list_at literals n lim.listed s p) _ e λ X i x e₁.
    after_got (plan_at lim Flags n m s i) _ e₁ λ _ j _ e₂.
    after_got (concluded_at lim n s layout j) _ e₂ λ end k y e₃.
    after_got (count_at 0 lim.citations s k) _ e₃ λ c g counts e₄.
    after_got (repeated (two_bytes_at s) c g) _ e₄ λ cites f reads same.
    let concludes = concluded_is lim n s layout j end k y in
    subst (ReadLine lim layout) (got_same same) (record {
      proper = record {
        XAscends = list_ascends n lim.listed s p X i x;
        XClear = record { within = λ z h. omega (arith, list_within n lim.listed s p X i x z h); consistent = list_consistent n lim.listed s p X i x };
        YAscends = concludes.0;
      };
      kind = concludes.1;
      few = subst (λ (z : ℕ). z ≤ lim.citations) (sym (repeated_length (two_bytes_at s) c g cites f reads)) (count_within 0 lim.citations s k c g counts);
    })

pub lines_read : (lim : Limits) (n m : ℕ) → n ≤ lim.state → (s : List ℕ) (layout : Layout) (d : Derivation) (e : ℕ) → read_derivation lim n m s layout ≡ got d e
    → (l : Line) → Has d.lines l → ReadLine lim layout l
unfolding read_derivation
lines_read lim n m room s layout d e q l h =
    after_got (two_bytes_at s 0) _ (not_refused _ _ _ _ q).1 λ c p _ q₁.
    after_got (repeated (line_at lim n m s layout) c p) _ (not_refused _ _ _ _ q₁).1 λ ls p₁ read q₂.
    after_got (closing_at s layout p₁) _ q₂ λ _ _ _ q₃.
    let w = line_read (line_at lim n m s layout) c p ls p₁ read l (subst (λ (x : Derivation). Has x.lines l) (sym (got_same (not_refused _ _ _ _ q₃).1)) h) in
    line_is lim n m room s layout w.0 l w.1 w.2

-- THE QUESTION. The initial facts and the goals ascend.
pub placed_values : (p : ℕ) (xs : List ℕ) → values (placed p xs) ≡ xs
unfolding placed values
placed_values p [] = refl
placed_values p (x ∷ xs) = ap (λ (ys : List ℕ). x ∷ ys) (placed_values (p + 1) xs)

pub question_ascends : (lim : Limits) (b : List ℕ) (r : Request) (e : ℕ) → read_request lim Flags b ≡ got r e → Ascending 0 r.table.facts × Ascending 0 (values r.goals)
unfolding read_request table_at request_at
question_ascends lim b r e reads =
    after_got (table_at lim Flags b 0) _ (not_refused _ _ _ _ reads).1 λ t p₁ et e₁.
    after_got (request_at lim Flags b t p₁) _ e₁ λ q p₂ eq e₂.
    after_got (plan_at lim Flags t.fluents t.actions b p₁) _ eq λ _ p₃ _ e₃.
    after_got (list_at literals t.fluents lim.listed b p₃) _ e₃ λ goals p₄ eg e₄.
    after_got (list_at fluents t.fluents lim.listed b p₄) _ e₄ λ _ _ _ same.
    subst (λ (x : Request). Ascending 0 x.table.facts × Ascending 0 (values x.goals)) (got_same same ∙ got_same (not_refused _ _ _ _ e₂).1) (
      (after_got (count_at 1 lim.fluents b 0) _ et λ n i₁ _ t₁.
          after_got (count_at 1 lim.actions b i₁) _ t₁ λ m i₂ _ t₂.
          after_got (list_at literals n lim.listed b i₂) _ t₂ λ facts i₃ ef t₃.
          after_got (section_at (effect_at lim Flags n m b) b i₃) _ t₃ λ _ i₄ _ t₄.
          after_got (section_at (executability_at lim Flags n m b) b i₄) _ t₄ λ _ i₅ _ t₅.
          after_got (section_at (knowledge_at lim n m b) b i₅) _ t₅ λ _ _ _ last.
          subst (λ (x : Table). Ascending 0 x.facts) (got_same last) (list_ascends n lim.listed b i₂ facts i₃ ef)),
      subst (Ascending 0) (sym (placed_values (p₃ + 1) goals)) (list_ascends t.fluents lim.listed b p₃ goals p₄ eg),
    )
