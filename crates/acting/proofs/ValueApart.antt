-- Past 16, where an action can be run, its effects do not meet: of a fluent that one sets by a body known true, no other sets another value by a
-- possible body. For a value that is known fits a body known true, and a possible body too, so the two bodies do not exclude each other; the line that
-- allows the action is known true and excludes neither; so the two effects would be contradictory. Assumes nothing.
use Prim.Native.Nat.{ℕ, ◌+◌}
use native.Mathlib.Omega.{arith}
use mathlib.Core.Path.{◌≡◌, sym, ◌∙◌, ap, subst}
use mathlib.Core.Bool.{Bool, true, false}
use mathlib.Core.List.{List, [], ◌∷◌}
use mathlib.Core.Logic.{◌⊎◌, inl, inr, ⊎_elim}
use lib.Dec.{eqb}
use borrow.Author.Tests.{eqb-true, eqb-false, eq-eqb, ne_eqb}
use Rattle.meaning.specs.Tests.{both, fails, some_of, each_of, Has}
use Rattle.meaning.specs.Requests.{Effect, Executability, Table}
use Rattle.meaning.specs.Refusals.{nowhere, first_against}
use Rattle.meaning.specs.Lines.{effects_of, executability_of, allowed}
use Rattle.meaning.specs.States.{State}
use Rattle.meaning.specs.Values.{Literals, values_of, set_by, fits, disagree, exclusive, clashing, runs_with, contradictory}
use Rattle.meaning.specs.ValueStates.{is_known, known_as, known, possible, can_be_run}
use Rattle.meaning.proofs.TestLaws.{by-test, clash, both_left, both_right, both_true, either_left, either_right, fails_true, fails_false, pick-cases, some_has, has_some, each_has, has_each, each_mono, those_has}
use Rattle.meaning.proofs.RefusalLaws.{at≢nowhere}

-- NO EFFECT IS AGAINST ONE BEFORE IT, so of two effects one is not against the other, or they are the same.
module _ (against : Effect → Effect → Bool) where
  abbrev Apart : Effect → Effect → Type 0
  Apart e g = (e ≡ g) ⊎ ((against e g ≡ false) ⊎ (against g e ≡ false))

  each_apart : (before es : List Effect) → first_against against before es ≡ nowhere → (e g : Effect) → Has es e → Has es g ⊎ Has before g → Apart e g
  unfolding first_against
  each_apart before [] q e g he hg = absurd he
  each_apart before (x ∷ xs) q e g he hg =
      pick-cases _ _ _ q (λ _ r. absurd (at≢nowhere r)) (λ free r. go free (each_apart (x ∷ before) xs r) he hg)
    where
      turned : Apart g e → Apart e g
      turned (inl p) = inl (sym p)
      turned (inr (inl p)) = inr (inr p)
      turned (inr (inr p)) = inr (inl p)

      go : some_of (against x) before ≡ false → ((e g : Effect) → Has xs e → Has xs g ⊎ Has (x ∷ before) g → Apart e g)
          → (e ≡ x) ⊎ Has xs e → ((g ≡ x) ⊎ Has xs g) ⊎ Has before g → Apart e g
      go free ih (inl p) (inl (inl r)) = inl (p ∙ sym r)
      go free ih (inl p) (inl (inr h)) = turned (ih g e h (inr (inl p)))
      go free ih (inl p) (inr h) = inr (inl (by-test (against e g) (λ t. clash (has_some (against x) before g h (subst (λ (y : Effect). against y g ≡ true) p t)) free) (λ f. f)))
      go free ih (inr h) (inl (inl r)) = ih e g h (inr (inl r))
      go free ih (inr h) (inl (inr k)) = ih e g h (inl k)
      go free ih (inr h) (inr k) = ih e g h (inr (inr k))

module _ (ls : Literals ℕ) (marks : State) where
  -- A VALUE THAT IS KNOWN satisfies each literal that is possible, and so each that is known true.
  one_value : (f u v : ℕ) → is_known marks f u ≡ true → is_known marks f v ≡ true → u ≡ v
  unfolding is_known
  one_value f u v e g = let one = eqb-true _ (u + 1) e in let other = eqb-true _ (v + 1) g in omega (arith, one, other)

  pub known_possible : (l : ℕ) → known ls marks l ≡ true → possible ls marks l ≡ true
  unfolding known possible known_as
  known_possible l e =
      let f = ls.fluent l in
      let t = some_has _ (values_of ls f) e in
      fails_false _
      (by-test _
      (λ o.
      let u = some_has _ (values_of ls f) o in
      let same = one_value f t.0 u.0 (both_left _ _ t.2) (both_left _ _ u.2) in
      clash (subst (λ (v : ℕ). ls.satisfied l v ≡ true) same (both_right _ _ t.2)) (fails_true _ (both_right _ _ u.2)))
      (λ none. none))

  possible_fits : (c : List ℕ) → each_of (possible ls marks) c ≡ true → (f v : ℕ) → Has (values_of ls f) v → is_known marks f v ≡ true → fits ls c f v ≡ true
  unfolding possible known_as fits
  possible_fits c may f v has is =
      has_each _ c
      (λ k there.
      by-test (eqb (ls.fluent k) f)
      (λ t.
      let here = eqb-true (ls.fluent k) f t in
      either_right _ _
      (by-test (ls.satisfied k v)
      (λ good. good)
      (λ bad.
      clash
      (has_some _ (values_of ls (ls.fluent k)) v (subst (λ (g : ℕ). Has (values_of ls g) v) (sym here) has)
      (both_true _ _ (subst (λ (g : ℕ). is_known marks g v ≡ true) (sym here) is) (fails_false _ bad)))
      (fails_true _ (each_has _ c k may there)))))
      (λ u. either_left _ _ (fails_false _ u)))

  -- A BODY KNOWN TRUE AND A POSSIBLE ONE do not exclude each other.
  module _ (b c : List ℕ) (sure : each_of (known ls marks) b ≡ true) (may : each_of (possible ls marks) c ≡ true) where
    fit_both : (l : ℕ) → Has b l → (v : ℕ) × Has (values_of ls (ls.fluent l)) v × (fits ls b (ls.fluent l) v ≡ true) × (fits ls c (ls.fluent l) v ≡ true)
    unfolding known known_as
    fit_both l has =
        let f = ls.fluent l in
        let t = some_has _ (values_of ls f) (each_has _ b l sure has) in
        let is = both_left _ _ t.2 in
        (t.0, t.1, possible_fits b (each_mono _ _ known_possible b sure) f t.0 t.1 is, possible_fits c may f t.0 t.1 is)

    sure_may : exclusive ls b c ≡ false
    unfolding exclusive disagree
    sure_may =
        by-test _
        (λ x.
        let t = some_has _ b x in
        let w = fit_both t.0 t.1 in
        clash (has_some _ (values_of ls (ls.fluent t.0)) w.0 w.1 (both_true _ _ w.2 w.3)) (fails_true _ (both_right _ _ t.2)))
        (λ f. f)

    may_sure : exclusive ls c b ≡ false
    unfolding exclusive disagree
    may_sure =
        by-test _
        (λ x.
        let t = some_has _ c x in
        let u = some_has _ b (both_left _ _ t.2) in
        let w = fit_both u.0 u.1 in
        let same : ls.fluent u.0 ≡ ls.fluent t.0 = eqb-true _ _ u.2 in
        let fit = subst (λ (f : ℕ). some_of (λ (v : ℕ). both (fits ls c f v) (fits ls b f v)) (values_of ls f) ≡ true) same
        (has_some _ (values_of ls (ls.fluent u.0)) w.0 w.1 (both_true _ _ w.3 w.2)) in
        clash fit (fails_true _ (both_right _ _ t.2)))
        (λ f. f)

module _ (ls : Literals ℕ) (t : Table) where
  contradict : (e g : Effect) → e.action ≡ g.action → ls.fluent g.literal ≡ ls.fluent e.literal → (ls.sets e.literal ≡ ls.sets g.literal → ⊥) → exclusive ls e.body g.body ≡ false
      → (x : Executability) → Has (executability_of t e.action) x → exclusive ls e.body x.body ≡ false → exclusive ls g.body x.body ≡ false → contradictory ls t e g ≡ true
  unfolding contradictory clashing runs_with
  contradict e g acts same other together x has one two =
      both_true _ _
      (both_true _ _ (eq-eqb _ _ acts) (both_true _ _ (both_true _ _ (eq-eqb _ _ same) (fails_false _ (ne_eqb _ _ other))) (fails_false _ together)))
      (has_some _ (executability_of t e.action) x has (both_true _ _ (fails_false _ one) (fails_false _ two)))

  module _ (passed : first_against (contradictory ls t) [] t.effects ≡ nowhere) (a : ℕ) (marks : State) (runs : can_be_run ls t a marks ≡ true) where
    -- Two effects of the action, the first with a body known true and the second with a possible one, set the same value where they set one of the same fluent.
    same_set : (e g : Effect) → Has (effects_of t a) e → Has (effects_of t a) g → ls.fluent g.literal ≡ ls.fluent e.literal
        → each_of (known ls marks) e.body ≡ true → each_of (possible ls marks) g.body ≡ true → (ls.sets e.literal ≡ ls.sets g.literal → ⊥) → ⊥
    unfolding effects_of can_be_run allowed
    same_set e g he hg same sure may other =
        let one = those_has _ t.effects e he in
        let two = those_has _ t.effects g hg in
        let ae : e.action ≡ a = eqb-true _ _ one.1 in
        let ag : g.action ≡ a = eqb-true _ _ two.1 in
        let x = some_has _ (executability_of t a) runs in
        let there : (b : ℕ) → b ≡ a → Has (executability_of t b) x.0 = λ b is. subst (λ (c : ℕ). Has (executability_of t c) x.0) (sym is) x.1 in
        let fine = each_mono _ _ (known_possible ls marks) x.0.body x.2 in
        let with-e = sure_may ls marks e.body x.0.body sure fine in
        let with-g = may_sure ls marks x.0.body g.body x.2 may in
        ⊎_elim
        (λ is. other (ap (λ (y : Effect). ls.sets y.literal) is))
        (λ no_one. ⊎_elim
        (clash (contradict e g (ae ∙ sym ag) same other (sure_may ls marks e.body g.body sure may) x.0 (there e.action ae) with-e with-g))
        (clash (contradict g e (ag ∙ sym ae) (sym same) (λ q. other (sym q)) (may_sure ls marks e.body g.body sure may) x.0 (there g.action ag) with-g with-e))
        no_one)
        (each_apart (contradictory ls t) [] t.effects passed e g one.0 (inl two.0))

    pub set_apart : (f v : ℕ) → set_by ls (known ls marks) (eqb v) (effects_of t a) f ≡ true → set_by ls (possible ls marks) (λ u. fails (eqb v u)) (effects_of t a) f ≡ true → ⊥
    unfolding set_by
    set_apart f v sure may =
        let e = some_has _ (effects_of t a) sure in
        let g = some_has _ (effects_of t a) may in
        let fe : ls.fluent e.0.literal ≡ f = eqb-true _ _ (both_left _ _ (both_left _ _ e.2)) in
        let fg : ls.fluent g.0.literal ≡ f = eqb-true _ _ (both_left _ _ (both_left _ _ g.2)) in
        let ve : v ≡ ls.sets e.0.literal = eqb-true _ _ (both_right _ _ (both_left _ _ e.2)) in
        let vg = eqb-false v (ls.sets g.0.literal) (fails_true _ (both_right _ _ (both_left _ _ g.2))) in
        same_set e.0 g.0 e.1 g.1 (fg ∙ sym fe) (both_right _ _ e.2) (both_right _ _ g.2) (λ q. vg (ve ∙ q))
