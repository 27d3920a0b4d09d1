-- 16 as it is against 16 as it was: a request is settled as before, or was refused by 16 before, and no later than it is refused by 16 now. For what
-- is contradictory clashes, and the effects of a table that was read stand in rising places. Assumes nothing.
use Prim.Native.Nat.{ℕ, zero, suc, ◌+◌, ◌*◌, ◌≤◌, ◌<◌}
use native.Mathlib.Omega.{arith}
use mathlib.Core.Path.{◌≡◌, refl, sym, ◌∙◌, ap, subst}
use mathlib.Core.Bool.{Bool, true, false}
use mathlib.Core.List.{List, [], ◌∷◌}
use mathlib.Core.Logic.{◌⊎◌, inl, inr, ⊎_elim}
use Rattle.meaning.specs.Tests.{some_of}
use Rattle.meaning.specs.Limits
use Rattle.meaning.specs.Limits.{Limits}
use Rattle.meaning.specs.Requests.{Effect, Table, Request}
use Rattle.meaning.specs.declared.Form.TheVariants.{Flags}
use Rattle.meaning.specs.Reading.{Got, got, fault, next, literals, fluents, byte_at, count_at, below_at, list_at, repeated, section_at, body_at, effect_at, executability_at, knowledge_at, plan_at, table_at, request_at, read_request}
use Rattle.meaning.specs.Refusals.{Found, nowhere, at, clashing, contradictory, first_against, contradiction_in, mixed_in, overlap_in, refuse, settled}
use Rattle.demands.specs.Formerly.{clash_in, settled_formerly, RefusedFormerly}
use Rattle.meaning.proofs.TestLaws.{by-test, clash, both_left, pick_true, pick_false, pick-cases, some_mono}
use Rattle.meaning.proofs.RefusalLaws.{at_same, at≢nowhere}
use Rattle.meaning.proofs.SettledLaws.{fault≢got, got_same}
use Rattle.meaning.proofs.RangeLaws.{not_refused, after_got}
use Rattle.meaning.proofs.GotLaws.{On, got_on, refuse_on, next_on, held_on}
use Rattle.meaning.proofs.PlaceLaws.{byte_held, list_held}

-- RISING PLACES, from a place on.
abbrev Rising : ℕ → List Effect → Type 0
Rising low [] = Unit {0}
Rising low (e ∷ es) = (low ≤ e.place) × Rising e.place es

rising_from : (low lower : ℕ) (es : List Effect) → lower ≤ low → Rising low es → Rising lower es
rising_from low lower [] h r = tt
rising_from low lower (e ∷ es) h r = let least = r.0 in (omega arith, r.1)

module _ (lim : Limits) (n m : ℕ) (s : List ℕ) where
  byte_on : (p : ℕ) → On (byte_at s p) (λ x q. q ≡ p + 1)
  byte_on p = record { holds = λ x q e. ((held_on _ _ (byte_at s p) (byte_held s (λ _ _. Unit {0}) tt (λ _ _ _ _. tt) p)).holds x q e).1 }

  below_on : (bound p : ℕ) → On (below_at bound s p) (λ x q. q ≡ p + 1)
  unfolding below_at
  below_on bound p = next_on (byte_at s p) _ (byte_on p) (λ x q is. refuse_on _ _ _ _ (λ _. got_on x q is))

  body_on : (p : ℕ) → On (body_at lim Flags n s p) (λ b q. p < q)
  unfolding body_at
  body_on p =
      record { holds = λ b q e. let long = ((held_on _ _ (list_at literals n lim.body s p) (list_held s (λ _ _. Unit {0}) tt (λ _ _ _ _. tt) literals n lim.body p)).holds b q e).1 in omega arith }

  effect_on : (p : ℕ) → On (effect_at lim Flags n m s p) (λ e q. (e.place ≡ p) × (p < q))
  unfolding effect_at
  effect_on p =
      next_on (below_at m s p) _ (below_on m p) λ a q is.
      next_on (below_at (2 * n) s q) _ (below_on (2 * n) q) λ l r is₂.
      next_on (body_at lim Flags n s r) _ (body_on r) λ b e far.
      got_on _ e (refl, omega arith)

  effects_on : (left p : ℕ) → On (repeated (effect_at lim Flags n m s) left p) (λ es q. Rising p es)
  unfolding repeated
  effects_on zero p = got_on _ p tt
  effects_on (suc left) p =
      next_on (effect_at lim Flags n m s p) _ (effect_on p) λ e q is.
      next_on (repeated (effect_at lim Flags n m s) left q) _ (effects_on left q) λ es r rest.
      let near = is.0 in
      let far = is.1 in
      got_on _ r (omega arith, rising_from q e.place es (omega arith) rest)

-- The effects of a table and of a request that were read.
table_rising : (lim : Limits) (s : List ℕ) (p : ℕ) (t : Table) (q : ℕ) → table_at lim Flags s p ≡ got t q → Rising 0 t.effects
unfolding table_at section_at
table_rising lim s p t q e =
    after_got (count_at 1 lim.fluents s p) _ e λ n p₁ _ e₁.
    after_got (count_at 1 lim.actions s p₁) _ e₁ λ m p₂ _ e₂.
    after_got (list_at literals n lim.listed s p₂) _ e₂ λ facts p₃ _ e₃.
    after_got (section_at (effect_at lim Flags n m s) s p₃) _ e₃ λ effects p₄ ee e₄.
    after_got (section_at (executability_at lim Flags n m s) s p₄) _ e₄ λ executability p₅ _ e₅.
    after_got (section_at (knowledge_at lim n m s) s p₅) _ e₅ λ knowledge p₆ _ same.
    subst (λ (x : Table). Rising 0 x.effects) (got_same same)
    (after_got (byte_at s p₃) _ ee λ c i _ lines. rising_from i 0 effects (omega arith) ((effects_on lim n m s c i).holds effects p₄ lines))

read_rising : (lim : Limits) (b : List ℕ) (r : Request) (e : ℕ) → read_request lim Flags b ≡ got r e → Rising 0 r.table.effects
unfolding read_request request_at
read_rising lim b r e reads =
    after_got (table_at lim Flags b 0) _ (not_refused _ _ _ _ reads).1 λ t p₁ et e₁.
    after_got (request_at lim Flags b t p₁) _ e₁ λ q p₂ eq e₂.
    after_got (plan_at lim Flags t.fluents t.actions b p₁) _ eq λ plan p₃ _ e₃.
    after_got (list_at literals t.fluents lim.listed b p₃) _ e₃ λ goals p₄ _ e₄.
    after_got (list_at fluents t.fluents lim.listed b p₄) _ e₄ λ whether p₅ _ same.
    subst (λ (x : Request). Rising 0 x.table.effects) (got_same same ∙ got_same (not_refused _ _ _ _ e₂).1) (table_rising lim b 0 t p₁ et)

-- A NARROWER TEST of two effects finds something where the wider one does, and not before it.
module _ (narrow wide : Effect → Effect → Bool) (within : (e g : Effect) → narrow e g ≡ true → wide e g ≡ true) where
  found_from : (low : ℕ) (before es : List Effect) → Rising low es → (p : ℕ) → first_against narrow before es ≡ at p → low ≤ p
  unfolding first_against
  found_from low before [] rising p q = absurd (at≢nowhere (sym q))
  found_from low before (e ∷ es) rising p q =
      pick-cases _ _ _ q
      (λ _ is. let same = at_same is in let least = rising.0 in omega arith)
      (λ _ later. let least = rising.0 in let more = found_from e.place (e ∷ before) es rising.1 p later in omega arith)

  some_within : (e : Effect) (before : List Effect) → some_of (wide e) before ≡ false → some_of (narrow e) before ≡ false
  some_within e before none = by-test _ (λ t. clash (some_mono (narrow e) (wide e) (within e) before t) none) (λ f. f)

  not_before : (low : ℕ) (before es : List Effect) → Rising low es → (p : ℕ) → first_against narrow before es ≡ at p
      → (q : ℕ) × (first_against wide before es ≡ at q) × (q ≤ p)
  unfolding first_against
  not_before low before [] rising p is = absurd (at≢nowhere (sym is))
  not_before low before (e ∷ es) rising p is =
      by-test (some_of (wide e) before)
      (λ t. (e.place, pick_true _ _ _ t, found_from e.place before (e ∷ es) (omega arith, rising.1) p is))
      (λ none.
      let w = not_before e.place (e ∷ before) es rising.1 p (sym (pick_false _ _ _ (some_within e before none)) ∙ is) in
      (w.0, pick_false _ _ _ none ∙ w.1, w.2))

  none_too : (before es : List Effect) → first_against wide before es ≡ nowhere → first_against narrow before es ≡ nowhere
  unfolding first_against
  none_too before [] is = refl
  none_too before (e ∷ es) is =
      pick-cases _ _ _ is (λ _ r. absurd (at≢nowhere r)) (λ none later. pick_false _ _ _ (some_within e before none) ∙ none_too (e ∷ before) es later)

-- THE TWO PASSES.
contradictory_clashes : (t : Table) (e g : Effect) → contradictory t e g ≡ true → clashing e g ≡ true
unfolding contradictory
contradictory_clashes t e g = both_left _ _

passes : (t : Table) → clash_in t ≡ nowhere → contradiction_in t ≡ nowhere
unfolding clash_in contradiction_in
passes t = none_too (contradictory t) clashing (contradictory_clashes t) [] t.effects

refuses : (t : Table) → Rising 0 t.effects → (q p : ℕ) → clash_in t ≡ at q → contradiction_in t ≡ at p → q ≤ p
unfolding clash_in contradiction_in
refuses t rising q p was is =
    let w = not_before (contradictory t) clashing (contradictory_clashes t) 0 [] t.effects rising p is in
    let same = at_same (sym was ∙ w.1) in
    let least = w.2 in
    omega arith

module _ {A : Type 0} where
  fault_numbers : {n k p q : ℕ} → ◌≡◌ {A = Got A} (fault n p) (fault k q) → n ≡ k
  fault_numbers {n} e = ap number e
    where
      number : Got A → ℕ
      number (got x p) = n
      number (fault k q) = k

  fault_places : {n k p q : ℕ} → ◌≡◌ {A = Got A} (fault n p) (fault k q) → p ≡ q
  fault_places {p = p} e = ap place e
    where
      place : Got A → ℕ
      place (got x q) = p
      place (fault k q) = q

  -- What is refused by another number.
  refused_by : (n k : ℕ) (f : Found) (rest : Unit {0} → Got A) (p : ℕ) → refuse n f rest ≡ fault k p → (f ≡ at p) ⊎ (rest tt ≡ fault k p)
  unfolding refuse
  refused_by n k nowhere rest p e = inr e
  refused_by n k (at q) rest p e = inl (ap at (fault_places e))

  by_another : (n k : ℕ) → (n ≡ k → ⊥) → (f : Found) (rest : Unit {0} → Got A) (p : ℕ) → (rest tt ≡ fault k p → ⊥) → refuse n f rest ≡ fault k p → ⊥
  unfolding refuse
  by_another n k other nowhere rest p no-rest e = no-rest e
  by_another n k other (at q) rest p no-rest e = other (fault_numbers e)

-- Past 16 there is no 16.
module _ (r : Request) (e : ℕ) where
  abbrev past_16_and_17 : Got Request
  past_16_and_17 = refuse Limits.not_exclusive (overlap_in r.plan) (λ _. got r e)

  abbrev past_16 : Got Request
  past_16 = refuse Limits.effect_and_knowledge (mixed_in r.table.effects r.table.knowledge) (λ _. past_16_and_17)

  no_16_later : (p : ℕ) → past_16 ≡ fault Limits.contradictory_effects p → ⊥
  no_16_later p =
      by_another Limits.effect_and_knowledge Limits.contradictory_effects (λ z. omega arith) (mixed_in r.table.effects r.table.knowledge) (λ _. past_16_and_17) p
      (by_another Limits.not_exclusive Limits.contradictory_effects (λ z. omega arith) (overlap_in r.plan) (λ _. got r e) p (λ z. fault≢got (sym z)))

-- WHAT 16 REFUSES NOW IT REFUSED BEFORE: a request is settled as it was, or it was refused by 16, and no later than it is now.
pub settled_narrowed : (lim : Limits) (s : List ℕ) → (settled_formerly lim s ≡ settled lim s) ⊎ RefusedFormerly lim s
unfolding settled settled_formerly next refuse
settled_narrowed lim s = by_reading (read_request lim Flags s) refl
  where
    by_reading : (x : Got Request) → read_request lim Flags s ≡ x → (settled_formerly lim s ≡ settled lim s) ⊎ RefusedFormerly lim s
    by_reading (fault n p) reads = inl (rw reads)
    by_reading (got r e) reads = by_pass (clash_in r.table) refl
      where
        by_pass : (f : Found) → clash_in r.table ≡ f → (settled_formerly lim s ≡ settled lim s) ⊎ RefusedFormerly lim s
        by_pass nowhere was = inl (rw (reads, was, passes r.table was))
        by_pass (at q) was = inr (record {
          place = q;
          formerly = rw (reads, was);
          not_later = λ p is.
              ⊎_elim (refuses r.table (read_rising lim s r e reads) q p was)
              (λ rest. absurd (no_16_later r e p rest))
              (refused_by Limits.contradictory_effects Limits.contradictory_effects (contradiction_in r.table) (λ _. past_16 r e) p (rw reads at is));
        })

-- A request that passed is settled as it was.
pub passes_still : (lim : Limits) (s : List ℕ) (r : Request) (e : ℕ) → settled_formerly lim s ≡ got r e → settled lim s ≡ got r e
passes_still lim s r e was = ⊎_elim (λ same. sym same ∙ was) (λ x. absurd (fault≢got (sym x.formerly ∙ was))) (settled_narrowed lim s)
