-- Lines of sections 3 to 5: a law for each way that a reader returns. Assumes nothing.
use Prim.Native.Nat.{ℕ}
use mathlib.Core.Path.{◌≡◌, refl, sym, ◌∙◌, subst}
use mathlib.Core.List.{List}
use Rattle.meaning.specs.Limits.{format}
use Rattle.meaning.specs.declared.Form.{Form}
use Rattle.meaning.specs.declared.Form.TheVariants.{Flags, Valued}
use Rattle.meaning.specs.Reading.{Got, got, fault, next, below_at, literal_at, body_at, effect_at, executability_at, knowledge_at}
use Rattle.parsing.specs.Masks.{FewValues, Counted}
use Rattle.parsing.specs.Read.{Numbered, numbered, passed, action_before, effect_read, executability_read, knowledge_read}
use Rattle.parsing.proofs.ByteLaws.{read_value, stops}
use Rattle.parsing.proofs.ListLaws.{passed_to, passed_fault}

-- BY THE FORM.
pub counted_values : (form : Form) (s : List ℕ) → form ≡ Valued → Counted form s → FewValues s
unfolding Counted
counted_values form s is c = c is

abbrev is_valued : Form → Type 0
is_valued Flags = ⊥
is_valued Valued = Unit {0}

pub counted_flags : (s : List ℕ) → Counted Flags s
unfolding Counted
counted_flags s e = absurd (subst is_valued (sym e) tt)

-- A body that was passed over.
module _ (form : Form) (a n : ℕ) (s : List ℕ) (p : ℕ) where
  pub body_passed : (e : ℕ) → got tt e ≡ passed (body_at format form n s p) → got a e ≡ action_before a (body_at format form n s p)
  unfolding action_before next
  body_passed e is = let w = passed_to (body_at format form n s p) e (sym is) in rw w.1

  pub body_fault : {j e : ℕ} → fault j e ≡ passed (body_at format form n s p) → fault j e ≡ action_before a (body_at format form n s p)
  unfolding action_before next
  body_fault is = rw (passed_fault (body_at format form n s p) (sym is))

-- EFFECTS.
effect_body : (a l p : ℕ) (m : Got (List ℕ)) → effect_read (next m (λ b e. got (record { place = p; action = a; literal = l; body = b }) e)) ≡ action_before a m
unfolding effect_read action_before next
effect_body a l p (got b e) = refl
effect_body a l p (fault k q) = refl

module _ (form : Form) (n m : ℕ) (s : List ℕ) (p : ℕ) where
  pub effect_action_fault : {j e : ℕ} → fault j e ≡ below_at m s p → fault j e ≡ effect_read (effect_at format form n m s p)
  unfolding effect_at effect_read
  effect_action_fault e = stops (effect_at format form n m s p) _ (stops (below_at m s p) _ e)

  module _ (a q : ℕ) (read : got a q ≡ below_at m s p) where
    pub effect_literal_fault : {j e : ℕ} → fault j e ≡ literal_at form n s q → fault j e ≡ effect_read (effect_at format form n m s p)
    unfolding effect_at effect_read next
    effect_literal_fault e = rw (read_value (below_at m s p) read) (stops (next (literal_at form n s q) _) _ (stops (literal_at form n s q) _ e))

    pub effect_whole : (l r : ℕ) (line : Numbered) → got l r ≡ literal_at form n s q → numbered line ≡ action_before a (body_at format form n s r) → numbered line ≡ effect_read (effect_at format form n m s p)
    unfolding effect_at effect_read next
    effect_whole l r line e f = rw (read_value (below_at m s p) read, read_value (literal_at form n s q) e) (f ∙ sym (effect_body a l p (body_at format form n s r)))

-- EXECUTABILITY.
executability_body : (a p : ℕ) (m : Got (List ℕ)) → executability_read (next m (λ b e. got (record { place = p; action = a; body = b }) e)) ≡ action_before a m
unfolding executability_read action_before next
executability_body a p (got b e) = refl
executability_body a p (fault k q) = refl

module _ (form : Form) (n m : ℕ) (s : List ℕ) (p : ℕ) where
  pub executability_action_fault : {j e : ℕ} → fault j e ≡ below_at m s p → fault j e ≡ executability_read (executability_at format form n m s p)
  unfolding executability_at executability_read
  executability_action_fault e = stops (executability_at format form n m s p) _ (stops (below_at m s p) _ e)

  pub executability_whole : (a q : ℕ) (line : Numbered) → got a q ≡ below_at m s p → numbered line ≡ action_before a (body_at format form n s q) → numbered line ≡ executability_read (executability_at format form n m s p)
  unfolding executability_at executability_read next
  executability_whole a q line e f = rw (read_value (below_at m s p) e) (f ∙ sym (executability_body a p (body_at format form n s q)))

-- KNOWLEDGE.
module _ (n m : ℕ) (s : List ℕ) (p : ℕ) where
  pub knowledge_action_fault : {j e : ℕ} → fault j e ≡ below_at m s p → fault j e ≡ knowledge_read (knowledge_at format n m s p)
  unfolding knowledge_at knowledge_read
  knowledge_action_fault e = stops (knowledge_at format n m s p) _ (stops (below_at m s p) _ e)

  module _ (a q : ℕ) (read : got a q ≡ below_at m s p) where
    pub knowledge_fluent_fault : {j e : ℕ} → fault j e ≡ below_at n s q → fault j e ≡ knowledge_read (knowledge_at format n m s p)
    unfolding knowledge_at knowledge_read next
    knowledge_fluent_fault e = rw (read_value (below_at m s p) read) (stops (next (below_at n s q) _) _ (stops (below_at n s q) _ e))

    pub knowledge_whole : (f e : ℕ) → got f e ≡ below_at n s q → got a e ≡ knowledge_read (knowledge_at format n m s p)
    unfolding knowledge_at knowledge_read next
    knowledge_whole f e v = rw (read_value (below_at m s p) read, read_value (below_at n s q) v)
