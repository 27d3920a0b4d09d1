-- Every values request that was read, and in which each fluent has two values, has a match: that with each literal as the literal that it is (FORMAT 26.27). So `Matches` leaves none of
-- them out. A literal that was read has one of four second bytes, and one of two in an effect. Assumes nothing.
use Prim.Native.Nat.{ℕ, zero, suc, ◌+◌, ◌*◌, ◌/◌, ◌%◌, ◌<◌}
use native.Mathlib.Omega.{arith}
use native.Mathlib.Decide.{ℕ_discrete}
use mathlib.Core.Path.{◌≡◌, refl, sym, ◌∙◌, ap, subst}
use mathlib.Core.Bool.{true}
use mathlib.Core.List.{List, [], ◌∷◌, map}
use mathlib.Core.Logic.{◌⊎◌, inl, inr, ⊎_elim}
use borrow.Author.Tests.{eqb-true, eq-eqb, ne_eqb}
use Rattle.meaning.specs.declared.Form.TheVariants.{Valued}
use Rattle.meaning.specs.Tests.{either, Has}
use Rattle.meaning.specs.Limits.{Limits}
use Rattle.meaning.specs.Literals.{says_true, says_false, positive}
use Rattle.meaning.specs.Requests.{Effect, Executability, Knowledge, Table, Entry, values, Request}
use Rattle.meaning.specs.Reading.{got, count_at, below_at, fluents, list_at, values_in, value_at, value_entry_at, value_entries_at, value_list_at, set_value_at, value_counts_at, section_at, body_at, effect_at, executability_at, knowledge_at, plan_at, table_at, placed_twos, request_at, read_request}
use Rattle.demands.specs.Matching.{SameLiteral, SameSetting, Pairwise, SameKnowledgeLine, SameEffectLine, SameRunLine, SameTable, SameItems, SameItem, SameBranches, Matches, plain_literal, plain_effect, plain_line, plain_items, plain_item, plain_branches, plain_goal, plain_request}
use Rattle.meaning.proofs.TestLaws.{either_left, either_right, pick_true, pick_false, pick-cases}
use Rattle.meaning.proofs.SettledLaws.{fault≢got, got_same}
use Rattle.meaning.proofs.RangeLaws.{not_refused, after_got, below_bound, section_read}
use Rattle.meaning.proofs.PlanReads.{Said, PassedAs, plan_on_as}

-- LITERALS, by their fluent and second byte.
module _ (f b : ℕ) (small : b < 4) where
  fluent_there : (f * 256 + b) / 256 ≡ f
  fluent_there = omega (arith, small)

  says_yes : (b ≡ 0) ⊎ (b ≡ 3) → plain_literal (f * 256 + b) ≡ says_true f
  unfolding plain_literal
  says_yes is =
      pick_true _ _ _
      (⊎_elim (λ q. either_left _ _ (eq-eqb ((f * 256 + b) % 256) 0 (omega (arith, small, q)))) (λ q. either_right _ _ (eq-eqb ((f * 256 + b) % 256) 3 (omega (arith, small, q)))) is)
      ∙ ap says_true fluent_there

  says_no : (b ≡ 1) ⊎ (b ≡ 2) → plain_literal (f * 256 + b) ≡ says_false f
  unfolding plain_literal either
  says_no is =
      let not_0 : (f * 256 + b) % 256 ≡ 0 → ⊥ = λ q. ⊎_elim (λ r. omega (arith, small, q, r)) (λ r. omega (arith, small, q, r)) is in
      let not_3 : (f * 256 + b) % 256 ≡ 3 → ⊥ = λ q. ⊎_elim (λ r. omega (arith, small, q, r)) (λ r. omega (arith, small, q, r)) is in
      pick_false _ _ _ (rw (ne_eqb ((f * 256 + b) % 256) 0 not_0) (ne_eqb ((f * 256 + b) % 256) 3 not_3))
      ∙ ap says_false fluent_there

  abbrev at_byte : (c : ℕ) → b ≡ c → f * 256 + b ≡ f * 256 + c
  at_byte c q = ap (λ (n : ℕ). f * 256 + n) q

  second_matched : SameLiteral (f * 256 + b) (plain_literal (f * 256 + b))
  second_matched =
      elim (ℕ_discrete b 0) [
        | yes q ↦ (f, inl (says_yes (inl q), inl (at_byte 0 q)))
        | no not_0 ↦ elim (ℕ_discrete b 1) [
          | yes q ↦ (f, inr (says_no (inl q), inr (at_byte 1 q)))
          | no not_1 ↦ elim (ℕ_discrete b 2) [
            | yes q ↦ (f, inr (says_no (inr q), inl (at_byte 2 q)))
            | no not_2 ↦ let q : b ≡ 3 = omega (arith, small, not_0, not_1, not_2) in (f, inl (says_yes (inr q), inr (at_byte 3 q)))
          ]
        ]
      ]

  set_matched : positive (f * 256 + b) ≡ true → SameSetting (f * 256 + b) (plain_literal (f * 256 + b))
  unfolding positive
  set_matched even =
      let is_even : (f * 256 + b) % 2 ≡ 0 = eqb-true _ _ even in
      elim (ℕ_discrete b 0) [
        | yes q ↦ (f, inl (says_yes (inl q), at_byte 0 q))
        | no not_0 ↦ let q : b ≡ 2 = omega (arith, small, not_0, is_even) in (f, inr (says_no (inr q), at_byte 2 q))
      ]

-- LISTS. What is so of each entry and what it is made, is so of the list.
pairwise_map : {A B : Type 0} (R : A → B → Type 0) (g : A → B) (xs : List A) → ((x : A) → Has xs x → R x (g x)) → Pairwise R xs (map g xs)
pairwise_map R g [] each = tt
pairwise_map R g (x ∷ xs) each = (each x (inl refl), pairwise_map R g xs (λ y h. each y (inr h)))

pairwise_goals : (es : List Entry) → ((l : ℕ) → Has (values es) l → SameLiteral l (plain_literal l)) → Pairwise SameLiteral (values es) (values (map plain_goal es))
unfolding values
pairwise_goals [] each = tt
pairwise_goals (e ∷ es) each = (each e.value (inl refl), pairwise_goals es (λ l h. each l (inr h)))

values_placed : (p : ℕ) (xs : List ℕ) → values (placed_twos p xs) ≡ xs
unfolding values placed_twos
values_placed p [] = refl
values_placed p (x ∷ xs) = ap {B = List ℕ} (λ ys. x ∷ ys) (values_placed (p + 2) xs)

same_lines : (ks : List Knowledge) → Pairwise SameKnowledgeLine ks ks
same_lines [] = tt
same_lines (k ∷ ks) = (record { action = refl; fluent = refl }, same_lines ks)

-- READING, where each fluent has two values.
module _ (s : List ℕ) (two : (f : ℕ) → values_in s f ≡ 2) where
  value_read : (n p l q : ℕ) → value_at n s p ≡ got l q → (f b : ℕ) × (l ≡ f * 256 + b) × (b < 4)
  unfolding value_at
  value_read n p l q e =
      after_got (below_at n s p) _ e λ f i _ e'.
      after_got (below_at (2 * values_in s f) s i) _ e' λ b j eb same.
      (f, b, sym (got_same same), (let less = below_bound (2 * values_in s f) s i b j eb in omega (arith, less, two f)))

  value_matched : (n p l q : ℕ) → value_at n s p ≡ got l q → SameLiteral l (plain_literal l)
  value_matched n p l q e = let r = value_read n p l q e in subst (λ (k : ℕ). SameLiteral k (plain_literal k)) (sym r.2) (second_matched r.0 r.1 r.3)

  set_value_matched : (n p l q : ℕ) → set_value_at n s p ≡ got l q → SameSetting l (plain_literal l)
  unfolding set_value_at
  set_value_matched n p l q e =
      after_got (value_at n s p) _ e λ k i ek e'.
      pick-cases _ _ _ e'
      (λ even same.
      let r = value_read n p k i ek in
      subst (λ (j : ℕ). SameSetting j (plain_literal j)) (sym r.2 ∙ got_same same) (set_matched r.0 r.1 r.3 (subst (λ (j : ℕ). positive j ≡ true) r.2 even)))
      (λ _ bad. absurd (fault≢got bad))

  entries_matched : (n left p : ℕ) (before xs : List ℕ) (q : ℕ) → value_entries_at n s left p before ≡ got xs q → (l : ℕ) → Has xs l → SameLiteral l (plain_literal l)
  unfolding value_entries_at value_entry_at
  entries_matched n zero p before xs q e l h = absurd (subst (λ (ys : List ℕ). Has ys l) (sym (got_same e)) h)
  entries_matched n (suc left) p before xs q e l h =
      after_got (value_entry_at n s p before) _ e λ x i ex e'.
      after_got (value_entries_at n s left i (x ∷ before)) _ e' λ ys j eys e''.
      after_got (value_at n s p) _ ex λ k m ek ex'.
      pick-cases _ _ _ (not_refused _ _ _ _ ex').1
      (λ _ same.
      ⊎_elim (λ here. subst (λ (z : ℕ). SameLiteral z (plain_literal z)) (got_same same ∙ sym here) (value_matched n p k m ek)) (entries_matched n left i (x ∷ before) ys j eys l)
      (subst (λ (zs : List ℕ). Has zs l) (sym (got_same e'')) h))
      (λ _ bad. absurd (fault≢got bad))

  list_matched : (n most p : ℕ) (xs : List ℕ) (q : ℕ) → value_list_at n most s p ≡ got xs q → (l : ℕ) → Has xs l → SameLiteral l (plain_literal l)
  unfolding value_list_at
  list_matched n most p xs q e = after_got (count_at 0 most s p) _ e λ c i _ entries. entries_matched n c i [] xs q entries

  module _ (lim : Limits) (n m : ℕ) where
    body_matched : (p : ℕ) (xs : List ℕ) (q : ℕ) → body_at lim Valued n s p ≡ got xs q → Pairwise SameLiteral xs (map plain_literal xs)
    unfolding body_at
    body_matched p xs q e = pairwise_map SameLiteral plain_literal xs (list_matched n lim.body p xs q e)

    effect_matched : (p : ℕ) (x : Effect) (q : ℕ) → effect_at lim Valued n m s p ≡ got x q → SameEffectLine SameLiteral SameSetting x (plain_effect x)
    unfolding effect_at
    effect_matched p x q e =
        after_got (below_at m s p) _ e λ a i _ e'.
        after_got (set_value_at n s i) _ e' λ l j el e''.
        after_got (body_at lim Valued n s j) _ e'' λ b k eb same.
        subst (λ (y : Effect). SameEffectLine SameLiteral SameSetting y (plain_effect y)) (got_same same)
        (record { action = refl; literal = set_value_matched n i l j el; body = body_matched j b k eb })

    line_matched : (p : ℕ) (x : Executability) (q : ℕ) → executability_at lim Valued n m s p ≡ got x q → SameRunLine SameLiteral SameSetting x (plain_line x)
    unfolding executability_at
    line_matched p x q e =
        after_got (below_at m s p) _ e λ a i _ e'.
        after_got (body_at lim Valued n s i) _ e' λ b k eb same.
        subst (λ (y : Executability). SameRunLine SameLiteral SameSetting y (plain_line y)) (got_same same) (record { action = refl; body = body_matched i b k eb })

    -- The plan.
    abbrev plan_said : Said
    plan_said = record {
      item = λ deep p met x e. SameItem SameLiteral SameSetting x.value (plain_item x.value);
      items = λ deep left p met x e. SameItems SameLiteral SameSetting x.value (plain_items x.value);
      sequence = λ deep p met x e. SameItems SameLiteral SameSetting x.value (plain_items x.value);
      branches = λ deep left p met x e. SameBranches SameLiteral SameSetting x.value (plain_branches x.value);
    }

    plan_passed : PassedAs lim Valued n m s plan_said
    plan_passed = record {
      an_action = λ deep p met x q _ _ _ _. refl;
      a_branching = λ deep p met x q c r bs e _ _ _ _ all. all;
      no_item = λ deep p met. tt;
      an_item = λ deep left p met i q rest e one more. (one, more);
      a_sequence = λ deep p met c q b e _ all. all;
      no_branch = λ deep p met. tt;
      a_branch = λ deep left p met c q b r rest e read _ one more. (body_matched p c q read, one, more);
    }

  table_matched : (lim : Limits) (p : ℕ) (t : Table) (q : ℕ) → table_at lim Valued s p ≡ got t q
      → SameTable SameLiteral SameSetting t (record {
        fluents = t.fluents;
        actions = t.actions;
        facts = map plain_literal t.facts;
        effects = map plain_effect t.effects;
        executability = map plain_line t.executability;
        knowledge = t.knowledge;
      })
  unfolding table_at
  table_matched lim p t q e =
      after_got (count_at 1 lim.fluents s p) _ e λ n q₁ _ f₁.
      after_got (value_counts_at n s q₁) _ f₁ λ cs q₂ _ f₂.
      after_got (count_at 1 lim.actions s q₂) _ f₂ λ m q₃ _ f₃.
      after_got (value_list_at n lim.listed s q₃) _ f₃ λ facts q₄ ef f₄.
      after_got (section_at (effect_at lim Valued n m s) s q₄) _ f₄ λ effects q₅ ee f₅.
      after_got (section_at (executability_at lim Valued n m s) s q₅) _ f₅ λ executability q₆ ex f₆.
      after_got (section_at (knowledge_at lim n m s) s q₆) _ f₆ λ knowledge q₇ _ same.
      subst (λ (u : Table). SameTable SameLiteral SameSetting u (record {
        fluents = u.fluents;
        actions = u.actions;
        facts = map plain_literal u.facts;
        effects = map plain_effect u.effects;
        executability = map plain_line u.executability;
        knowledge = u.knowledge;
      })) (got_same same)
      (record {
        fluents = refl;
        actions = refl;
        facts = pairwise_map SameLiteral plain_literal facts (list_matched n lim.listed q₃ facts q₄ ef);
        effects = pairwise_map (SameEffectLine SameLiteral SameSetting) plain_effect effects (λ g h. let w = section_read (effect_at lim Valued n m s) s q₄ effects q₅ ee g h in effect_matched lim n m w.0 g w.1 w.2);
        executability = pairwise_map (SameRunLine SameLiteral SameSetting) plain_line executability (λ x h. let w = section_read (executability_at lim Valued n m s) s q₅ executability q₆ ex x h in line_matched lim n m w.0 x w.1 w.2);
        knowledge = same_lines knowledge;
      })

  -- A request that was read has this match.
  pub match_there : (lim : Limits) (x : Request) (e : ℕ) → read_request lim Valued s ≡ got x e → Matches x (plain_request x)
  unfolding read_request request_at
  match_there lim x e reads =
      after_got (table_at lim Valued s 0) _ (not_refused _ _ _ _ reads).1 λ t p₁ et e₁.
      after_got (request_at lim Valued s t p₁) _ e₁ λ r p₂ er e₂.
      after_got (plan_at lim Valued t.fluents t.actions s p₁) _ er λ plan p₃ ep e₃.
      after_got (value_list_at t.fluents lim.listed s p₃) _ e₃ λ goals p₄ eg e₄.
      after_got (list_at fluents t.fluents lim.listed s p₄) _ e₄ λ whether p₅ _ same.
      subst (λ (z : Request). Matches z (plain_request z)) (got_same same ∙ got_same (not_refused _ _ _ _ e₂).1)
      (record {
        table = table_matched lim 0 t p₁ et;
        plan = (plan_on_as lim Valued t.fluents t.actions s (plan_said lim t.fluents t.actions) (plan_passed lim t.fluents t.actions) p₁).holds plan p₃ ep;
        goals = pairwise_goals (placed_twos (p₃ + 1) goals) (λ l h. list_matched t.fluents lim.listed p₃ goals p₄ eg l (subst (λ (ys : List ℕ). Has ys l) (values_placed (p₃ + 1) goals) h));
        whether = refl;
      })
