-- Structures of literals that agree through a relation, in fluents, in the values that satisfy a literal, in what effects set and in the counts, say the same of requests that
-- are related: what is known, what an action does, and what excludes or contradicts what. Entry by entry of the lists. Assumes nothing.
use Prim.Native.Nat.{ℕ, ◌+◌, ◌<◌}
use native.Mathlib.Omega.{arith}
use native.Mathlib.Decide.{ℕ_discrete}
use mathlib.Core.Path.{◌≡◌, refl, sym, ◌∙◌, ap, ap₂, fun_ext}
use mathlib.Core.Bool.{Bool, true, false}
use mathlib.Core.List.{List, [], ◌∷◌, map}
use mathlib.Core.Logic.{inl, inr}
use lib.ListN.{length}
use lib.Dec.{eqb}
use borrow.Author.Tests.{ne_eqb}
use Rattle.meaning.specs.Tests.{both, either, fails, pick, some_of, each_of, those_of, Has}
use Rattle.meaning.specs.Limits
use Rattle.meaning.specs.Limits.{Limits}
use Rattle.meaning.specs.Requests.{EffectOver, TableOver}
use Rattle.meaning.specs.Lines.{effects_of, executability_of, knowledge_of, allowed, sensing, senses}
use Rattle.meaning.specs.States.{State, Outcome}
use Rattle.meaning.specs.Values.{Literals, numbers, first_such, values_of, set_by, fits, disagree, exclusive, clashing, runs_with, contradictory, all_exclusive}
use Rattle.meaning.specs.ValueStates.{is_known, told, mark_left, each_value, known_as, known, possible, known_whether, first_state, can_be_run, known_after, mark_after, state_after, unknown_sensed, readings, outcome, table_does}
use Rattle.demands.specs.Matching.{Pairwise, SameKnowledgeLine, SameEffectLine, SameRunLine, SameTable}
use Rattle.meaning.proofs.TestLaws.{clash, either_left, fails_false}
use Rattle.meaning.proofs.ValueLaws.{numbers_has}

-- TESTS that give the same on the entries of two lists.
module _ {A B : Type 0} (Same : A → B → Type 0) (p : A → Bool) (q : B → Bool) (same : (x : A) (y : B) → Same x y → p x ≡ q y) where
  pub some_same : (xs : List A) (ys : List B) → Pairwise Same xs ys → some_of p xs ≡ some_of q ys
  unfolding some_of
  some_same [] [] h = refl
  some_same [] (y ∷ ys) h = absurd h
  some_same (x ∷ xs) [] h = absurd h
  some_same (x ∷ xs) (y ∷ ys) h = ap₂ either (same x y h.0) (some_same xs ys h.1)

  pub each_same : (xs : List A) (ys : List B) → Pairwise Same xs ys → each_of p xs ≡ each_of q ys
  unfolding each_of
  each_same [] [] h = refl
  each_same [] (y ∷ ys) h = absurd h
  each_same (x ∷ xs) [] h = absurd h
  each_same (x ∷ xs) (y ∷ ys) h = ap₂ both (same x y h.0) (each_same xs ys h.1)

  those_same : (xs : List A) (ys : List B) → Pairwise Same xs ys → Pairwise Same (those_of p xs) (those_of q ys)
  unfolding those_of pick
  those_same [] [] h = tt
  those_same [] (y ∷ ys) h = absurd h
  those_same (x ∷ xs) [] h = absurd h
  those_same (x ∷ xs) (y ∷ ys) h = go (p x) (q y) (same x y h.0) (those_same xs ys h.1)
    where
      go : (a b : Bool) → a ≡ b → Pairwise Same (those_of p xs) (those_of q ys)
          → Pairwise Same (pick a (λ _. x ∷ those_of p xs) (λ _. those_of p xs)) (pick b (λ _. y ∷ those_of q ys) (λ _. those_of q ys))
      go true true e rest = (h.0, rest)
      go true false e rest = clash refl e
      go false true e rest = clash refl (sym e)
      go false false e rest = rest

-- And on the entries of one.
module _ {A : Type 0} (p q : A → Bool) where
  some_alike : (xs : List A) → ((x : A) → Has xs x → p x ≡ q x) → some_of p xs ≡ some_of q xs
  unfolding some_of
  some_alike [] same = refl
  some_alike (x ∷ xs) same = ap₂ either (same x (inl refl)) (some_alike xs (λ y h. same y (inr h)))

  those_alike : (xs : List A) → ((x : A) → Has xs x → p x ≡ q x) → those_of p xs ≡ those_of q xs
  unfolding those_of
  those_alike [] same = refl
  those_alike (x ∷ xs) same = rw (same x (inl refl), those_alike xs (λ y h. same y (inr h)))

module _ {L M : Type 0} (ls : Literals L) (ms : Literals M) (Same Sets : L → M → Type 0) where
  -- The structures agree.
  pub record Agreeing : Type 0 where
    pub counts : (f : ℕ) → ls.count f ≡ ms.count f
    pub fluents : (l : L) (m : M) → Same l m → ls.fluent l ≡ ms.fluent m
    pub says : (l : L) (m : M) → Same l m → (v : ℕ) → v < ls.count (ls.fluent l) → ls.satisfied l v ≡ ms.satisfied m v
    pub set_fluents : (l : L) (m : M) → Sets l m → ls.fluent l ≡ ms.fluent m
    pub sets : (l : L) (m : M) → Sets l m → ls.sets l ≡ ms.sets m

  module _ (agree : Agreeing) where
    values_same : (f : ℕ) → values_of ls f ≡ values_of ms f
    unfolding values_of
    values_same f = ap (numbers 0) (agree.counts f)

    below_count : (f v : ℕ) → Has (values_of ls f) v → v < ls.count f
    unfolding values_of
    below_count f v h = omega (arith, numbers_has 0 (ls.count f) v h)

    -- PARTIAL STATES.
    known_as_same : (s : State) (f : ℕ) (p q : ℕ → Bool) → ((v : ℕ) → v < ls.count f → p v ≡ q v) → known_as ls s f p ≡ known_as ms s f q
    unfolding known_as
    known_as_same s f p q same =
        some_alike _ _ (values_of ls f) (λ v h. ap (both (is_known s f v)) (same v (below_count f v h)))
        ∙ ap (some_of (λ (v : ℕ). both (is_known s f v) (q v))) (values_same f)

    pub known_same : (s : State) (l : L) (m : M) → Same l m → known ls s l ≡ known ms s m
    unfolding known
    known_same s l m h = known_as_same s (ls.fluent l) (ls.satisfied l) (ms.satisfied m) (agree.says l m h) ∙ ap (λ (f : ℕ). known_as ms s f (ms.satisfied m)) (agree.fluents l m h)

    possible_same : (s : State) (l : L) (m : M) → Same l m → possible ls s l ≡ possible ms s m
    unfolding possible
    possible_same s l m h =
        ap fails
        (known_as_same s (ls.fluent l) (λ v. fails (ls.satisfied l v)) (λ v. fails (ms.satisfied m v)) (λ v less. ap fails (agree.says l m h v less))
        ∙ ap (λ (f : ℕ). known_as ms s f (λ v. fails (ms.satisfied m v))) (agree.fluents l m h))

    pub known_whether_same : (s : State) (f : ℕ) → known_whether ls s f ≡ known_whether ms s f
    unfolding known_whether
    known_whether_same s f = known_as_same s f _ _ (λ v _. refl)

    -- What a list says of a fluent.
    fits_same : (b : List L) (c : List M) → Pairwise Same b c → (f v : ℕ) → v < ls.count f → fits ls b f v ≡ fits ms c f v
    unfolding fits
    fits_same b c h f v less = each_same Same _ _ one b c h
      where
        one : (l : L) (m : M) → Same l m → either (fails (eqb (ls.fluent l) f)) (ls.satisfied l v) ≡ either (fails (eqb (ms.fluent m) f)) (ms.satisfied m v)
        one l m same =
            let q = agree.fluents l m same in
            elim (ℕ_discrete (ls.fluent l) f) [
              | yes here ↦ ap₂ either (ap (λ (g : ℕ). fails (eqb g f)) q) (agree.says l m same v (rw here less))
              | no other ↦ either_left _ _ (fails_false _ (ne_eqb _ _ other)) ∙ sym (either_left _ _ (fails_false _ (ne_eqb _ _ (λ z. other (q ∙ z)))))
            ]

    pub first_state_same : (lim : Limits) (t : TableOver L) (u : TableOver M) → Pairwise Same t.facts u.facts → first_state ls lim t ≡ first_state ms lim u
    unfolding first_state
    first_state_same lim t u h =
        ap (λ (mark : ℕ → ℕ). map mark (numbers 0 lim.state))
        (fun_ext λ (f : ℕ).
        ap mark_left (those_alike _ _ (values_of ls f) (λ v m. fits_same t.facts u.facts h f v (below_count f v m)) ∙ ap (those_of (fits ms u.facts f)) (values_same f)))

    -- LINES.
    set_by_same : (p : L → Bool) (q : M → Bool) → ((l : L) (m : M) → Same l m → p l ≡ q m) → (value : ℕ → Bool) (es : List (EffectOver L)) (gs : List (EffectOver M))
        → Pairwise (SameEffectLine Same Sets) es gs → (f : ℕ) → set_by ls p value es f ≡ set_by ms q value gs f
    unfolding set_by
    set_by_same p q same value es gs h f =
        some_same (SameEffectLine Same Sets) _ _
        (λ e g k.
        ap₂ both (ap₂ both (ap (λ (i : ℕ). eqb i f) (agree.set_fluents e.literal g.literal k.literal)) (ap value (agree.sets e.literal g.literal k.literal)))
        (each_same Same p q same e.body g.body k.body))
        es gs h

    known_after_same : (s : State) (es : List (EffectOver L)) (gs : List (EffectOver M)) → Pairwise (SameEffectLine Same Sets) es gs → (f v : ℕ) → known_after ls es s f v ≡ known_after ms gs s f v
    unfolding known_after
    known_after_same s es gs h f v =
        ap₂ both
        (ap (either (is_known s f v)) (set_by_same (known ls s) (known ms s) (known_same s) (eqb v) es gs h f))
        (ap fails (set_by_same (possible ls s) (possible ms s) (possible_same s) (λ u. fails (eqb v u)) es gs h f))

    mark_after_same : (s : State) (es : List (EffectOver L)) (gs : List (EffectOver M)) → Pairwise (SameEffectLine Same Sets) es gs → (f : ℕ) → mark_after ls es s f ≡ mark_after ms gs s f
    unfolding mark_after
    mark_after_same s es gs h f =
        ap₂ (λ (test : ℕ → Bool) (vs : List ℕ). first_such test (λ v. v + 1) vs Limits.unknown_mark) (fun_ext (known_after_same s es gs h f)) (values_same f)

    readings_same : (fs : List ℕ) (s : State) → readings ls fs s ≡ readings ms fs s
    unfolding readings
    readings_same [] s = refl
    readings_same (f ∷ fs) s =
        ap₂ (λ (vs : List ℕ) (k : ℕ → Outcome State). each_value vs k s) (values_same f) (fun_ext (λ (v : ℕ). readings_same fs (told f v s)))

    -- OF AN ACTION, by the tables.
    module _ (t : TableOver L) (u : TableOver M) (same : SameTable Same Sets t u) where
      effects_same : (a : ℕ) → Pairwise (SameEffectLine Same Sets) (effects_of t a) (effects_of u a)
      unfolding effects_of
      effects_same a = those_same (SameEffectLine Same Sets) _ _ (λ e g k. ap (λ (i : ℕ). eqb i a) k.action) t.effects u.effects same.effects

      lines_same : (a : ℕ) → Pairwise (SameRunLine Same Sets) (executability_of t a) (executability_of u a)
      unfolding executability_of
      lines_same a = those_same (SameRunLine Same Sets) _ _ (λ x y k. ap (λ (i : ℕ). eqb i a) k.action) t.executability u.executability same.executability

      knowledge_same : (a : ℕ) → Pairwise SameKnowledgeLine (knowledge_of t a) (knowledge_of u a)
      unfolding knowledge_of
      knowledge_same a = those_same SameKnowledgeLine _ _ (λ k j h. ap (λ (i : ℕ). eqb i a) h.action) t.knowledge u.knowledge same.knowledge

      can_be_run_same : (a : ℕ) (s : State) → can_be_run ls t a s ≡ can_be_run ms u a s
      unfolding can_be_run allowed
      can_be_run_same a s =
          some_same (SameRunLine Same Sets) _ _ (λ x y k. each_same Same (known ls s) (known ms s) (known_same s) x.body y.body k.body) (executability_of t a) (executability_of u a) (lines_same a)

      state_after_same : (a : ℕ) (s : State) → state_after ls t a s ≡ state_after ms u a s
      unfolding state_after
      state_after_same a s = ap (λ (mark : ℕ → ℕ). map mark (numbers 0 (length s))) (fun_ext (mark_after_same s (effects_of t a) (effects_of u a) (effects_same a)))

      unknown_sensed_same : (a : ℕ) (s : State) → unknown_sensed ls t a s ≡ unknown_sensed ms u a s
      unfolding unknown_sensed senses
      unknown_sensed_same a s =
          ap (λ (test : ℕ → Bool). those_of test (numbers 0 (length s)))
          (fun_ext λ (f : ℕ).
          ap₂ both (some_same SameKnowledgeLine _ _ (λ k j h. ap (λ (i : ℕ). eqb i f) h.fluent) (knowledge_of t a) (knowledge_of u a) (knowledge_same a)) (ap fails (known_whether_same s f)))

      sensing_same : (a : ℕ) → sensing t a ≡ sensing u a
      unfolding sensing
      sensing_same a = some_same SameKnowledgeLine _ _ (λ k j h. refl) (knowledge_of t a) (knowledge_of u a) (knowledge_same a)

      outcome_same : (a : ℕ) (s : State) → outcome ls t a s ≡ outcome ms u a s
      unfolding outcome
      outcome_same a s = rw (sensing_same a, unknown_sensed_same a s, readings_same (unknown_sensed ms u a s) s, state_after_same a s)

      pub table_does_same : (a : ℕ) (s : State) → table_does ls t a s ≡ table_does ms u a s
      unfolding table_does
      table_does_same a s = rw (can_be_run_same a s, outcome_same a s)

    -- REFUSALS.
    disagree_same : (b c : List L) (d e : List M) → Pairwise Same b d → Pairwise Same c e → (f : ℕ) → disagree ls b c f ≡ disagree ms d e f
    unfolding disagree
    disagree_same b c d e h k f =
        ap fails
        (some_alike _ _ (values_of ls f) (λ v m. ap₂ both (fits_same b d h f v (below_count f v m)) (fits_same c e k f v (below_count f v m)))
        ∙ ap (some_of (λ (v : ℕ). both (fits ms d f v) (fits ms e f v))) (values_same f))

    exclusive_same : (b c : List L) (d e : List M) → Pairwise Same b d → Pairwise Same c e → exclusive ls b c ≡ exclusive ms d e
    unfolding exclusive
    exclusive_same b c d e h k =
        some_same Same _ _
        (λ l m same.
        let q = agree.fluents l m same in
        ap₂ both
        (some_same Same _ _ (λ i j one. ap₂ eqb (agree.fluents i j one) q) c e k)
        (disagree_same b c d e h k (ls.fluent l) ∙ ap (disagree ms d e) q))
        b d h

    pub all_exclusive_same : (bs : List (List L)) (cs : List (List M)) → Pairwise (Pairwise Same) bs cs → all_exclusive ls bs ≡ all_exclusive ms cs
    unfolding all_exclusive
    all_exclusive_same [] [] h = refl
    all_exclusive_same [] (c ∷ cs) h = absurd h
    all_exclusive_same (b ∷ bs) [] h = absurd h
    all_exclusive_same (b ∷ bs) (c ∷ cs) h =
        ap₂ both (each_same (Pairwise Same) (exclusive ls b) (exclusive ms c) (λ i j k. exclusive_same b i c j h.0 k) bs cs h.1) (all_exclusive_same bs cs h.1)

    module _ (t : TableOver L) (u : TableOver M) (same : SameTable Same Sets t u) where
      pub contradictory_same : (e g : EffectOver L) (i j : EffectOver M) → SameEffectLine Same Sets e i → SameEffectLine Same Sets g j → contradictory ls t e g ≡ contradictory ms u i j
      unfolding contradictory clashing runs_with
      contradictory_same e g i j h k =
          ap₂ both
          (ap₂ both (ap₂ eqb h.action k.action)
          (ap₂ both
          (ap₂ both (ap₂ eqb (agree.set_fluents g.literal j.literal k.literal) (agree.set_fluents e.literal i.literal h.literal))
          (ap fails (ap₂ eqb (agree.sets e.literal i.literal h.literal) (agree.sets g.literal j.literal k.literal))))
          (ap fails (exclusive_same e.body g.body i.body j.body h.body k.body))))
          (some_same (SameRunLine Same Sets) _ _
          (λ x y one. ap₂ both (ap fails (exclusive_same e.body x.body i.body y.body h.body one.body)) (ap fails (exclusive_same g.body x.body j.body y.body k.body one.body)))
          (executability_of t e.action) (executability_of u e.action) (lines_same t u same e.action)
          ∙ ap (λ (a : ℕ). runs_with ms u a i.body j.body) h.action)
