-- Refusals 16, 17 and 18: what passing 16 says of every two effects, and what each of the three says with its place left out.
-- Assumes nothing.
use Prim.Native.Nat.{ℕ}
use mathlib.Core.Path.{◌≡◌, refl, sym, ◌∙◌, ap, subst}
use mathlib.Core.Bool.{Bool, true, false}
use mathlib.Core.List.{List, [], ◌∷◌}
use mathlib.Core.Logic.{◌⊎◌, inl, inr, ⊎_elim}
use lib.Dec.{eqb}
use borrow.Author.Tests.{eqb-true, eq-eqb}
use Rattle.meaning.specs.Tests.{both, either, fails, pick, some_of, each_of, Has}
use Rattle.meaning.specs.Literals.{complement, among, exclusive}
use Rattle.meaning.specs.Requests.{Effect, Knowledge, Table, Sequence, done, item, Item, act, branching, Branches, none, branch, unplaced, unplaced_item, unplaced_branches}
use Rattle.meaning.specs.Lines.{executability_of, allowed}
use Rattle.meaning.specs.Refusals.{failing_in, Found, nowhere, at, or_else, clashing, runs_with, contradictory, first_against, contradiction_in, mixed_in, conditions_of, overlap_in, overlap_at, overlap_below}
use Rattle.meaning.proofs.TestLaws.{by-test, clash, same_test, both_left, both_right, both_true, fails_false, pick-cases, pick_map, some_has, has_some, each_has, each_mono, some_mono}
use Rattle.meaning.proofs.LiteralLaws.{complement_twice, complement_other}

-- EXCLUSIVE and CONTRADICTORY go both ways.
exclusive_turns : (b c : List ℕ) → exclusive b c ≡ true → exclusive c b ≡ true
unfolding exclusive among
exclusive_turns b c e =
    let t = some_has _ b e in
    let u = some_has _ c t.2 in
    let q : complement t.0 ≡ u.0 = eqb-true _ _ u.2 in
    has_some _ c u.0 u.1 (has_some _ b t.0 t.1 (eq-eqb _ _ (ap complement (sym q) ∙ complement_twice t.0)))

pub exclusive_sym : (b c : List ℕ) → exclusive b c ≡ exclusive c b
exclusive_sym b c = same_test _ _ (exclusive_turns b c) (exclusive_turns c b)

-- Bodies that exclude each other don't pass two tests of which no literal passes the one where its complement passes the other.
pub exclusive_clash : (p q : ℕ → Bool) → ((l : ℕ) → p l ≡ true → q (complement l) ≡ true → ⊥) → (b c : List ℕ) → exclusive b c ≡ true → each_of p b ≡ true → each_of q c ≡ true → ⊥
unfolding exclusive among
exclusive_clash p q apart b c e hb hc =
    let t = some_has _ b e in
    let u = some_has _ c t.2 in
    apart t.0 (each_has _ b t.0 hb t.1) (rw (eqb-true (complement t.0) u.0 u.2) (each_has _ c u.0 hc u.1))

clashing_turns : (e g : Effect) → clashing e g ≡ true → clashing g e ≡ true
unfolding clashing
clashing_turns e g h =
    let a : e.action ≡ g.action = eqb-true _ _ (both_left _ _ h) in
    let l : g.literal ≡ complement e.literal = eqb-true _ _ (both_left _ _ (both_right _ _ h)) in
    both_true _ _ (eq-eqb _ _ (sym a))
    (both_true _ _ (eq-eqb _ _ (sym (complement_twice e.literal) ∙ ap complement (sym l)))
    (ap fails (exclusive_sym g.body e.body) ∙ both_right _ _ (both_right _ _ h)))

pub clashes_with_itself : (e : Effect) → clashing e e ≡ false
unfolding clashing
clashes_with_itself e = by-test _ (λ t. absurd (complement_other e.literal (sym (eqb-true _ _ (both_left _ _ (both_right _ _ t)))))) (λ f. f)

module _ (t : Table) where
  runs_turns : (a : ℕ) (b c : List ℕ) → runs_with t a b c ≡ true → runs_with t a c b ≡ true
  unfolding runs_with
  runs_turns a b c = some_mono _ _ (λ x h. both_true _ _ (both_right _ _ h) (both_left _ _ h)) (executability_of t a)

  contradictory_turns : (e g : Effect) → contradictory t e g ≡ true → contradictory t g e ≡ true
  unfolding contradictory clashing
  contradictory_turns e g h =
      let a : e.action ≡ g.action = eqb-true _ _ (both_left _ _ (both_left _ _ h)) in
      both_true _ _ (clashing_turns e g (both_left _ _ h)) (runs_turns g.action e.body g.body (rw a at (both_right _ _ h)))

  pub contradictory_sym : (e g : Effect) → contradictory t e g ≡ contradictory t g e
  contradictory_sym e g = same_test _ _ (contradictory_turns e g) (contradictory_turns g e)

  pub contradicts_itself : (e : Effect) → contradictory t e e ≡ false
  unfolding contradictory both
  contradicts_itself e = rw (clashes_with_itself e)

  -- Two effects meet where their bodies pass two such tests, the second of which takes what the first takes, and some executability line's body
  -- passes the first: they are contradictory.
  pub meeting : (p q : ℕ → Bool) → ((l : ℕ) → p l ≡ true → q (complement l) ≡ true → ⊥) → ((l : ℕ) → p l ≡ true → q l ≡ true)
      → (e g : Effect) → e.action ≡ g.action → g.literal ≡ complement e.literal
      → allowed p (executability_of t e.action) ≡ true → each_of p e.body ≡ true → each_of q g.body ≡ true → contradictory t e g ≡ true
  unfolding contradictory clashing runs_with allowed
  meeting p q apart takes e g a l runs he hg =
      let x = some_has _ (executability_of t e.action) runs in
      let hx = each_mono p q takes x.0.body x.2 in
      both_true _ _
      (both_true _ _ (eq-eqb _ _ a) (both_true _ _ (eq-eqb _ _ l) (together e.body g.body he hg)))
      (has_some _ (executability_of t e.action) x.0 x.1
      (both_true _ _ (together e.body x.0.body he hx) (ap fails (exclusive_sym g.body x.0.body) ∙ together x.0.body g.body x.2 hg)))
    where
      together : (b c : List ℕ) → each_of p b ≡ true → each_of q c ≡ true → fails (exclusive b c) ≡ true
      together b c hb hc = fails_false _ (by-test _ (λ o. absurd (exclusive_clash p q apart b c o hb hc)) (λ no-o. no-o))

-- 16.
pub at_same : {p q : ℕ} → at p ≡ at q → p ≡ q
at_same {p} e = ap place e
  where
    place : Found → ℕ
    place nowhere = p
    place (at i) = i

pub at≢nowhere : {p : ℕ} → at p ≡ nowhere → ⊥
at≢nowhere e = subst told e tt
  where
    told : Found → Type 0
    told nowhere = ⊥
    told (at p) = Unit {0}

module _ (against : Effect → Effect → Bool) where
  -- Where no effect is against one before it, no two are against each other.
  pub none_against : ((e : Effect) → against e e ≡ false) → ((e g : Effect) → against e g ≡ against g e)
      → (before es : List Effect) → first_against against before es ≡ nowhere → (e g : Effect) → Has es e → Has es g ⊎ Has before g → against e g ≡ false
  unfolding first_against
  none_against itself turned before [] q e g he hg = absurd he
  none_against itself turned before (x ∷ xs) q e g he hg =
      pick-cases _ _ _ q (λ _ r. absurd (at≢nowhere r)) (λ free r. go free (none_against itself turned (x ∷ before) xs r) he hg)
    where
      go : some_of (against x) before ≡ false
          → ((e g : Effect) → Has xs e → Has xs g ⊎ Has (x ∷ before) g → against e g ≡ false)
          → (e ≡ x) ⊎ Has xs e → ((g ≡ x) ⊎ Has xs g) ⊎ Has before g → against e g ≡ false
      go free ih (inl p) (inl (inl r)) = rw (p, r) (itself x)
      go free ih (inl p) (inl (inr h)) = rw p (turned x g ∙ ih g x h (inr (inl refl)))
      go free ih (inl p) (inr h) = rw p (by-test _ (λ t. clash (has_some _ before g h t) free) (λ f. f))
      go free ih (inr h) (inl (inl r)) = ih e g h (inr (inl r))
      go free ih (inr h) (inl (inr k)) = ih e g h (inl k)
      go free ih (inr h) (inr k) = ih e g h (inr (inr k))

  -- Where one is, two are.
  some_against : (before es : List Effect) (p : ℕ) → first_against against before es ≡ at p → (e g : Effect) × Has es e × (Has es g ⊎ Has before g) × (against e g ≡ true)
  unfolding first_against
  some_against before [] p q = absurd (at≢nowhere (sym q))
  some_against before (x ∷ xs) p q =
      pick-cases _ _ _ q
      (λ t _. let w = some_has _ before t in (x, w.0, inl refl, inr w.1, w.2))
      (λ _ r. let w = some_against (x ∷ before) xs p r in (w.0, w.1, inr w.2, ⊎_elim (λ h. inl (inr h)) (λ h. ⊎_elim (λ z. inl (inl z)) inr h) w.3, w.4))

-- Where 16 has passed, no two effects are contradictory.
pub past_16 : (t : Table) → contradiction_in t ≡ nowhere → (e g : Effect) → Has t.effects e → Has t.effects g → contradictory t e g ≡ false
unfolding contradiction_in
past_16 t q e g he hg = none_against (contradictory t) (contradicts_itself t) (contradictory_sym t) [] t.effects q e g he (inl hg)

-- Where 16 has not, two are.
pub by_16 : (t : Table) (p : ℕ) → contradiction_in t ≡ at p → (e g : Effect) × Has t.effects e × Has t.effects g × (contradictory t e g ≡ true)
unfolding contradiction_in
by_16 t p q = let w = some_against (contradictory t) [] t.effects p q in (w.0, w.1, w.2, ⊎_elim (λ h. h) absurd w.3, w.4)

-- THE THREE WITHOUT THEIR PLACES.
abbrev pub unplaced_found : Found → Found
unplaced_found nowhere = nowhere
unplaced_found (at p) = at 0

abbrev pub found_if : Bool → Found
found_if b = pick b (λ _. at 0) (λ _. nowhere)

pub unplaced_or_else : (f : Found) (k : Unit {0} → Found) → unplaced_found (or_else f k) ≡ or_else (unplaced_found f) (λ _. unplaced_found (k tt))
unfolding or_else
unplaced_or_else nowhere k = refl
unplaced_or_else (at p) k = refl

pub unplaced_17 : (es : List Effect) (ks : List Knowledge) → unplaced_found (mixed_in es ks) ≡ found_if (some_of (λ (k : Knowledge). some_of (λ (e : Effect). eqb e.action k.action) es) ks)
unfolding mixed_in some_of pick either
unplaced_17 es [] = refl
unplaced_17 es (k ∷ ks) =
    go (some_of (λ (e : Effect). eqb e.action k.action) es) (some_of (λ (j : Knowledge). some_of (λ (e : Effect). eqb e.action j.action) es) ks) (unplaced_17 es ks)
  where
    go : (here later : Bool) → unplaced_found (mixed_in es ks) ≡ found_if later → unplaced_found (pick here (λ _. at k.place) (λ _. mixed_in es ks)) ≡ found_if (either here later)
    go true later ih = refl
    go false later ih = ih

conditions_unplaced : (bs : Branches ℕ) → conditions_of (unplaced_branches bs) ≡ conditions_of bs
unfolding conditions_of
conditions_unplaced none = refl
conditions_unplaced (branch c b bs) = ap {B = List (List ℕ)} (λ cs. c ∷ cs) (conditions_unplaced bs)

mutual
  unfolding failing_in

  pub unplaced_18 : (p : Sequence ℕ) → unplaced_found (overlap_in p) ≡ overlap_in (unplaced p)
  unplaced_18 done = refl
  unplaced_18 (item i rest) = unplaced_or_else (overlap_at i) _ ∙ rw (unplaced_18_item i, unplaced_18 rest)

  unplaced_18_item : (i : Item ℕ) → unplaced_found (overlap_at i) ≡ overlap_at (unplaced_item i)
  unplaced_18_item (act p a) = refl
  unplaced_18_item (branching p bs) =
      pick_map unplaced_found _ _ _ ∙ rw (unplaced_18_branches bs, conditions_unplaced bs)

  unplaced_18_branches : (bs : Branches ℕ) → unplaced_found (overlap_below bs) ≡ overlap_below (unplaced_branches bs)
  unplaced_18_branches none = refl
  unplaced_18_branches (branch c b bs) = unplaced_or_else (overlap_in b) _ ∙ rw (unplaced_18 b, unplaced_18_branches bs)
