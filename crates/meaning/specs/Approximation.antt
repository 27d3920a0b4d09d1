-- The 0-approximation, as Zhao and Shen set it out in their definitions 2.1 to 2.4 (FORMAT 1.11): sets of fluents, unions, the failed state.
-- It shares the request with the other definitions and nothing of the walk. A set of fluents is a test.
use Rattle.std.specs.Prelude.{ℕ, ◌≡◌, Bool, true, false, List, ◌⊎◌, eqb}
use Rattle.meaning.specs.Tests.{both, either, fails, pick, some_of, each_of, Has}
use Rattle.meaning.specs.Literals.{says_true, says_false, fluent_of, positive, among}
use Rattle.meaning.specs.Requests.{Effect, Executability, Knowledge, Table, Sequence, done, item, Item, act, branching, Branches, none, branch, Request, values}

-- An a-state is a pair of disjoint sets: the fluents that are true, and those that are false.
pub record Pair : Type 0 where
  pub T : ℕ → Bool
  pub F : ℕ → Bool

abbrev pub Disjoint : Pair → Type 0
Disjoint σ = (f : ℕ) → both (σ.T f) (σ.F f) ≡ false

unfoldable pub true_in : Pair → ℕ → Bool
true_in σ l = pick (positive l) (λ _. σ.T (fluent_of l)) (λ _. σ.F (fluent_of l))

unfoldable pub false_in : Pair → ℕ → Bool
false_in σ l = pick (positive l) (λ _. σ.F (fluent_of l)) (λ _. σ.T (fluent_of l))

unfoldable pub possibly_true : Pair → ℕ → Bool
possibly_true σ l = fails (false_in σ l)

-- The extension order.
infix 40 ◌≼◌
pub record ◌≼◌ (σ δ : Pair) : Type 0 where
  pub T : (f : ℕ) → σ.T f ≡ true → δ.T f ≡ true
  pub F : (f : ℕ) → σ.F f ≡ true → δ.F f ≡ true

module _ (t : Table) where
  -- Some ex-proposition of the action has all its literals true.
  unfoldable pub executable : ℕ → Pair → Bool
  executable a σ = some_of (λ (x : Executability). both (eqb x.action a) (each_of (true_in σ) x.body)) t.executability

  -- The fluents of which some ef-proposition "a causes .. if .." has a precondition that passes the test: e and F, by the test.
  unfoldable pub caused : ℕ → (ℕ → Bool) → ℕ → Bool
  caused a test l = some_of (λ (e : Effect). both (eqb e.action a) (both (eqb e.literal l) (each_of test e.body))) t.effects

  unfoldable pub e⁺ : ℕ → Pair → ℕ → Bool
  e⁺ a σ f = caused a (true_in σ) (says_true f)

  unfoldable pub e⁻ : ℕ → Pair → ℕ → Bool
  e⁻ a σ f = caused a (true_in σ) (says_false f)

  unfoldable pub F⁺ : ℕ → Pair → ℕ → Bool
  F⁺ a σ f = caused a (possibly_true σ) (says_true f)

  unfoldable pub F⁻ : ℕ → Pair → ℕ → Bool
  F⁻ a σ f = caused a (possibly_true σ) (says_false f)

  -- The fluents that the action determines; it is a sensing action where there is one.
  unfoldable pub K : ℕ → ℕ → Bool
  K a f = some_of (λ (k : Knowledge). both (eqb k.action a) (eqb k.fluent f)) t.knowledge

  unfoldable pub sensing_action : ℕ → Bool
  sensing_action a = some_of (λ (k : Knowledge). eqb k.action a) t.knowledge

  -- The result of a non-sensing action.
  unfoldable pub Res : ℕ → Pair → Pair
  Res a σ = record {
    T = λ f. both (either (σ.T f) (e⁺ a σ f)) (fails (F⁻ a σ f));
    F = λ f. both (either (σ.F f) (e⁻ a σ f)) (fails (F⁺ a σ f));
  }

-- What a transition may lead to: the failed state, or an a-state.
pub data Result : Type 0 where
  failed : Result
  state : Pair → Result

-- A set of results is what is said of its members.
abbrev pub Results : Type 1
Results = Result → Type 0

-- The transition function.
pub record Sensed (t : Table) (a : ℕ) (σ δ : Pair) : Type 0 where
  pub disjoint : Disjoint δ
  pub extends : σ ≼ δ
  pub domain : (f : ℕ) → either (δ.T f) (δ.F f) ≡ either (either (σ.T f) (σ.F f)) (K t a f)

abbrev pub Φ : Table → ℕ → Pair → Results
Φ t a σ failed = executable t a σ ≡ false
Φ t a σ (state δ) = (executable t a σ ≡ true) × (((sensing_action t a ≡ false) × (δ ≡ Res t a σ)) ⊎ ((sensing_action t a ≡ true) × Sensed t a σ δ))

-- The union of G over a set's members, where the failed state stays failed.
abbrev pub Union : Results → (Pair → Results) → Results
Union Σ G x = (Σ failed × (x ≡ failed)) ⊎ ((σ : Pair) × Σ (state σ) × G σ x)

-- None of the conditions is true.
abbrev pub NoneTrue : Branches ℕ → Pair → Type 0
NoneTrue none σ = Unit {0}
NoneTrue (branch c b bs) σ = (each_of (true_in σ) c ≡ false) × NoneTrue bs σ

-- The extended transition function, definition 2.3, of a transition function.
module _ (one : ℕ → Pair → Results) where
  abbrev mutual
    pub extended : Sequence ℕ → Pair → Results
    extended done σ x = x ≡ state σ
    extended (item i rest) σ x = Union (λ y. extended_item i σ y) (λ δ y. extended rest δ y) x

    pub extended_item : Item ℕ → Pair → Results
    extended_item (act p a) σ x = one a σ x
    extended_item (branching p bs) σ x = extended_case bs σ x ⊎ (NoneTrue bs σ × (x ≡ failed))

    pub extended_case : Branches ℕ → Pair → Results
    extended_case none σ x = ⊥
    extended_case (branch c b bs) σ x = ((each_of (true_in σ) c ≡ true) × extended b σ x) ⊎ extended_case bs σ x

-- What is asked of an a-state: that literals are true, or that a fluent is true or false.
abbrev pub all_true : List ℕ → Pair → Bool
all_true X σ = each_of (true_in σ) X

abbrev pub true_or_false : ℕ → Pair → Bool
true_or_false f σ = either (true_in σ (says_true f)) (false_in σ (says_true f))

module _ (t : Table) where
  abbrev pub Φ̂ : Sequence ℕ → Pair → Results
  Φ̂ = extended (Φ t)

  abbrev pub Φ̂_item : Item ℕ → Pair → Results
  Φ̂_item = extended_item (Φ t)

  abbrev pub Φ̂_case : Branches ℕ → Pair → Results
  Φ̂_case = extended_case (Φ t)

  -- The least initial a-state: the initial facts and nothing else.
  unfoldable pub least : Pair
  least = record { T = λ f. among (says_true f) t.facts; F = λ f. among (says_false f) t.facts }

  -- An initial a-state has every initial fact true.
  pub record Initial (σ : Pair) : Type 0 where
    pub disjoint : Disjoint σ
    pub facts : each_of (true_in σ) t.facts ≡ true

  -- Entailment, definition 2.4, of a transition function: from every initial a-state the plan can be carried out, and what is asked is true in
  -- each a-state that it leads to.
  pub record EntailsBy (one : ℕ → Pair → Results) (c : Sequence ℕ) (asked : Pair → Bool) : Type 0 where
    pub executable : (σ : Pair) → Initial σ → extended one c σ failed → ⊥
    pub true_after : (σ : Pair) → Initial σ → (δ : Pair) → extended one c σ (state δ) → asked δ ≡ true

  -- In the 0-approximation.
  abbrev pub Entails : Sequence ℕ → (Pair → Bool) → Type 0
  Entails = EntailsBy (Φ t)

  -- Knows X after c, and Kwhether f after c.
  abbrev pub KnowsAfter : List ℕ → Sequence ℕ → Type 0
  KnowsAfter X c = Entails c (all_true X)

  abbrev pub KwhetherAfter : ℕ → Sequence ℕ → Type 0
  KwhetherAfter f c = Entails c (true_or_false f)

-- What a request asks is entailed: the goals are known after the plan, and of each whether fluent it is known whether.
abbrev pub EntailedBy : (ℕ → Pair → Results) → Request → Type 0
EntailedBy one r =
    EntailsBy r.table one r.plan (all_true (values r.goals))
    × ((f : ℕ) → Has (values r.whether) f → EntailsBy r.table one r.plan (true_or_false f))

abbrev pub Entailed : Request → Type 0
Entailed r = EntailedBy (Φ r.table) r
